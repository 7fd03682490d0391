-- Rules 19.3 to 19.6: the numbers that calls of the hints return, of which 0, 11 and 13 are those of all calls (rule 5.1).
-- Assumes nothing.
use Rattle.std.specs.Prelude.{◌≡◌, ℕ}
use Rattle.ground.specs.Numbers.{ill_formed, no_room}
use Rattle.clue.specs.declared.Refusal.{Refusal}
use Rattle.clue.specs.declared.Refusal.TheVariants as R

-- 15: a length is above 32
abbrev pub bad_length : ℕ
bad_length = 15

-- 14: the entries are not the list's for their clues
abbrev pub not_its_entries : ℕ
not_its_entries = 14

-- the number of a refusal, and that a number is it
abbrev pub number_of : Refusal → ℕ
number_of R.IllFormed = ill_formed
number_of R.NoRoom = no_room
number_of R.NotItsEntries = not_its_entries
number_of R.BadLength = bad_length

abbrev pub GivesNumber : Refusal → ℕ → Type 0
GivesNumber r n = n ≡ number_of r
