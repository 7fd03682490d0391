-- Rules 19.3 and 19.4: a build makes the entries of a list for lent clues. It returns 15 for a length above 32, 11 for a list that isn't
-- well-formed, 13 for more entries than room, and else 0 and the number of entries.
-- Assumes nothing.
use Rattle.std.specs.Prelude.{not, List, [], ◌∷◌, ℕ, length, ltb, Result, Ok, Err}
use Rattle.ground.specs.Numbers.{Check, check, outcome, done, ill_formed, no_room}
use Rattle.routes.specs.Row.{ListLent, rows_lent}
use Rattle.routes.specs.WellFormed.{well_formed}
use Rattle.entries.specs.Entries.{clues, too_long, in_key_order, EntriesLent, entries_lent, entry_room, entries_in}
use Rattle.clue.specs.declared.Refusal.{Refusal}
use Rattle.clue.specs.Refusal.{number_of, bad_length}

-- what a build returns and leaves: its number, how many entries, and the three slices
pub record EntriesOutcome : Type 0 where
  pub number : ℕ
  pub count : ℕ
  pub left : EntriesLent

abbrev pub made : ℕ → ℕ → EntriesLent → EntriesOutcome
made n count left = record { number = n; count = count; left = left }

-- the same, read from the code's answer and the slices at exit
abbrev pub entries_gave : Result ℕ Refusal → List ℕ → List ℕ → List ℕ → EntriesOutcome
entries_gave (Ok n) keys hops marks = made done n (entries_lent keys hops marks)
entries_gave (Err e) keys hops marks = made (number_of e) 0 (entries_lent keys hops marks)

-- Rule 19.4: the checks of a build.
unfoldable pub entries_checks : ListLent → List ℕ → List ℕ → EntriesLent → List Check
entries_checks l lengths addresses e =
    check (too_long lengths addresses) bad_length
    ∷ check (not (well_formed l.count l.keys l.hops)) ill_formed
    ∷ check (ltb (entry_room e) (length (in_key_order (clues lengths addresses)))) no_room
    ∷ []

-- Rules 19.3 and 19.4: the build of entries.
unfoldable pub build_entries : ListLent → List ℕ → List ℕ → EntriesLent → EntriesOutcome
build_entries l lengths addresses e = outcome (entries_checks l lengths addresses e) (λ n. made n 0 e)
    (made done (length (in_key_order (clues lengths addresses))) (entries_in (rows_lent l) (in_key_order (clues lengths addresses)) e))
