-- A refusal's number is told from 0 and from that of any other refusal of the hints.
-- Assumes nothing.
use Rattle.std.proofs.Common.{◌≡◌, refl, false, cond, ℕ, eqb}
use Rattle.ground.specs.Numbers.{done, ill_formed, no_room}
use Rattle.clue.specs.declared.Refusal.{Refusal}
use Rattle.clue.specs.declared.Refusal.TheVariants as R
use Rattle.clue.specs.Refusal.{number_of, not_its_entries}

abbrev pub refusal_by : ℕ → Refusal
refusal_by n = cond (eqb n ill_formed) R.IllFormed (cond (eqb n no_room) R.NoRoom (cond (eqb n not_its_entries) R.NotItsEntries R.BadLength))

pub number_tells : (r : Refusal) → refusal_by (number_of r) ≡ r
number_tells R.IllFormed = refl
number_tells R.NoRoom = refl
number_tells R.NotItsEntries = refl
number_tells R.BadLength = refl

pub number_not_done : (r : Refusal) → eqb (number_of r) done ≡ false
number_not_done R.IllFormed = refl
number_not_done R.NoRoom = refl
number_not_done R.NotItsEntries = refl
number_not_done R.BadLength = refl
