-- Rule 10.1: an announced prefix gets a row with the hop, or its row gets the hop; a withdrawn one loses its row.
-- This is the list afterwards. Rule 10.9: the changed number is how many addresses have another plain answer by it.
-- Assumes nothing.
use Rattle.std.specs.Prelude.{Bool, not, cond, List, [], ◌∷◌, ℕ, ltb, eqb}
use Rattle.cidr.specs.Prefix.{addresses}
use Rattle.ground.specs.Column.{is_in}
use Rattle.ground.specs.Stretch.{counted}
use Rattle.routes.specs.Row.{Row, row, keys_of, those}
use Rattle.routes.specs.Plain.{plain}
pub mod Laws

-- Rule 2.8: the prefix is listed.
abbrev pub listed : ℕ → List Row → Bool
listed k rows = is_in k (keys_of rows)

-- Rule 10.1: the list after prefix k was announced with hop h, in key order (rule 2.9).
unfoldable pub announced : ℕ → ℕ → List Row → List Row
announced k h [] = row k h ∷ []
announced k h (r ∷ rs) =
    cond (ltb k r.key) (row k h ∷ r ∷ rs)
    (cond (eqb k r.key) (row k h ∷ rs) (r ∷ announced k h rs))

-- Rule 10.1: the list after prefix k was withdrawn.
unfoldable pub withdrawn : ℕ → List Row → List Row
withdrawn k rows = those (λ r. not (eqb k r.key)) rows

-- how many of all addresses have another answer by g than by f
pub changed : (ℕ → ℕ) → (ℕ → ℕ) → ℕ
changed f g = counted (λ a. not (eqb (f a) (g a))) 0 addresses

-- Rule 10.9: the changed number of an edit that makes one list the other.
pub changed_between : List Row → List Row → ℕ
changed_between before after = changed (plain before) (plain after)
