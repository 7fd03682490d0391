-- One edit of a prefix that is one, without its first check, and of a pair that agrees, without the pair's checks: rules 10.4 and 10.5 are
-- what is left to check then. Hop 0 stands for a withdrawal.
-- Assumes nothing.
use Rattle.std.specs.Prelude.{not, ◌&&◌, List, [], ◌∷◌, ◌++◌, ℕ, eqb}
use Rattle.ground.specs.Numbers.{Check, check, outcome, not_listed, no_room}
use Rattle.routes.specs.Change.{listed}
use Rattle.runs.specs.Pair.{Pair, list_of, pair_checks}
use Rattle.plan.specs.Edited.{edited_rows}
use Rattle.edit.specs.Edit.{Edited, edit_refused, edit_done, exceeds}

unfoldable pub local_checks : ℕ → ℕ → Pair → List Check
local_checks k h p =
    check (eqb h 0 && not (listed k (list_of p))) not_listed
    ∷ check (exceeds (edited_rows k h (list_of p)) p) no_room
    ∷ []

unfoldable pub edit_agreed : ℕ → ℕ → Pair → Edited
edit_agreed k h p = outcome (local_checks k h p) (edit_refused p) (edit_done (edited_rows k h (list_of p)) p)

unfoldable pub edit_pair : ℕ → ℕ → Pair → Edited
edit_pair k h p = outcome (pair_checks p ++ local_checks k h p) (edit_refused p) (edit_done (edited_rows k h (list_of p)) p)
