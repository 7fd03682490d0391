-- Rule 10.1: the list after an edit of prefix k. Hop 0 stands for a withdrawal.
-- Assumes nothing.
use Rattle.std.specs.Prelude.{cond, List, ℕ, eqb}
use Rattle.routes.specs.Row.{Row}
use Rattle.routes.specs.Change.{announced, withdrawn}

unfoldable pub edited_rows : ℕ → ℕ → List Row → List Row
edited_rows k h rows = cond (eqb h 0) (withdrawn k rows) (announced k h rows)
