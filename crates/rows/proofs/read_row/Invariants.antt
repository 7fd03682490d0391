-- After each number the row says what the numbers so far and the rest of the row say (`Rowing`).
-- Assumes nothing.
use Rattle.rows.proofs.RowParse.{Rowing}
use Rattle.rows.proofs.read_row.Given as goal

abbrev pub invariant-loop-i : goal.invariant-loop-i
invariant-loop-i l = Rowing l.row l.v l.zeros l.at l.i
