-- Invariants and measures.
-- Assumes nothing.
use Rattle.sweep.specs.Sweep.{Stack}
use Rattle.sweep.proofs.open_here.Given as goal

abbrev pub invariant-loop-row : goal.invariant-loop-row
invariant-loop-row l = Stack l.rows.keys.now l.rows.hops.now l.ends l.open_hops l.row l.depth l.at l.at
