-- Invariants and measures.
-- Assumes nothing.
use Prim.Native.Nat.{◌-◌}
use Rattle.within.proofs.Measuring.{Measuring}
use Rattle.within.proofs.inside.measure.Given as goal

abbrev pub invariant-loop-s : goal.invariant-loop-s
invariant-loop-s l = Measuring l.rows.keys.now l.rows.hops.now l.base l.start l.limit l.ends l.open_hops l.s.row l.s.depth l.s.at l.first l.last l.runs

abbrev pub decreases-loop-s : goal.decreases-loop-s
decreases-loop-s l = l.limit - l.s.at
