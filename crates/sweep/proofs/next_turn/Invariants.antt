-- Invariants and measures.
-- Assumes nothing.
use Prim.Native.Nat.{◌-◌}
use Rattle.sweep.proofs.Going.{Going}
use Rattle.sweep.proofs.next_turn.Given as goal

abbrev pub invariant-loop-s : goal.invariant-loop-s
invariant-loop-s l = Going l.rows.keys.now l.rows.hops.now l.base l.limit l.initial.s.at l.hop l.ends l.open_hops l.s.row l.s.depth l.s.at

abbrev pub decreases-loop-s : goal.decreases-loop-s
decreases-loop-s l = l.limit - l.s.at
