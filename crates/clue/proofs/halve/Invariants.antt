-- Invariants and measures.
-- Assumes nothing.
use lib.ListN.{get_or}
use Rattle.clue.proofs.Turning.{Turning}
use Rattle.clue.proofs.halve.Given as goal

abbrev pub invariant-loop-left : goal.invariant-loop-left
invariant-loop-left l = Turning (λ i. get_or l.ekeys i 0) l.n l.k l.s.place l.s.low l.s.high l._left
