-- Invariants and measures.
-- Assumes nothing.
use lib.ListN.{get_or}
use Rattle.halving.proofs.Turning.{Turning}
use Rattle.lookup.proofs.in_slices.Given as goal

abbrev pub invariant-loop : goal.invariant-loop
invariant-loop l = Turning (λ i. get_or l.starts i 0) l.n l.a l.turns l.s.place l.s.low l.s.high l.counter
