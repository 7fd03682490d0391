-- The loop stands before a block and has counted the bits that are 1 before it.
-- Assumes nothing.
use Rattle.segment.proofs.CountingHops.{Counting}
use Rattle.segment.proofs.count_hops.Given as goal

abbrev pub invariant-loop : goal.invariant-loop
invariant-loop l = Counting l.starts l.rhops l.base l.size l.n l.walk l.at l.counter l.kept
