-- The loop stands before a block and has written the hops kept before it.
-- Assumes nothing.
use Rattle.segment.proofs.WritingHops.{Writing}
use Rattle.segment.proofs.write_hops.Given as goal

abbrev pub invariant-loop : goal.invariant-loop
invariant-loop l = Writing l.starts l.rhops l.base l.size l.n l.walk l.at l.counter l.kept l.fn.out l.out
