-- Invariants and measures.
-- Assumes nothing.
use Rattle.lookup.specs.Bytes.{start_at}
use Rattle.lookup.proofs.Reaching.{Reaching}
use Rattle.lookup.proofs.in_bytes.Given as goal

abbrev pub invariant-loop : goal.invariant-loop
invariant-loop l = Reaching (start_at l.bytes) l.n l.a l.turns l.s.place l.s.low l.s.high l.last l.counter
