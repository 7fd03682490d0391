-- The places of the rows passed that hold the address stand at the front (`Noting`).
-- Assumes nothing.
use Rattle.why.proofs.Walking.{Noting}
use Rattle.why.proofs.find.Given as goal

abbrev pub invariant-loop-at : goal.invariant-loop-at
invariant-loop-at l = Noting l.count l.keys l.a l.initial.found l.n l.at l.found
