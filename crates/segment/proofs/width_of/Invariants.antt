-- The width is that of the keys up to here.
-- Assumes nothing.
use Rattle.segment.proofs.Widening.{Widening}
use Rattle.segment.proofs.width_of.Given as goal

abbrev pub invariant-loop-key : goal.invariant-loop-key
invariant-loop-key l = Widening l.keys l.q l.first l.start l.key-index l.width
