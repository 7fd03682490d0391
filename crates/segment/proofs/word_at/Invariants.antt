-- The word of the bits seen, and the walk before the next block.
-- Assumes nothing.
use Rattle.segment.proofs.WordMaking.{Making}
use Rattle.segment.proofs.word_at.Given as goal

abbrev pub invariant-loop-block : goal.invariant-loop-block
invariant-loop-block l = Making l.starts l.rhops l.base l.size l.n l.first l.word l.walk l.block
