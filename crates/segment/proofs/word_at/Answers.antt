-- `segment::word_at` meets its contract: a turn is one bit more.
-- Assumes nothing.
use native.Mathlib.Omega.{arith}
use Rattle.segment.proofs.WordMaking.{making_start, may_go, bit_small, bit_fits, making_next, filled_fits, word_first, first_fits, word_later}
use Rattle.segment.proofs.word_at.Goals as goal

pub loop-block-init : goal.loop-block-init
loop-block-init c = making_start c.requires.2

pub go_on-requires : goal.go_on-requires
go_on-requires c = let may = may_go c.loop-block.invariant (omega arith) in (c.requires.0, may.0, may.1)

pub overflow_mul-word : goal.overflow_mul-word
overflow_mul-word c = omega (arith, bit_fits c.loop-block.invariant (omega arith))

pub overflow_add-word : goal.overflow_add-word
overflow_add-word c = omega (arith, bit_fits c.loop-block.invariant (omega arith), c.from.ensures, bit_small c.go_on.result)

pub loop-block-preserved : goal.loop-block-preserved
loop-block-preserved c =
    making_next c.loop-block.invariant (omega arith) (omega arith) c.go_on.ensures.stands c.go_on.ensures.other c.from.ensures

pub filled-word-requires : goal.filled-word-requires
filled-word-requires c = (omega arith, filled_fits c.loop-block.invariant c.min-end.ensures (omega arith) c.requires.3)

pub overflow_add-result : goal.overflow_add-result
overflow_add-result c = omega (arith, first_fits c.loop-block.invariant c.min-end.ensures (omega arith) c.requires.3 c.filled-word.ensures (omega arith))

pub returns-then-first-eq0-clause-word : goal.returns-then-first-eq0-clause-word
returns-then-first-eq0-clause-word c =
    omega (arith, word_first c.loop-block.invariant c.min-end.ensures (omega arith) c.requires.3 c.filled-word.ensures (omega arith))

pub returns-else-first-eq0-clause-word : goal.returns-else-first-eq0-clause-word
returns-else-first-eq0-clause-word c =
    omega (arith, word_later c.loop-block.invariant c.min-end.ensures (omega arith) c.requires.3 c.filled-word.ensures (omega arith))
