-- `segment::count_hops` meets its contract: the walk finds another hop exactly where the block's bit is 1.
-- Assumes nothing.
use native.Mathlib.Omega.{arith}
use Rattle.segment.proofs.AtBlock.{some_block, next_fits, may_go}
use Rattle.segment.proofs.CountingHops.{counting_start, few_kept, counting_kept, counting_same, all_counted}
use Rattle.segment.proofs.count_hops.Goals as goal
use Rattle.segment.proofs.count_hops.Goals.{then-go_on, else-go_on}

pub loop-init : goal.loop-init
loop-init c = counting_start c.requires.0 c.requires.1 c.requires.2

pub overflow_add-at : goal.overflow_add-at
overflow_add-at c = omega (arith, next_fits c.loop.invariant.at_block (omega arith))

pub go_on-requires : goal.go_on-requires
go_on-requires c = may_go c.loop.invariant.at_block

pub overflow_add-kept : goal.overflow_add-kept
overflow_add-kept c = omega (arith, few_kept c.loop.invariant)

pub loop-preserved : goal.loop-preserved
loop-preserved c =
    let k = c.loop.invariant in
    let st = c.go_on.ensures in
    elim c.if-go_on.branch [
      | then-go_on w ↦ rw w.kept-is (counting_kept k (omega arith) st.stands st.other w.if-go_on.true)
      | else-go_on w ↦ rw w.kept-is (counting_same k (omega arith) st.stands st.other w.if-go_on.false)
    ]

pub returns : goal.returns
returns c = all_counted c.loop.invariant (omega (arith, some_block c.requires.1))
