-- `segment::write_hops` meets its contract: the walk finds another hop, which is stored, exactly where the block's bit is 1.
-- Assumes nothing.
use native.Mathlib.Omega.{arith}
use Rattle.segment.proofs.AtBlock.{some_block, next_fits, may_go}
use Rattle.segment.proofs.CountingHops.{few_kept}
use Rattle.segment.proofs.WritingHops.{first_fits, writing_start, hop_fits, writing_kept, writing_same, all_written}
use Rattle.segment.proofs.write_hops.Goals as goal
use Rattle.segment.proofs.write_hops.Goals.{then-go_on, else-go_on}

pub bounds-out-0 : goal.bounds-out-0
bounds-out-0 c = first_fits _ _ _ _ _ c.requires.1 c.requires.3

pub loop-init : goal.loop-init
loop-init c = let pre = c.requires in writing_start pre.0 pre.1 pre.2 pre.3 (omega arith)

pub overflow_add-at : goal.overflow_add-at
overflow_add-at c = omega (arith, next_fits c.loop.invariant.counting.at_block (omega arith))

pub go_on-requires : goal.go_on-requires
go_on-requires c = may_go c.loop.invariant.counting.at_block

pub bounds-out-kept : goal.bounds-out-kept
bounds-out-kept c =
    let st = c.go_on.ensures in
    hop_fits c.loop.invariant (omega arith) st.stands st.other c.if-go_on.true

pub offset_bounds-out-kept : goal.offset_bounds-out-kept
offset_bounds-out-kept c = let here = bounds-out-kept c in omega arith

pub overflow_add-kept : goal.overflow_add-kept
overflow_add-kept c = omega (arith, few_kept c.loop.invariant.counting)

pub loop-preserved : goal.loop-preserved
loop-preserved c =
    let w = c.loop.invariant in
    let st = c.go_on.ensures in
    elim c.if-go_on.branch [
      | then-go_on b ↦ rw (b.out-is, b.kept-is) (writing_kept w (omega arith) st.stands st.other b.if-go_on.true)
      | else-go_on b ↦ rw (b.out-is, b.kept-is) (writing_same w (omega arith) st.stands st.other b.if-go_on.false)
    ]

pub returns : goal.returns
returns c = all_written c.loop.invariant (omega (arith, some_block c.requires.1))
