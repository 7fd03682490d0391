-- `why::gather` meets its contract.
-- Assumes nothing.
use Rattle.why.proofs.Walking.{filling_start, filling_next}
use Rattle.why.proofs.gather.Goals as goal

pub loop-i-init : goal.loop-i-init
loop-i-init c = (filling_start _, filling_start _)

pub loop-i-preserved : goal.loop-i-preserved
loop-i-preserved c =
    let i = c.loop-i.invariant in
    (filling_next _ c.requires.in_bounds.0 i.0 c.loop-i-test.true, filling_next _ c.requires.in_bounds.1 i.1 c.loop-i-test.true)
