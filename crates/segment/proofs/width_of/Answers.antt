-- `segment::width_of` meets its contract: a turn leaves the width that of the keys up to its own.
-- Assumes nothing.
use native.Mathlib.Omega.{arith}
use Rattle.segment.proofs.Widening.{widening_on}
use Rattle.segment.proofs.width_of.Goals as goal

pub loop-key-preserved : goal.loop-key-preserved
loop-key-preserved c = widening_on c.loop-key.invariant (omega arith) (omega arith) (omega arith)
