-- `split::open_all` meets its contract: a step to the next row's network opens that row.
-- Assumes nothing.
use native.Mathlib.Omega.{arith}
use Rattle.split.proofs.Opening.{may_step}
use Rattle.split.proofs.open_all.Goals as goal

pub step-s-requires : goal.step-s-requires
step-s-requires c = may_step c.loop-s.invariant (omega arith) c.network-to.ensures
