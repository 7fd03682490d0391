-- `lookup::in_slices` meets its contract. The loop keeps `Turning` true: halving is halfway, and the turns that are left are as many as high
-- and low still need.
-- Assumes nothing.
use native.Mathlib.Omega.{arith}
use Rattle.halving.proofs.Turning.{turning_turn, turning_end}
use Rattle.lookup.proofs.Reaching.{reached_high, reached}
use Rattle.lookup.proofs.in_slices.Goals as goal

pub loop-preserved : goal.loop-preserved
loop-preserved c = turning_turn c.loop.invariant (omega arith) c.narrow-s.ensures

pub end-end-requires : goal.end-end-requires
end-end-requires c = turning_end c.loop.invariant (omega arith) (omega arith)

pub last_before-requires : goal.last_before-requires
last_before-requires c =
    let high = reached_high c.loop.invariant (omega arith) c.end-end.ensures in
    (omega arith, high.0, high.1)

pub returns : goal.returns
returns c = reached c.loop.invariant (omega arith) c.end-end.ensures c.last_before.ensures
