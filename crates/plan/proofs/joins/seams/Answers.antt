-- `plan::joins::seams` meets its contract: some run begins up to end, and the block goes behind the runs inside (`Joining`).
-- Assumes nothing.
use mathlib.Core.Path.{◌≡◌}
use Prim.Native.Nat.{◌+◌}
use native.Mathlib.Omega.{arith}
use Rattle.ground.specs.Column.{lower}
use Rattle.plan.proofs.Joining.{some_below, joint_within, seamed}
use Rattle.plan.proofs.joins.seams.Goals as goal

pub overflow_sub-hop : goal.overflow_sub-hop
overflow_sub-hop c =
    let placed : c.lower-past.result ≡ lower (c.args.end + 1) c.args.starts.now = c.lower-past.ensures c.requires.0.ascend in
    omega (arith, placed, some_below c.requires.0 (c.args.end + 1) (omega arith))

pub offset_bounds-rhops-past : goal.offset_bounds-rhops-past
offset_bounds-rhops-past c =
    let placed : c.lower-past.result ≡ lower (c.args.end + 1) c.args.starts.now = c.lower-past.ensures c.requires.0.ascend in
    omega (arith, placed, some_below c.requires.0 (c.args.end + 1) (omega arith), c.requires.0.paired)

pub bounds-rhops-past : goal.bounds-rhops-past
bounds-rhops-past c =
    let placed : c.lower-past.result ≡ lower (c.args.end + 1) c.args.starts.now = c.lower-past.ensures c.requires.0.ascend in
    omega (arith, placed, some_below c.requires.0 (c.args.end + 1) (omega arith), c.requires.0.paired)

pub overflow_add-joint : goal.overflow_add-joint
overflow_add-joint c = omega (arith, joint_within c.joint_before-joint.ensures, c.requires.3)

pub block_slot-to-requires : goal.block_slot-to-requires
block_slot-to-requires c = omega (arith, joint_within c.joint_before-joint.ensures, c.requires.3)

pub returns : goal.returns
returns c =
    let placed : c.lower-past.result ≡ lower (c.args.end + 1) c.args.starts.now = c.lower-past.ensures c.requires.0.ascend in
    seamed c.joint_before-joint.ensures placed c.block_slot-to.ensures
