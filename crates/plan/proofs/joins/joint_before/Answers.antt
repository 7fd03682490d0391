-- `plan::joins::joint_before` meets its contract: past address 0 there is a run before net, and its hop says whether they join (`Joining`).
-- Assumes nothing.
use mathlib.Core.Path.{◌≡◌}
use native.Mathlib.Omega.{arith}
use Rattle.ground.specs.Column.{lower}
use Rattle.plan.proofs.Joining.{some_below, joint_first, joint_new, joint_shared}
use Rattle.plan.proofs.joins.joint_before.Goals as goal

pub returns-then-net-eq0 : goal.returns-then-net-eq0
returns-then-net-eq0 c =
    let placed : c.lower-place.result ≡ lower c.args.net c.args.starts.now = c.lower-place.ensures c.requires.0.ascend in
    joint_first c.requires.0 _ _ _ placed (omega arith)

pub overflow_sub-last : goal.overflow_sub-last
overflow_sub-last c =
    let placed : c.lower-place.result ≡ lower c.args.net c.args.starts.now = c.lower-place.ensures c.requires.0.ascend in
    omega (arith, placed, some_below c.requires.0 c.args.net (omega arith))

pub offset_bounds-rhops-last : goal.offset_bounds-rhops-last
offset_bounds-rhops-last c =
    let placed : c.lower-place.result ≡ lower c.args.net c.args.starts.now = c.lower-place.ensures c.requires.0.ascend in
    omega (arith, placed, some_below c.requires.0 c.args.net (omega arith), c.requires.0.paired)

pub bounds-rhops-last : goal.bounds-rhops-last
bounds-rhops-last c =
    let placed : c.lower-place.result ≡ lower c.args.net c.args.starts.now = c.lower-place.ensures c.requires.0.ascend in
    omega (arith, placed, some_below c.requires.0 c.args.net (omega arith), c.requires.0.paired)

pub returns-then-rhops-last : goal.returns-then-rhops-last
returns-then-rhops-last c =
    let placed : c.lower-place.result ≡ lower c.args.net c.args.starts.now = c.lower-place.ensures c.requires.0.ascend in
    joint_new c.requires.0 _ _ _ placed (omega arith) (λ e. omega arith)

pub offset_bounds-starts-last : goal.offset_bounds-starts-last
offset_bounds-starts-last c =
    let placed : c.lower-place.result ≡ lower c.args.net c.args.starts.now = c.lower-place.ensures c.requires.0.ascend in
    omega (arith, placed, some_below c.requires.0 c.args.net (omega arith))

pub bounds-starts-last : goal.bounds-starts-last
bounds-starts-last c =
    let placed : c.lower-place.result ≡ lower c.args.net c.args.starts.now = c.lower-place.ensures c.requires.0.ascend in
    omega (arith, placed, some_below c.requires.0 c.args.net (omega arith))

pub returns : goal.returns
returns c =
    let placed : c.lower-place.result ≡ lower c.args.net c.args.starts.now = c.lower-place.ensures c.requires.0.ascend in
    joint_shared c.requires.0 _ _ _ placed (omega arith) (omega arith)
