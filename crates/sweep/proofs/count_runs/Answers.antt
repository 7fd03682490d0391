-- `sweep::count_runs` meets its contract. The loop stands at a turn of the answer, or at the limit, and has counted the turns before it.
-- Assumes nothing.
use mathlib.Core.Path.{◌≡◌, refl}
use Prim.Native.Nat.{◌-◌}
use native.Mathlib.Omega.{arith}
use Rattle.ground.specs.Stretch.{turns_from}
use Rattle.ground.specs.Stretch.Count.{counted_at_most}
use Rattle.ground.specs.Stretch.Turns.{counted_to_first}
use Rattle.sweep.specs.Sweep.{all_rows, answer}
use Rattle.sweep.proofs.Sweeping.{sweeping_start, sweeping_asks, sweeping_on, sweeping_counted}
use Rattle.sweep.proofs.count_runs.Goals as goal

-- the call, from the empty stack
pub begin-s-requires : goal.begin-s-requires
begin-s-requires c = let pre = c.requires in (pre.0, refl, refl)

pub loop-s-init : goal.loop-s-init
loop-s-init c =
    let o = c.begin-s.ensures in
    let pre = c.requires in
    (sweeping_start _ _ _ c.args.rows.sorted pre.1 o.1 o.0, counted_to_first _ _ _ o.0, pre.2)

pub overflow_add-n : goal.overflow_add-n
overflow_add-n c =
    let l = c.loop-s in
    let a = c.args in
    let f = answer a.base (all_rows a.rows.keys.now a.rows.hops.now) in
    let few = counted_at_most (turns_from a.start f) a.start (l.s.at - a.start) in
    omega (arith, l.invariant.1, l.invariant.2, c.loop-s-test.true)

pub next_turn-s-requires : goal.next_turn-s-requires
next_turn-s-requires c =
    sweeping_asks c.loop-s.invariant.0 c.loop-s-test.true

pub loop-s-smaller : goal.loop-s-smaller
loop-s-smaller c = omega (arith, c.next_turn-s.ensures.past, c.next_turn-s.ensures.upto)

pub loop-s-preserved : goal.loop-s-preserved
loop-s-preserved c =
    let inv = c.loop-s.invariant in
    let before = c.loop-s-test.true in
    let t = c.next_turn-s.ensures in
    (sweeping_on inv.0 before t, sweeping_counted inv.0 before t inv.1, inv.2)

pub returns : goal.returns
returns c =
    let l = c.loop-s in
    let there : l.s.at ≡ c.args.limit = omega (arith, l.invariant.0.upto, c.loop-s-test.false) in
    rw there at l.invariant.1
