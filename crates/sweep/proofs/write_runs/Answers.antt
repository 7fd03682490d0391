-- `sweep::write_runs` meets its contract. The loop stands at a turn of the answer, or at the limit, and has written the runs before it.
-- Assumes nothing.
use mathlib.Core.Path.{◌≡◌, refl}
use native.Mathlib.Omega.{arith}
use Rattle.sweep.proofs.Sweeping.{sweeping_start, sweeping_asks, sweeping_top_asks, sweeping_top, sweeping_on}
use Rattle.sweep.proofs.Writing.{writing_start, writing_few, start_fits, hop_fits, writing_on}
use Rattle.sweep.proofs.write_runs.Goals as goal

-- the call, from the empty stack
pub begin-s-requires : goal.begin-s-requires
begin-s-requires c = let pre = c.requires in (pre.0, refl, refl)

pub loop-s-init : goal.loop-s-init
loop-s-init c =
    let o = c.begin-s.ensures in
    let pre = c.requires in
    (sweeping_start _ _ _ c.args.rows.sorted pre.1 o.1 o.0, writing_start o.0 pre.3 pre.4, pre.2)

pub overflow_cast-starts : goal.overflow_cast-starts
overflow_cast-starts c = omega (arith, c.loop-s.invariant.2, c.loop-s-test.true)

pub offset_bounds-starts-n : goal.offset_bounds-starts-n
offset_bounds-starts-n c =
    let inv = c.loop-s.invariant in
    omega (arith, writing_few inv.1, inv.2, c.loop-s-test.true)

pub bounds-starts-n : goal.bounds-starts-n
bounds-starts-n c =
    let inv = c.loop-s.invariant in
    let before = c.loop-s-test.true in
    start_fits inv.1 inv.0.from before (inv.0.turn before)

pub top_hop-requires : goal.top_hop-requires
top_hop-requires c =
    sweeping_top_asks c.loop-s.invariant.0 c.loop-s-test.true

pub offset_bounds-rhops-n : goal.offset_bounds-rhops-n
offset_bounds-rhops-n c =
    let inv = c.loop-s.invariant in
    omega (arith, writing_few inv.1, inv.2, c.loop-s-test.true)

pub bounds-rhops-n : goal.bounds-rhops-n
bounds-rhops-n c =
    let inv = c.loop-s.invariant in
    let before = c.loop-s-test.true in
    hop_fits inv.1 inv.0.from before (inv.0.turn before)

pub overflow_add-n : goal.overflow_add-n
overflow_add-n c =
    let inv = c.loop-s.invariant in
    omega (arith, writing_few inv.1, inv.2, c.loop-s-test.true)

pub next_turn-s-requires : goal.next_turn-s-requires
next_turn-s-requires c =
    sweeping_asks c.loop-s.invariant.0 c.loop-s-test.true

pub loop-s-smaller : goal.loop-s-smaller
loop-s-smaller c = omega (arith, c.next_turn-s.ensures.past, c.next_turn-s.ensures.upto)

pub loop-s-preserved : goal.loop-s-preserved
loop-s-preserved c =
    let inv = c.loop-s.invariant in
    let before = c.loop-s-test.true in
    let t = c.next_turn-s.ensures in
    let hop = sweeping_top inv.0 before c.top_hop.ensures in
    (sweeping_on inv.0 before t, writing_on inv.1 inv.0.from before (inv.0.turn before) t.past t.stays hop, inv.2)

pub shape_of-starts : goal.shape_of-starts
shape_of-starts c = c.loop-s.invariant.1.as_long

pub shape_of-rhops : goal.shape_of-rhops
shape_of-rhops c = c.loop-s.invariant.1.hops_as_long

pub returns : goal.returns
returns c =
    let l = c.loop-s in
    let there : l.s.at ≡ c.args.limit = omega (arith, l.invariant.0.upto, c.loop-s-test.false) in
    rw there at l.invariant.1.written_so_far
