-- `within::inside::measure` meets its contract. The loop stands at a turn of the answer, or at the limit, has counted the turns before it, and
-- has the hop of the address before it.
-- Assumes nothing.
use mathlib.Core.Path.{refl}
use native.Mathlib.Omega.{arith}
use Rattle.within.proofs.Measuring.{may_look_first, measuring_start, few_runs, measuring_next, measuring_end}
use Rattle.sweep.proofs.Sweeping.{sweeping_asks, sweeping_top_asks}
use Rattle.within.proofs.inside.measure.Goals as goal

pub begin-s-requires : goal.begin-s-requires
begin-s-requires c = let pre = c.requires in (pre.0, refl, refl)

pub top_hop-first-requires : goal.top_hop-first-requires
top_hop-first-requires c = may_look_first c.args.rows.sorted c.begin-s.ensures

pub loop-s-init : goal.loop-s-init
loop-s-init c =
    let pre = c.requires in
    measuring_start c.args.rows.sorted c.begin-s.ensures _ _ pre.1 pre.2 c.top_hop-first.ensures

pub top_hop-last-requires : goal.top_hop-last-requires
top_hop-last-requires c = sweeping_top_asks c.loop-s.invariant.sweeping (omega arith)

pub overflow_add-runs : goal.overflow_add-runs
overflow_add-runs c = omega (arith, few_runs c.loop-s.invariant (omega arith))

pub next_turn-s-requires : goal.next_turn-s-requires
next_turn-s-requires c = sweeping_asks c.loop-s.invariant.sweeping (omega arith)

pub loop-s-smaller : goal.loop-s-smaller
loop-s-smaller c = omega (arith, c.next_turn-s.ensures.past, c.next_turn-s.ensures.upto)

pub loop-s-preserved : goal.loop-s-preserved
loop-s-preserved c =
    measuring_next c.loop-s.invariant (omega arith) c.top_hop-last.ensures c.next_turn-s.ensures

pub returns : goal.returns
returns c = measuring_end c.loop-s.invariant c.requires.1 (omega arith)
