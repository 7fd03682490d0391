-- `sweep::same_runs` meets its contract. The loop stands at a turn of the answer, or at the limit; the runs before it are the first n of
-- the slices. It ends with false at the first run that differs or is missing, and at the limit asks whether the slices have more.
-- Assumes nothing.
use mathlib.Core.Path.{◌≡◌, refl, sym, ◌∙◌}
use native.Mathlib.Omega.{arith}
use Rattle.sweep.proofs.Sweeping.{sweeping_start, sweeping_asks, sweeping_top_asks, sweeping_top, sweeping_on}
use Rattle.sweep.proofs.Comparing.{comparing_start, too_few, other_start, other_hop, comparing_on, comparing_end}
use Rattle.sweep.proofs.same_runs.Goals as goal

-- the call, from the empty stack; the turn, from the test of a start; and the start that passed, from the test of its hop
pub begin-s-requires : goal.begin-s-requires
begin-s-requires c = let pre = c.requires in (pre.0, refl, refl)

pub loop-s-init : goal.loop-s-init
loop-s-init c =
    let o = c.begin-s.ensures in
    let pre = c.requires in
    (sweeping_start _ _ _ c.args.rows.sorted pre.1 o.1 o.0, comparing_start o.0 pre.3)

pub returns-then-starts-n : goal.returns-then-starts-n
returns-then-starts-n c =
    let inv = c.loop-s.invariant in
    let before = c.loop-s-test.true in
    too_few inv.1 inv.0.from before (inv.0.turn before) c.if-starts-n.true

pub overflow_cast-starts : goal.overflow_cast-starts
overflow_cast-starts c = omega (arith, c.shared_slice_known-in-loop-s-1.given c.loop-s.n)

pub returns-then-starts-n-2 : goal.returns-then-starts-n-2
returns-then-starts-n-2 c =
    let inv = c.loop-s.invariant in
    let before = c.loop-s-test.true in
    other_start inv.1 inv.0.from before (inv.0.turn before) c.if-starts-n-2.true

pub offset_bounds-rhops-n : goal.offset_bounds-rhops-n
offset_bounds-rhops-n c = omega (arith, c.loop-s.invariant.1.paired)

pub bounds-rhops-n : goal.bounds-rhops-n
bounds-rhops-n c = omega (arith, c.loop-s.invariant.1.paired)

pub top_hop-requires : goal.top_hop-requires
top_hop-requires c =
    sweeping_top_asks c.loop-s.invariant.0 c.loop-s-test.true

pub returns-then-rhops-n : goal.returns-then-rhops-n
returns-then-rhops-n c =
    let inv = c.loop-s.invariant in
    let before = c.loop-s-test.true in
    other_hop inv.1 inv.0.from before (inv.0.turn before)
    (λ e. c.if-rhops-n.true (e ∙ sym (sweeping_top inv.0 before c.top_hop.ensures)))

pub next_turn-s-requires : goal.next_turn-s-requires
next_turn-s-requires c =
    sweeping_asks c.loop-s.invariant.0 c.loop-s-test.true

pub loop-s-smaller : goal.loop-s-smaller
loop-s-smaller c = omega (arith, c.next_turn-s.ensures.past, c.next_turn-s.ensures.upto)

pub loop-s-preserved : goal.loop-s-preserved
loop-s-preserved c =
    let inv = c.loop-s.invariant in
    let before = c.loop-s-test.true in
    let t = c.next_turn-s.ensures in
    let more = c.if-starts-n.false in
    let hop = c.if-rhops-n.false ∙ sweeping_top inv.0 before c.top_hop.ensures in (
      sweeping_on inv.0 before t,
      comparing_on inv.1 inv.0.from t.past t.stays (inv.0.turn before) more c.if-starts-n-2.false
          hop,
    )

pub returns : goal.returns
returns c =
    let l = c.loop-s in
    let there : l.s.at ≡ c.args.limit = omega (arith, l.invariant.0.upto, c.loop-s-test.false) in
    rw there at (comparing_end l.invariant.1)
