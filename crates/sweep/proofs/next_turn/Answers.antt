-- `sweep::next_turn` meets its contract. The loop keeps `Going` true: up to where it stands the answer is the one it started with. It ends
-- at the limit, or at an event where the answer is another.
-- Assumes nothing.
use native.Mathlib.Omega.{arith}
use Rattle.sweep.proofs.Stack.{few_open, before_event}
use Rattle.sweep.proofs.Going.{going_start, going_event, going_end, going_turned, going_on}
use Rattle.sweep.proofs.next_turn.Goals as goal

-- the event that a step moves to
pub top_hop-hop-requires : goal.top_hop-hop-requires
top_hop-hop-requires c = let pre = c.requires in (few_open c.args.rows.sorted pre.0, pre.0.hops_room)

pub loop-s-init : goal.loop-s-init
loop-s-init c = let pre = c.requires in going_start c.args.rows.sorted pre.0 pre.1 c.top_hop-hop.ensures

pub next_event-event-requires : goal.next_event-event-requires
next_event-event-requires c =
    let g = c.loop-s.invariant in
    before_event g.sorted g.stack _ g.before (omega arith)

pub returns-then-limit-event : goal.returns-then-limit-event
returns-then-limit-event c = going_end c.loop-s.invariant c.next_event-event.ensures c.if-limit-event.true _ _

pub step-s-requires : goal.step-s-requires
step-s-requires c =
    let g = c.loop-s.invariant in
    let e = c.next_event-event.ensures in
    (going_event g e, omega (arith, e.past))

pub top_hop-requires : goal.top_hop-requires
top_hop-requires c =
    let g = c.loop-s.invariant in
    let k = c.step-s.ensures.1 in
    (few_open g.sorted k, k.hops_room)

pub returns-then-top_hop-hop : goal.returns-then-top_hop-hop
returns-then-top_hop-hop c =
    let g = c.loop-s.invariant in
    going_turned g c.next_event-event.ensures c.step-s.ensures.1 c.step-s.ensures.0 c.top_hop.ensures
    c.if-top_hop-hop.true

pub loop-s-smaller : goal.loop-s-smaller
loop-s-smaller c =
    omega (arith, c.next_event-event.ensures.past, c.if-limit-event.false, c.step-s.ensures.0)

pub loop-s-preserved : goal.loop-s-preserved
loop-s-preserved c =
    let g = c.loop-s.invariant in
    going_on g c.next_event-event.ensures c.step-s.ensures.1 c.step-s.ensures.0 c.top_hop.ensures
    c.if-limit-event.false c.if-top_hop-hop.false
