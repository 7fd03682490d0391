-- `edit::agreed::edit_agreed` meets its contract, step by step (`LocalEdit`).
-- Assumes nothing.
use mathlib.Core.Path.{◌≡◌, sym}
use Prim.Native.Nat.{ℕ, ◌≤◌}
use native.Mathlib.Omega.{arith}
use lib.ListN.{length}
use lib.Seq.{length-take-le}
use mathlib.Core.List.{List}
use Rattle.ground.specs.Numbers.{done}
use Rattle.routes.specs.Row.{list_lent}
use Rattle.runs.specs.Table.{runs_lent}
use Rattle.runs.specs.Pair.{Pair, pair, pair_check}
use Rattle.runs.proofs.Agreed.{agreed_half, agreed_room, agreed_ascends}
use Rattle.runs.proofs.WholeList.{in_keys, in_hops, in_starts, in_rhops, slices_sorted}
use Rattle.plan.proofs.Planning.{network_small}
use Rattle.plan.proofs.Found.{found_in}
use Rattle.edit.proofs.LocalEdit.{unlisted, plan_asks, full, may_write, fitted}
use Rattle.edit.proofs.agreed.edit_agreed.Goals as goal

-- the pair that was handed in; both its counts are within their slices
abbrev handed : ℕ → List ℕ → List ℕ → ℕ → List ℕ → List ℕ → Pair
handed count keys hops runs starts rhops = pair (list_lent count keys hops) (runs_lent runs starts rhops)

counts : (count : ℕ) (keys hops : List ℕ) (runs : ℕ) (starts rhops : List ℕ) → pair_check (handed count keys hops runs starts rhops) ≡ done
    → (count ≤ length keys) × (count ≤ length hops) × (runs ≤ length starts) × (runs ≤ length rhops)
counts count keys hops runs starts rhops agreed =
    let half = agreed_half (handed count keys hops runs starts rhops) agreed in
    let room = agreed_room (handed count keys hops runs starts rhops) agreed in
    (in_keys _ _ _ half, in_hops _ _ _ half, in_starts _ _ _ room, in_rhops _ _ _ room)

pub overflow_mul-key : goal.overflow_mul-key
overflow_mul-key c =
    omega (arith, network_small _ _ c.requires.0 c.requires.1)

pub overflow_add-key : goal.overflow_add-key
overflow_add-key c =
    omega (arith, network_small _ _ c.requires.0 c.requires.1, c.requires.1)

pub slice_bounds-rows-end : goal.slice_bounds-rows-end
slice_bounds-rows-end c = (counts _ _ _ _ _ _ c.requires.2).0

pub slice_bounds-rows-end-2 : goal.slice_bounds-rows-end-2
slice_bounds-rows-end-2 c = sym (length-take-le _ _ (counts _ _ _ _ _ _ c.requires.2).0)

pub slice_bounds-rows-end-3 : goal.slice_bounds-rows-end-3
slice_bounds-rows-end-3 c = (counts _ _ _ _ _ _ c.requires.2).1

pub slice_bounds-rows-end-4 : goal.slice_bounds-rows-end-4
slice_bounds-rows-end-4 c = sym (length-take-le _ _ (counts _ _ _ _ _ _ c.requires.2).1)

pub invariant_of-rows : goal.invariant_of-rows
invariant_of-rows c = record { sorted = slices_sorted _ _ _ (agreed_half _ c.requires.2) }

pub returns-then-nothing_to_withdraw : goal.returns-then-nothing_to_withdraw
returns-then-nothing_to_withdraw c =
    unlisted _ c.requires.2 _ c.args.hop (found_in _ _ (c.place_of-place.ensures (agreed_ascends _ c.requires.2))) c.nothing_to_withdraw.ensures c.if-nothing_to_withdraw.true

pub slice_bounds-plan_edit-end : goal.slice_bounds-plan_edit-end
slice_bounds-plan_edit-end c = (counts _ _ _ _ _ _ c.requires.2).2

pub slice_bounds-plan_edit-end-2 : goal.slice_bounds-plan_edit-end-2
slice_bounds-plan_edit-end-2 c = sym (length-take-le _ _ (counts _ _ _ _ _ _ c.requires.2).2)

pub slice_bounds-plan_edit-end-3 : goal.slice_bounds-plan_edit-end-3
slice_bounds-plan_edit-end-3 c = (counts _ _ _ _ _ _ c.requires.2).3

pub slice_bounds-plan_edit-end-4 : goal.slice_bounds-plan_edit-end-4
slice_bounds-plan_edit-end-4 c = sym (length-take-le _ _ (counts _ _ _ _ _ _ c.requires.2).3)

pub plan_edit-p-requires : goal.plan_edit-p-requires
plan_edit-p-requires c =
    let asks =
    plan_asks _ c.requires.2 _ c.args.hop (found_in _ _ (c.place_of-place.ensures (agreed_ascends _ c.requires.2))) c.nothing_to_withdraw.ensures c.if-nothing_to_withdraw.false in
    (asks.0, asks.1, c.requires.0, c.requires.1, (found_in _ _ (c.place_of-place.ensures (agreed_ascends _ c.requires.2))), asks.2)

-- where the edit is planned, from where its room is known
pub returns-then-exceeds : goal.returns-then-exceeds
returns-then-exceeds c =
    full _ c.requires.2 _ c.args.hop (found_in _ _ (c.place_of-place.ensures (agreed_ascends _ c.requires.2))) c.nothing_to_withdraw.ensures c.if-nothing_to_withdraw.false
    c.plan_edit-p.ensures c.exceeds.ensures c.if-exceeds.true

pub write_edit-requires : goal.write_edit-requires
write_edit-requires c =
    may_write _ c.requires.2 _ c.args.hop (found_in _ _ (c.place_of-place.ensures (agreed_ascends _ c.requires.2))) c.nothing_to_withdraw.ensures c.if-nothing_to_withdraw.false
    c.plan_edit-p.ensures c.exceeds.ensures c.requires.0 c.if-exceeds.false

pub returns : goal.returns
returns c =
    fitted _ c.requires.2 _ c.args.hop (found_in _ _ (c.place_of-place.ensures (agreed_ascends _ c.requires.2))) c.nothing_to_withdraw.ensures c.if-nothing_to_withdraw.false
    c.plan_edit-p.ensures c.exceeds.ensures c.requires.0 c.if-exceeds.false c.write_edit.ensures
