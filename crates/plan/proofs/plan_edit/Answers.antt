-- `plan::plan_edit` meets its contract: what its parts found makes the plan (`Planning`).
-- Assumes nothing.
use mathlib.Core.Path.{refl, sym, ◌∙◌}
use native.Mathlib.Omega.{arith}
use Rattle.sweep.proofs.Sorted.{keys_ascend}
use Rattle.within.proofs.InnerPlaces.{inner_places, inner_sorted}
use Rattle.plan.proofs.Joining.{seamed_past, seamed_to}
use Rattle.plan.proofs.Planning.{network_is, network_small, old_table, few_runs, listed_some, some_addresses, part_from, part_fits, planned}
use Rattle.plan.proofs.plan_edit.Goals as goal

pub overflow_mul-key : goal.overflow_mul-key
overflow_mul-key c =
    omega (arith, network_small _ _ c.requires.2 c.requires.3)

pub overflow_add-key : goal.overflow_add-key
overflow_add-key c =
    omega (arith, network_small _ _ c.requires.2 c.requires.3, c.requires.3)

pub inner_from-from-requires : goal.inner_from-from-requires
inner_from-from-requires c = (c.requires.2, keys_ascend c.args.rows.sorted)

pub inner_upto-upto-requires : goal.inner_upto-upto-requires
inner_upto-upto-requires c = (c.requires.2, keys_ascend c.args.rows.sorted)

pub offset_bounds-rows-from : goal.offset_bounds-rows-from
offset_bounds-rows-from c =
    let sorted = c.args.rows.sorted in
    omega (arith, inner_places sorted _ c.requires.2 c.inner_from-from.ensures c.inner_upto-upto.ensures, sorted.paired)

pub slice_bounds-inside-count : goal.slice_bounds-inside-count
slice_bounds-inside-count c =
    let sorted = c.args.rows.sorted in
    omega (arith, inner_places sorted _ c.requires.2 c.inner_from-from.ensures c.inner_upto-upto.ensures, sorted.paired)

pub slice_bounds-inside-start : goal.slice_bounds-inside-start
slice_bounds-inside-start c =
    let sorted = c.args.rows.sorted in
    omega (arith, inner_places sorted _ c.requires.2 c.inner_from-from.ensures c.inner_upto-upto.ensures, sorted.paired)

pub slice_bounds-inside-end : goal.slice_bounds-inside-end
slice_bounds-inside-end c =
    let sorted = c.args.rows.sorted in
    omega (arith, inner_places sorted _ c.requires.2 c.inner_from-from.ensures c.inner_upto-upto.ensures, sorted.paired)

pub offset_bounds-rows-from-2 : goal.offset_bounds-rows-from-2
offset_bounds-rows-from-2 c =
    let sorted = c.args.rows.sorted in
    omega (arith, inner_places sorted _ c.requires.2 c.inner_from-from.ensures c.inner_upto-upto.ensures, sorted.paired)

pub slice_bounds-inside-count-2 : goal.slice_bounds-inside-count-2
slice_bounds-inside-count-2 c =
    let sorted = c.args.rows.sorted in
    omega (arith, inner_places sorted _ c.requires.2 c.inner_from-from.ensures c.inner_upto-upto.ensures, sorted.paired)

pub slice_bounds-inside-start-2 : goal.slice_bounds-inside-start-2
slice_bounds-inside-start-2 c =
    let sorted = c.args.rows.sorted in
    omega (arith, inner_places sorted _ c.requires.2 c.inner_from-from.ensures c.inner_upto-upto.ensures, sorted.paired)

pub slice_bounds-inside-end-2 : goal.slice_bounds-inside-end-2
slice_bounds-inside-end-2 c =
    let sorted = c.args.rows.sorted in
    omega (arith, inner_places sorted _ c.requires.2 c.inner_from-from.ensures c.inner_upto-upto.ensures, sorted.paired)

pub invariant_of-inside : goal.invariant_of-inside
invariant_of-inside c = record { sorted = inner_sorted c.args.rows.sorted _ c.requires.2 c.inner_from-from.ensures c.inner_upto-upto.ensures }

-- what stands once the rows inside are cut out and the prefix's end is known
pub measure-middle-requires : goal.measure-middle-requires
measure-middle-requires c =
    let within = some_addresses c.args.rows.sorted _ c.requires.2 (network_is _ _ c.requires.3) c.end_of-end.ensures c.inner_from-from.ensures c.inner_upto-upto.ensures in (
      part_from c.args.rows.sorted _ c.requires.2 (network_is _ _ c.requires.3) c.end_of-end.ensures c.inner_from-from.ensures c.inner_upto-upto.ensures,
      within.0,
      within.1,
    )

pub seams-splice-requires : goal.seams-splice-requires
seams-splice-requires c =
    let within = some_addresses c.args.rows.sorted _ c.requires.2 (network_is _ _ c.requires.3) c.end_of-end.ensures c.inner_from-from.ensures c.inner_upto-upto.ensures in
    (old_table _ c.requires.0 c.requires.1, within.0, within.1, few_runs c.measure-middle.ensures within.1)

pub changed_by-changed-requires : goal.changed_by-changed-requires
changed_by-changed-requires c = (
  c.requires.2,
  part_fits c.args.rows.sorted _ c.requires.2 (network_is _ _ c.requires.3) c.end_of-end.ensures c.inner_from-from.ensures c.inner_upto-upto.ensures,
)

pub rows_after-count-requires : goal.rows_after-count-requires
rows_after-count-requires c =
    (omega arith, λ z. listed_some _ _ (sym c.requires.4.listed_is ∙ c.requires.5 z))

pub overflow_sub-runs : goal.overflow_sub-runs
overflow_sub-runs c = seamed_past c.seams-splice.ensures

pub overflow_add-runs : goal.overflow_add-runs
overflow_add-runs c =
    let within = some_addresses c.args.rows.sorted _ c.requires.2 (network_is _ _ c.requires.3) c.end_of-end.ensures c.inner_from-from.ensures c.inner_upto-upto.ensures in
    omega (arith, seamed_to c.seams-splice.ensures, few_runs c.measure-middle.ensures within.1)

pub returns : goal.returns
returns c =
    planned c.args.rows.sorted _ c.requires.2 (network_is _ _ c.requires.3) c.end_of-end.ensures c.inner_from-from.ensures c.inner_upto-upto.ensures c.args.hop
    c.requires.4.listed_is c.requires.5 c.old_hop-old.ensures c.new_hop-base.ensures
    c.measure-middle.ensures c.requires.0 c.requires.1 c.seams-splice.ensures c.changed_by-changed.ensures
    c.rows_after-count.ensures refl
