-- `edit::agreed::write_edit` meets its contract (`Writing`).
-- Assumes nothing.
use native.Mathlib.Omega.{arith}
use Rattle.edit.proofs.Writing.{part_within, part_sorted, row_asks, splice_asks, wrote}
use Rattle.edit.proofs.agreed.write_edit.Goals as goal

pub offset_bounds-keys-p : goal.offset_bounds-keys-p
offset_bounds-keys-p c = omega (arith, part_within c.requires)

pub slice_bounds-inside-count : goal.slice_bounds-inside-count
slice_bounds-inside-count c = omega (arith, part_within c.requires)

pub slice_bounds-inside-start : goal.slice_bounds-inside-start
slice_bounds-inside-start c = omega (arith, part_within c.requires)

pub slice_bounds-inside-end : goal.slice_bounds-inside-end
slice_bounds-inside-end c = omega (arith, part_within c.requires)

pub offset_bounds-hops-p : goal.offset_bounds-hops-p
offset_bounds-hops-p c = omega (arith, part_within c.requires)

pub slice_bounds-inside-count-2 : goal.slice_bounds-inside-count-2
slice_bounds-inside-count-2 c = omega (arith, part_within c.requires)

pub slice_bounds-inside-start-2 : goal.slice_bounds-inside-start-2
slice_bounds-inside-start-2 c = omega (arith, part_within c.requires)

pub slice_bounds-inside-end-2 : goal.slice_bounds-inside-end-2
slice_bounds-inside-end-2 c = omega (arith, part_within c.requires)

pub invariant_of-inside : goal.invariant_of-inside
invariant_of-inside c = record { sorted = part_sorted c.requires }

pub splice_runs-requires : goal.splice_runs-requires
splice_runs-requires c =
    splice_asks c.requires c.network-net.ensures c.end_of-end.ensures

pub write_row-requires : goal.write_row-requires
write_row-requires c =
    row_asks c.requires

pub returns : goal.returns
returns c =
    wrote c.requires c.network-net.ensures c.end_of-end.ensures c.write_row.ensures c.splice_runs.ensures
