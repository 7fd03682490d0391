-- `program::table` meets its contract: the build isn't refused, so that what it left is the list's run table.
-- Assumes nothing.
use Rattle.std.proofs.Common.{ℕ, arith, sym}
use lib.ListN.{length-replicate}
use lib.Seq.{length-take-le}
use Rattle.routes.specs.Row.{rows_of}
use Rattle.program.proofs.Answering.{TableLeft, never_refused, table_left}
use Rattle.program.proofs.table.Goals as goal
use Rattle.program.proofs.table.Goals.{After-unwrap-n}

left : (c : After-unwrap-n) → TableLeft (rows_of c.args.count c.args.keys.now c.args.hops.now) c.unwrap-n.result c.build.new.starts c.build.new.rhops
left c =
    table_left _ _ _ _ _ c.requires.hops_value (omega arith) (length-replicate {A = ℕ} 2049 0) (length-replicate {A = ℕ} 2049 0) _ _ _
    c.build.ensures c.unwrap-n.ensures

pub unwrap-n-requires : goal.unwrap-n-requires
unwrap-n-requires c =
    never_refused _ _ _ _ _ c.requires.hops_value (omega arith) (length-replicate {A = ℕ} 2049 0) (length-replicate {A = ℕ} 2049 0) _ _ _
    c.build.ensures

pub slice_bounds-starts-end : goal.slice_bounds-starts-end
slice_bounds-starts-end c = (left (goal.at.slice_bounds-starts-end c).After-unwrap-n).in_starts

pub slice_bounds-run_lines-end : goal.slice_bounds-run_lines-end
slice_bounds-run_lines-end c = sym (length-take-le _ _ (left (goal.at.slice_bounds-run_lines-end c).After-unwrap-n).in_starts)

pub slice_bounds-rhops-end : goal.slice_bounds-rhops-end
slice_bounds-rhops-end c = (left (goal.at.slice_bounds-rhops-end c).After-unwrap-n).in_hops

pub slice_bounds-run_lines-end-2 : goal.slice_bounds-run_lines-end-2
slice_bounds-run_lines-end-2 c = sym (length-take-le _ _ (left (goal.at.slice_bounds-run_lines-end-2 c).After-unwrap-n).in_hops)

pub run_lines-requires-clause-fits : goal.run_lines-requires-clause-fits
run_lines-requires-clause-fits c =
    let t = left (goal.at.run_lines-requires-clause-fits c).After-unwrap-n in
    rw (t.starts_are, t.hops_are) c.requires.fits

pub returns : goal.returns
returns c =
    let t = left (goal.at.returns c).After-unwrap-n in
    rw (t.starts_are, t.hops_are) at c.run_lines.ensures
