-- `plan::table::splice_runs` meets its contract: the law of one column gives the starts and the hops.
-- Assumes nothing.
use mathlib.Core.Path.{refl}
use mathlib.Core.List.{map}
use Prim.Native.Nat.{ℕ, ◌<◌, ◌%◌}
use native.Mathlib.Nat.{mod-eq_of_lt}
use native.Mathlib.Omega.{arith}
use lib.ListN.{length, length-set, length-take, length-drop, length-map}
use Rattle.ground.specs.Stretch.Count.{counted_is}
use Rattle.std.proofs.Common.{rules}
use Rattle.sweep.specs.Sweep.{answer, all_rows}
use Rattle.sweep.specs.declared.Rows.{Rows}
use Rattle.plan.specs.Splice.{starts_inside, Splices}
use Rattle.plan.specs.declared.table.Splice.{Splice}
use Rattle.within.proofs.Places.{inner_some}
use Rattle.plan.proofs.Rewriting.{column, column_first}
use Rattle.plan.proofs.table.splice_runs.Goals as goal

-- some run is inside
some_run : (base : ℕ) (rows : Rows) {net end n : ℕ} {s : Splice}
    → Splices (length (starts_inside (answer base (all_rows rows.keys.now rows.hops.now)) net end)) net end n s
    → 0 < length (starts_inside (answer base (all_rows rows.keys.now rows.hops.now)) net end)
some_run base rows {net} {end} w = inner_some _ net end w.some _ _ record { starts_are = refl; hops_are = refl }

pub overflow_sub-starts : goal.overflow_sub-starts
overflow_sub-starts c = omega (arith, some_run c.args.base c.args.rows c.requires.1)

pub bounds-starts-to : goal.bounds-starts-to
bounds-starts-to c = omega (arith, some_run c.args.base c.args.rows c.requires.1)

pub overflow_sub-rhops : goal.overflow_sub-rhops
overflow_sub-rhops c = omega (arith, some_run c.args.base c.args.rows c.requires.1)

pub bounds-rhops-to : goal.bounds-rhops-to
bounds-rhops-to c = omega (arith, some_run c.args.base c.args.rows c.requires.1)

pub write_runs-requires : goal.write_runs-requires
write_runs-requires c = (
  c.requires.0,
  omega arith,
  omega arith,
  simp (counted_is, length-take, length-drop, length-set) (omega arith),
  simp (counted_is, length-take, length-drop, length-set) (omega arith),
)

pub bounds-starts-from : goal.bounds-starts-from
bounds-starts-from c = let some = some_run c.args.base c.args.rows c.requires.1 in search (rules, some, length-set)

pub returns : goal.returns
returns c =
    let a = c.args in
    let splices = c.requires.1 in
    let g = answer a.base (all_rows a.rows.keys.now a.rows.hops.now) in
    let inside = starts_inside g a.net a.end in
    let some = some_run a.base a.rows splices in
    let runs = c.write_runs.ensures in
    record {
      starts_are =
          column_first splices some a.starts.now c.requires.2 c.requires.4 inside refl (a.end % 4294967296) a.end
          (λ l. mod-eq_of_lt (splices.is_address l)) c.shift.ensures runs.starts_are a.s.first;
      hops_are =
          column splices some a.rhops.now c.requires.3 c.requires.5 (map g inside) (length-map inside g) a.s.hop a.s.hop
          (λ l. refl) c.shift-2.ensures runs.hops_are;
    }
