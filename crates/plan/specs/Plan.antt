-- What an edit will do, told by the list and its run table before anything is written: the rows inside the prefix, the hop at the prefix's
-- own addresses afterwards, the new counts, the changed number, and how the run table is spliced.
-- Assumes nothing.
use Rattle.std.specs.Prelude.{◌≡◌, List, ℕ, ◌+◌, ◌-◌, ◌*◌, length}
use Rattle.ground.specs.Column.{lower}
use Rattle.cidr.specs.Prefix.{network, end_of}
use Rattle.routes.specs.Row.{Row}
use Rattle.routes.specs.Change.{changed_between}
use Rattle.runs.specs.Table.{run_starts, run_hops}
use Rattle.sweep.specs.Sweep.{all_rows, answer}
use Rattle.plan.specs.declared.Plan.{Plan}
use Rattle.within.specs.Own.{inner}
use Rattle.plan.specs.Splice.{starts_inside, new_starts, new_hops, Splices}
use Rattle.plan.specs.Edited.{edited_rows}

-- the answer inside the prefix after the edit, by the rows inside
abbrev pub inside_of : ℕ → ℕ → List Row → ℕ → ℕ
inside_of k base rows = answer base (inner k rows)

pub record Planned (k h : ℕ) (keys hops starts rhops : List ℕ) (p : Plan) : Type 0 where
  pub rows_are : p.rows ≡ length (edited_rows k h (all_rows keys hops))
  pub runs_are : p.runs ≡ length (run_starts (edited_rows k h (all_rows keys hops)))
  pub total_is : p.runs ≡ p.splice.to + (length starts - p.splice.past)
  pub changed_is : p.changed ≡ changed_between (all_rows keys hops) (edited_rows k h (all_rows keys hops))
  pub from_is : p.from ≡ lower (k + 1) keys
  pub upto_is : p.upto ≡ lower (end_of k * 64) keys
  pub splices : Splices (length (starts_inside (inside_of k p.base (all_rows keys hops)) (network k) (end_of k)))
      (network k) (end_of k) (length starts) p.splice
  pub starts_are : run_starts (edited_rows k h (all_rows keys hops))
      ≡ new_starts (inside_of k p.base (all_rows keys hops)) (network k) (end_of k) p.splice starts
  pub hops_are : run_hops (edited_rows k h (all_rows keys hops))
      ≡ new_hops (inside_of k p.base (all_rows keys hops)) (network k) (end_of k) p.splice rhops
