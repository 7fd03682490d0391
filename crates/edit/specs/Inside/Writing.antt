-- What the writing of a planned edit asks and leaves: a pair that agrees, a plan of the edit, and room for it; then the four slices hold the
-- list and the run table afterwards.
-- Assumes nothing.
use Rattle.std.specs.Prelude.{◌≡◌, true, false, List, ℕ, take}
use Rattle.ground.specs.Numbers.{done}
use Rattle.ground.specs.Slots.{rewritten}
use Rattle.cidr.specs.Prefix.{is_prefix}
use Rattle.routes.specs.Row.{keys_of, hops_of}
use Rattle.runs.specs.Table.{run_starts, run_hops}
use Rattle.runs.specs.Pair.{Pair, list_of, pair_check}
use Rattle.std.specs.Prelude.{Result, IsOk}
use Rattle.plan.specs.declared.Plan.{Plan}
use Rattle.edit.specs.Edit.{exceeds}
use Rattle.plan.specs.Found.{FoundIn}
use Rattle.plan.specs.Edited.{edited_rows}
use Rattle.plan.specs.Plan.{Planned}

pub record MayWrite (k h : ℕ) (f : Result ℕ ℕ) (plan : Plan) (p : Pair) : Type 0 where
  pub prefix : is_prefix k ≡ true
  pub agreed : pair_check p ≡ done
  pub found : FoundIn (take p.list.count p.list.keys) k f
  pub may : h ≡ 0 → IsOk f
  pub planned : Planned k h (take p.list.count p.list.keys) (take p.list.count p.list.hops)
      (take p.table.count p.table.starts) (take p.table.count p.table.hops) plan
  pub fits : exceeds (edited_rows k h (list_of p)) p ≡ false

pub record Wrote (k h : ℕ) (p : Pair) (keys hops starts rhops : List ℕ) : Type 0 where
  pub keys_are : keys ≡ rewritten (keys_of (edited_rows k h (list_of p))) p.list.count p.list.keys
  pub hops_are : hops ≡ rewritten (hops_of (edited_rows k h (list_of p))) p.list.count p.list.hops
  pub starts_are : starts ≡ rewritten (run_starts (edited_rows k h (list_of p))) p.table.count p.table.starts
  pub rhops_are : rhops ≡ rewritten (run_hops (edited_rows k h (list_of p))) p.table.count p.table.hops
