-- One edit of a pair that agrees, step by step: the key's place says whether there is something to withdraw, the plan's counts whether the
-- edit fits, and what the writing leaves is the edit's outcome.
-- Assumes nothing.
use mathlib.Core.Path.{◌≡◌, sym, ap, ◌∙◌}
use mathlib.Core.Bool.{Bool, true, false, not, ◌&&◌, ◌||◌}
use mathlib.Core.List.{List}
use Prim.Native.Nat.{ℕ}
use lib.ListN.{take}
use lib.Dec.{eqb, ltb}
use borrow.Author.Tests.{eq-eqb}
use Rattle.ground.specs.Column.{is_in}
use Rattle.ground.specs.Numbers.{done, no_room, not_listed}
use Rattle.ground.proofs.Truth.{not-false}
use Rattle.cidr.specs.Prefix.{is_prefix}
use Rattle.routes.specs.Row.{list_room}
use Rattle.routes.specs.Change.{listed}
use Rattle.runs.specs.Table.{run_starts, run_hops}
use Rattle.runs.specs.Build.{run_room}
use Rattle.runs.specs.Pair.{Pair, list_of, pair_check}
use Rattle.runs.proofs.Agreed.{agreed_half, agreed_keys, agreed_starts, agreed_hops}
use Rattle.runs.proofs.WholeList.{slices_rows}
use Rattle.sweep.specs.Sweep.{all_rows}
use Rattle.std.specs.Prelude.{Result, IsOk}
use Rattle.plan.specs.declared.Plan.{Plan}
use Rattle.edit.specs.Edit.{edit_outcome, edit_refused, exceeds}
use Rattle.plan.specs.Found.{FoundIn, stands}
use Rattle.plan.proofs.Found.{stands_ok}
use Rattle.plan.specs.Edited.{edited_rows}
use Rattle.edit.specs.Inside.Local.{edit_agreed}
use Rattle.plan.specs.Plan.{Planned}
use Rattle.edit.specs.Inside.Writing.{MayWrite, Wrote}
use Rattle.edit.proofs.Outcomes.{agreed_unlisted, agreed_full, agreed_fits}

module _ (p : Pair) (agreed : pair_check p ≡ done) (k h : ℕ) {f : Result ℕ ℕ} (found : FoundIn (take p.list.count p.list.keys) k f) where
  same_list : all_rows (take p.list.count p.list.keys) (take p.list.count p.list.hops) ≡ list_of p
  same_list = slices_rows p.list.count p.list.keys p.list.hops (agreed_half p agreed)

  -- the place says whether the prefix is listed
  told : (eqb h 0 && not (stands f)) ≡ (eqb h 0 && not (listed k (list_of p)))
  told = ap (λ b. eqb h 0 && not b) (found.listed_is ∙ ap (is_in k) (sym (agreed_keys p agreed)))

  pub unlisted : {b : Bool} → b ≡ (eqb h 0 && not (stands f)) → b ≡ true → edit_refused p not_listed ≡ edit_agreed k h p
  unlisted e q = agreed_unlisted k h p (sym told ∙ sym e ∙ q)

  module _ {b : Bool} (e : b ≡ (eqb h 0 && not (stands f))) (q : b ≡ false) where
    may : h ≡ 0 → IsOk f
    may z = stands_ok f (not-false (stands f) (rw (eq-eqb h 0 z) at (sym e ∙ q)))

    -- what the plan asks
    pub plan_asks : (take p.table.count p.table.starts
        ≡ run_starts (all_rows (take p.list.count p.list.keys) (take p.list.count p.list.hops)))
        × (take p.table.count p.table.hops
        ≡ run_hops (all_rows (take p.list.count p.list.keys) (take p.list.count p.list.hops)))
        × (h ≡ 0 → IsOk f)
    plan_asks = (
      agreed_starts p agreed ∙ ap run_starts (sym same_list),
      agreed_hops p agreed ∙ ap run_hops (sym same_list),
      may,
    )

    module _ {plan : Plan} (planned : Planned k h (take p.list.count p.list.keys) (take p.list.count p.list.hops)
        (take p.table.count p.table.starts) (take p.table.count p.table.hops) plan)
        {c : Bool} (over : c ≡ (ltb (list_room p.list.keys p.list.hops) plan.rows
        || ltb (run_room p.table.starts p.table.hops) plan.runs)) where
      over_is : c ≡ exceeds (edited_rows k h (list_of p)) p
      unfolding exceeds
      over_is = over ∙ rw (planned.rows_are, planned.runs_are, same_list)

      pub full : c ≡ true → edit_refused p no_room ≡ edit_agreed k h p
      full t = agreed_full k h p (sym told ∙ sym e ∙ q) (sym over_is ∙ t)

      module _ (pre : is_prefix k ≡ true) (t : c ≡ false) where
        pub may_write : MayWrite k h f plan p
        may_write = record {
          prefix = pre;
          agreed = agreed;
          found = found;
          may = may;
          planned = planned;
          fits = sym over_is ∙ t;
        }

        pub fitted : {keys hops starts rhops : List ℕ} → Wrote k h p keys hops starts rhops
            → edit_outcome done plan.changed plan.rows plan.runs keys hops starts rhops ≡ edit_agreed k h p
        fitted w =
            let rows_are = rw same_list at planned.rows_are in
            let runs_are = rw same_list at planned.runs_are in
            let changed_is = rw same_list at planned.changed_is in
            rw (rows_are, runs_are, changed_is, w.keys_are, w.hops_are, w.starts_are, w.rhops_are)
            (agreed_fits k h p (sym told ∙ sym e ∙ q) (sym over_is ∙ t))
