-- Rule 10.11: announcing a listed route with its own hop to a pair that agrees is accepted, never refused for room. It changes no answer,
-- and leaves both counts and every slot as they were. The edited list is the list, so its rows and run table stand in the slices already.
-- Assumes nothing.
use mathlib.Core.Path.{◌≡◌, refl, sym, ap, ◌∙◌}
use mathlib.Core.Bool.{false, ◌||◌}
use Prim.Native.Nat.{ℕ, ◌≤◌}
use native.Mathlib.Omega.{arith}
use lib.ListN.{length, take, length-map}
use lib.Seq.{length-take-le}
use lib.Dec.{eqb}
use borrow.Author.Tests.{le-ltb, ne_eqb}
use Rattle.ground.specs.Numbers.{first_fault, done}
use Rattle.ground.specs.Slots.{rewritten}
use Rattle.ground.proofs.Numbers.{outcome_done}
use Rattle.ground.proofs.Slots.{rewritten_same}
use Rattle.cidr.specs.Prefix.{key_of}
use Rattle.routes.specs.Row.{row, list_room, keys_of, hops_of}
use Rattle.routes.specs.Plain.{plain}
use Rattle.routes.specs.Change.{changed_between}
use Rattle.routes.specs.Change.Laws.{changed_between_is, changed_same}
use Rattle.routes.proofs.Row.{Has}
use Rattle.routes.proofs.Change.{announced_same}
use Rattle.routes.proofs.Columns.{hops_of_rows, length_rows}
use Rattle.routes.proofs.ListTest.{half_room}
use Rattle.runs.specs.Table.{run_starts, run_hops}
use Rattle.runs.specs.Build.{run_room}
use Rattle.runs.specs.Pair.{Pair, list_of, pair_checks, pair_check}
use Rattle.runs.proofs.Agreed.{agreed_half, agreed_room, agreed_keys, agreed_starts, agreed_hops}
use Rattle.runs.proofs.Table.{same_count}
use Rattle.runs.proofs.TableOutcomes.{pair_agrees}
use Rattle.runs.proofs.WholeList.{in_keys, in_hops}
use Rattle.edit.specs.Edit.{Edited, edit_done, bad_prefix, exceeds, announce, announce_checks, after_announce}
use Rattle.edit.proofs.Accepted.{agreed_good}

-- an accepted edit that changes nothing
abbrev pub unchanged : Pair → Edited
unchanged p = record {
  number = done;
  changed = 0;
  count = p.list.count;
  runs = p.table.count;
  keys = p.list.keys;
  hops = p.list.hops;
  starts = p.table.starts;
  rhops = p.table.hops;
}

module _ (p : Pair) (agreed : pair_check p ≡ done) where
  rows_count : length (list_of p) ≡ p.list.count
  rows_count =
      let h = agreed_half p agreed in
      length_rows p.list.count p.list.keys p.list.hops (in_keys _ _ p.list.hops h) (in_hops _ p.list.keys _ h)

  hops_held : hops_of (list_of p) ≡ take p.list.count p.list.hops
  hops_held =
      let h = agreed_half p agreed in
      hops_of_rows p.list.count p.list.keys p.list.hops (in_keys _ _ p.list.hops h) (in_hops _ p.list.keys _ h)

  runs_count : length (run_starts (list_of p)) ≡ p.table.count
  unfolding run_room
  runs_count =
      let room = agreed_room p agreed in
      ap length (sym (agreed_starts p agreed)) ∙ length-take-le p.table.count p.table.starts (omega arith)

  none_changed : changed_between (list_of p) (list_of p) ≡ 0
  none_changed = changed_between_is (list_of p) (list_of p) ∙ changed_same (plain (list_of p)) (plain (list_of p)) (λ a l. refl)

  keys_same : rewritten (keys_of (list_of p)) p.list.count p.list.keys ≡ p.list.keys
  keys_same = rewritten_same _ _ _ (sym (agreed_keys p agreed)) (sym (length-map (list_of p) (λ r. r.key) ∙ rows_count))

  hops_same : rewritten (hops_of (list_of p)) p.list.count p.list.hops ≡ p.list.hops
  hops_same = rewritten_same _ _ _ (sym hops_held) (sym (length-map (list_of p) (λ r. r.hop) ∙ rows_count))

  starts_same : rewritten (run_starts (list_of p)) p.table.count p.table.starts ≡ p.table.starts
  starts_same = rewritten_same _ _ _ (agreed_starts p agreed) (sym runs_count)

  rhops_same : rewritten (run_hops (list_of p)) p.table.count p.table.hops ≡ p.table.hops
  rhops_same = rewritten_same _ _ _ (agreed_hops p agreed) (sym (same_count (list_of p) ∙ runs_count))

  done_same : edit_done (list_of p) p ≡ unchanged p
  done_same = rw (none_changed, rows_count, runs_count, keys_same, hops_same, starts_same, rhops_same)

  fits_again : exceeds (list_of p) p ≡ false
  unfolding exceeds
  fits_again =
      let rows = half_room _ _ _ (agreed_half p agreed) in
      rw (rows_count, runs_count, le-ltb (list_room p.list.keys p.list.hops) p.list.count rows)
      (le-ltb (run_room p.table.starts p.table.hops) p.table.count (agreed_room p agreed))

  module _ (net len hop : ℕ) (short : len ≤ 32) (there : Has (row (key_of net len) hop) (list_of p)) where
    after_same : after_announce net len hop p ≡ list_of p
    unfolding after_announce
    after_same = announced_same (key_of net len) hop (list_of p) (agreed_good p agreed).ascends there

    good_edit : (bad_prefix net len || eqb hop 0) ≡ false
    unfolding bad_prefix
    good_edit =
        rw (le-ltb 32 len short, (agreed_good p agreed).prefixed _ there)
        (ne_eqb hop 0 ((agreed_good p agreed).given _ there))

    no_fault_again : first_fault (announce_checks net len hop p) ≡ done
    unfolding announce_checks pair_checks first_fault
    no_fault_again =
        let w = pair_agrees p agreed in
        rw (good_edit, w.0, w.1, after_same, fits_again)

    pub own_hop_again : announce net len hop p ≡ unchanged p
    unfolding announce
    own_hop_again = outcome_done (announce_checks net len hop p) _ _ no_fault_again ∙ rw after_same done_same
