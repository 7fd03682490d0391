-- Rule 17.2, demand 3, from the contracts alone: an accepted edit leaves a pair that agrees, so that another edit may follow. The slices
-- have the edited rows and their run table at the front, and are as long as before.
-- Assumes nothing.
use mathlib.Core.Path.{◌≡◌, sym, ap, ◌∙◌}
use mathlib.Core.Bool.{true}
use mathlib.Core.List.{List}
use Prim.Native.Nat.{ℕ, ◌≤◌}
use native.Mathlib.Omega.{arith}
use lib.ListN.{length, take, length-map}
use borrow.Author.Tests.{le-leb}
use Rattle.ground.specs.Numbers.{done}
use Rattle.ground.proofs.Truth.{and_both}
use Rattle.ground.specs.Slots.{rewritten}
use Rattle.ground.proofs.Slots.{length_rewritten, take_rewritten, same_self}
use Rattle.routes.specs.Row.{Row, list_lent, rows_of, list_room, keys_of, hops_of}
use Rattle.routes.specs.WellFormed.{well_formed}
use Rattle.routes.proofs.WellFormed.{parts_good}
use Rattle.routes.proofs.ListTest.{half_room}
use Rattle.routes.proofs.Columns.{rows_of_columns}
use Rattle.runs.specs.Table.{runs_lent, run_starts, run_hops}
use Rattle.runs.specs.Build.{run_room}
use Rattle.runs.specs.Pair.{Pair, pair, list_of, its_runs, pair_check}
use Rattle.runs.proofs.Agreed.{agreed_half, agreed_room}
use Rattle.runs.proofs.Table.{same_count}
use Rattle.runs.proofs.TableOutcomes.{pair_agreed}
use Rattle.edit.specs.Edit.{Edited, announce, withdraw}
use Rattle.edit.proofs.Accepted.{Accepted, announce_accepted, withdraw_accepted}

-- the pair that an edit leaves
abbrev pub edited : Edited → Pair
edited o = pair (list_lent o.count o.keys o.hops) (runs_lent o.runs o.starts o.rhops)

module _ {k : ℕ} {after : List Row} {p : Pair} {o : Edited} (a : Accepted k after p o) where
  pub left_rows : list_of (edited o) ≡ after
  unfolding rewritten
  left_rows = ap (λ (x : Edited). rows_of x.count x.keys x.hops) a.is ∙ rows_of_columns after _ _

  old_rows : p.list.count ≤ list_room p.list.keys p.list.hops
  old_rows = half_room _ _ _ (agreed_half p a.agreed)

  left_room : list_room o.keys o.hops ≡ list_room p.list.keys p.list.hops
  unfolding list_room
  left_room =
      let old = old_rows in
      let new = a.rows_fit in
      let long = length_rewritten (keys_of after) p.list.count p.list.keys
      (omega (arith, length-map after (λ r. r.key))) (omega arith) in
      let long' = length_rewritten (hops_of after) p.list.count p.list.hops
      (omega (arith, length-map after (λ r. r.hop))) (omega arith) in
      ap (λ (x : Edited). list_room x.keys x.hops) a.is ∙ rw (long, long')

  left_run_room : run_room o.starts o.rhops ≡ run_room p.table.starts p.table.hops
  unfolding run_room
  left_run_room =
      let old = agreed_room p a.agreed in
      let new = a.runs_fit in
      let long = length_rewritten (run_starts after) p.table.count p.table.starts (omega arith) (omega arith) in
      let long' = length_rewritten (run_hops after) p.table.count p.table.hops (omega (arith, same_count after)) (omega arith) in
      ap (λ (x : Edited). run_room x.starts x.rhops) a.is ∙ rw (long, long')

  left_count : o.count ≡ length after
  left_count = ap (λ (x : Edited). x.count) a.is

  pub left_runs : o.runs ≡ length (run_starts after)
  left_runs = ap (λ (x : Edited). x.runs) a.is

  pub left_starts : take o.runs o.starts ≡ run_starts after
  left_starts =
      ap (λ (x : Edited). take o.runs x.starts) a.is ∙ take_rewritten (run_starts after) _ _ o.runs left_runs

  pub left_hops : take o.runs o.rhops ≡ run_hops after
  left_hops =
      ap (λ (x : Edited). take o.runs x.rhops) a.is
      ∙ take_rewritten (run_hops after) _ _ o.runs (left_runs ∙ sym (same_count after))

  pub left_well : well_formed o.count o.keys o.hops ≡ true
  unfolding well_formed
  left_well =
      and_both (le-leb o.count _ (rw (left_room, left_count) a.rows_fit)) (rw left_rows (parts_good after a.good))

  left_its : its_runs (edited o) ≡ true
  unfolding its_runs
  left_its = rw (left_rows, left_starts, left_hops) (and_both (same_self (run_starts after)) (same_self (run_hops after)))

  pub edit_keeps_pair : pair_check (edited o) ≡ done
  edit_keeps_pair = sym (pair_agreed (edited o) left_well (rw (left_run_room, left_runs) a.runs_fit) left_its)

module _ (p : Pair) (o : Edited) where
  pub announce_keeps_pair : (net len hop : ℕ) → o ≡ announce net len hop p → o.number ≡ done → pair_check (edited o) ≡ done
  announce_keeps_pair net len hop e d = edit_keeps_pair (announce_accepted net len hop p o e d)

  pub withdraw_keeps_pair : (net len : ℕ) → o ≡ withdraw net len p → o.number ≡ done → pair_check (edited o) ≡ done
  withdraw_keeps_pair net len e d = edit_keeps_pair (withdraw_accepted net len p o e d)
