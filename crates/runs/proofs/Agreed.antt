-- What a pair is of which the pair check says done: the list is well-formed, so the keys of its rows are the first of the slice, prefixes
-- and ascending; and the first slots of the starts and hops are the list's run table. Packing and edits begin with it.
-- Assumes nothing.
use mathlib.Core.Path.{◌≡◌}
use mathlib.Core.Bool.{true, not}
use Prim.Native.Nat.{◌≤◌}
use lib.ListN.{take}
use borrow.Author.Tests.{ltb-false}
use Rattle.ground.specs.Column.{ascends}
use Rattle.ground.specs.Numbers.{done}
use Rattle.ground.specs.Slots.{same}
use Rattle.ground.proofs.Slots.{same_is}
use Rattle.ground.proofs.Truth.{and_left, and_right, or_neither, not-false}
use Rattle.routes.specs.Row.{keys_of}
use Rattle.routes.specs.WellFormed.{prefixes, ascending, half_rows, well_formed, half_formed}
use Rattle.routes.specs.Plain.{plain}
use Rattle.routes.proofs.Columns.{keys_of_rows}
use Rattle.routes.proofs.ListTest.{well_half}
use Rattle.runs.specs.Table.{RunTable, run_starts, run_hops}
use Rattle.runs.specs.Build.{run_room}
use Rattle.runs.specs.Pair.{Pair, list_of, pair_ill, its_runs, pair_check}
use Rattle.runs.proofs.Table.{table_of}
use Rattle.runs.proofs.WholeList.{in_keys, in_hops, slices_rows, slices_sorted}
use Rattle.runs.proofs.TableOutcomes.{pair_agrees}

module _ (p : Pair) (agreed : pair_check p ≡ done) where
  pub agreed_well : well_formed p.list.count p.list.keys p.list.hops ≡ true
  unfolding pair_ill
  agreed_well = not-false _ (or_neither (not (well_formed p.list.count p.list.keys p.list.hops)) _ (pair_agrees p agreed).0).0

  pub agreed_half : half_formed p.list.count p.list.keys p.list.hops ≡ true
  agreed_half = well_half _ _ _ agreed_well

  pub agreed_room : p.table.count ≤ run_room p.table.starts p.table.hops
  unfolding pair_ill
  agreed_room =
      ltb-false _ _
      (or_neither (not (well_formed p.list.count p.list.keys p.list.hops)) _ (pair_agrees p agreed).0).1

  pub agreed_starts : take p.table.count p.table.starts ≡ run_starts (list_of p)
  unfolding its_runs
  agreed_starts =
      same_is _ _ (and_left (same (take p.table.count p.table.starts) (run_starts (list_of p))) _ (pair_agrees p agreed).1)

  pub agreed_hops : take p.table.count p.table.hops ≡ run_hops (list_of p)
  unfolding its_runs
  agreed_hops =
      same_is _ _ (and_right (same (take p.table.count p.table.starts) (run_starts (list_of p))) _ (pair_agrees p agreed).1)

  -- the run table, as the slices of its runs
  pub agreed_table : RunTable (plain (list_of p)) (take p.table.count p.table.starts) (take p.table.count p.table.hops)
  unfolding run_starts run_hops
  agreed_table = rw (agreed_starts, agreed_hops) (table_of (plain (list_of p)))

  -- the list's keys
  pub agreed_keys : keys_of (list_of p) ≡ take p.list.count p.list.keys
  agreed_keys =
      keys_of_rows p.list.count p.list.keys p.list.hops (in_keys _ p.list.keys p.list.hops agreed_half)
      (in_hops _ p.list.keys p.list.hops agreed_half)

  half : half_rows (list_of p) ≡ true
  half = rw (slices_rows _ _ _ agreed_half) at (slices_sorted _ _ _ agreed_half).half

  pub agreed_prefixes : prefixes (list_of p) ≡ true
  unfolding half_rows
  agreed_prefixes = and_left (prefixes (list_of p)) (ascending (list_of p)) half

  pub agreed_ascends : ascends (take p.list.count p.list.keys) ≡ true
  unfolding half_rows ascending
  agreed_ascends = rw agreed_keys at (and_right (prefixes (list_of p)) (ascends (keys_of (list_of p))) half)
