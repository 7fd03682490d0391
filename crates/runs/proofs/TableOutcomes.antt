-- What a build and a pair check give, case by case, and that an outcome is one answer's with its slots.
-- Assumes nothing.
use mathlib.Core.Path.{◌≡◌, refl, sym, ap, ◌∙◌}
use mathlib.Core.Bool.{Bool, true, false, not, cond}
use mathlib.Core.List.{List, [], ◌∷◌}
use Prim.Native.Nat.{ℕ, ◌+◌, ◌*◌, ◌≤◌, ◌<◌}
use native.Mathlib.Omega.{arith}
use lib.ListN.{length, take}
use lib.Dec.{ltb}
use borrow.Author.Tests.{lt-ltb, le-ltb}
use Rattle.ground.specs.Numbers.{check, first_fault, outcome, done, ill_formed, no_room, not_its_runs}
use Rattle.ground.specs.Slots.{written}
use Rattle.ground.proofs.Numbers.{outcome_later, outcome_last}
use Rattle.routes.specs.Row.{Row, ListLent, rows_lent}
use Rattle.routes.specs.WellFormed.{well_formed, formed}
use Rattle.routes.proofs.ListTest.{well_half, formed_half}
use Rattle.routes.proofs.Columns.{length_rows}
use Rattle.runs.specs.Table.{run_starts, run_hops}
use Rattle.runs.specs.Build.{SlotsLent, BuildOutcome, built, build_checks, build_of, run_room}
use Rattle.runs.specs.Pair.{Pair, pair_ill, its_runs, pair_checks, pair_check}
use Rattle.runs.specs.Inside.Rows.{build_rows}
use Rattle.sweep.specs.Sweep.{all_rows, answer, are_runs}
use Rattle.runs.proofs.WholeList.{sliced, in_keys, in_hops, slices_rows, slices_sorted, whole_starts, whole_hops}
use Rattle.runs.proofs.WholeList.{list_test, starts_taken, rhops_taken, runs_paired}
use Rattle.runs.proofs.Table.{runs_at_most}

-- A build goes by the list test, and then by the room, of a half too.
module _ (half : Bool) (l : ListLent) (s : SlotsLent) where
  pub build_ill : formed half l.count l.keys l.hops ≡ false → built ill_formed 0 s.starts s.hops ≡ build_of half l s
  unfolding build_of build_checks first_fault outcome
  build_ill e = rw e

  pub build_well : formed half l.count l.keys l.hops ≡ true → build_of half l s ≡ build_rows (rows_lent l) s
  unfolding build_of build_checks build_rows
  build_well e = outcome_later ill_formed _ _ _ (ap not e) ∙ outcome_last _ 12 _ _

  -- Rule 6.5: room for twice the rows and one more is always enough
  pub build_fits : formed half l.count l.keys l.hops ≡ true → 2 * l.count + 1 ≤ run_room s.starts s.hops
      → (build_of half l s).number ≡ done
  unfolding build_rows
  build_fits e fits =
      let in_order = formed_half l.count l.keys l.hops half e in
      let rows = length_rows l.count l.keys l.hops (in_keys _ _ _ in_order) (in_hops _ _ _ in_order) in
      let few : length (run_starts (rows_lent l)) ≤ run_room s.starts s.hops = omega (arith, runs_at_most (rows_lent l), rows) in
      ap (λ (o : BuildOutcome). o.number) (build_well e)
      ∙ rw (le-ltb (run_room s.starts s.hops) (length (run_starts (rows_lent l))) few)

-- where a build of rows is accepted, this is what it left
pub rows_done : (rows : List Row) (s : SlotsLent) {n : ℕ} {starts hops : List ℕ} → built done n starts hops ≡ build_rows rows s
    → built done n starts hops
    ≡ built done (length (run_starts rows)) (written (run_starts rows) s.starts) (written (run_hops rows) s.hops)
unfolding build_rows
rows_done rows s {n} {starts} {hops} e = go (ltb (run_room s.starts s.hops) (length (run_starts rows))) e
  where
    left : BuildOutcome
    left = built done (length (run_starts rows)) (written (run_starts rows) s.starts) (written (run_hops rows) s.hops)

    go : (full : Bool) → built done n starts hops ≡ cond full (built no_room 0 s.starts s.hops) left → built done n starts hops ≡ left
    go true q = absurd (omega (arith, ap (λ (o : BuildOutcome). o.number) q))
    go false q = q

-- The pair check goes by the list test, then by the count of runs, then by the runs themselves.
module _ (p : Pair) where
  pub pair_ill_list : well_formed p.list.count p.list.keys p.list.hops ≡ false → ill_formed ≡ pair_check p
  unfolding pair_check pair_checks pair_ill first_fault
  pair_ill_list e = rw e

  module _ (e : well_formed p.list.count p.list.keys p.list.hops ≡ true) where
    pub pair_ill_runs : run_room p.table.starts p.table.hops < p.table.count → ill_formed ≡ pair_check p
    unfolding pair_check pair_checks pair_ill first_fault
    pair_ill_runs l = rw (e, lt-ltb (run_room p.table.starts p.table.hops) p.table.count l)

    module _ (l : p.table.count ≤ run_room p.table.starts p.table.hops) where
      pub its : {b : Bool}
          → b
          ≡ are_runs (answer 0 (all_rows (take p.list.count p.list.keys) (take p.list.count p.list.hops))) 0 4294967296
          (take p.table.count p.table.starts) (take p.table.count p.table.hops)
          → its_runs p ≡ b
      unfolding its_runs are_runs
      its q =
          let in_order = well_half p.list.count p.list.keys p.list.hops e in
          let s = slices_sorted _ _ _ in_order in
          sym (q ∙ rw (whole_hops s, whole_starts s, slices_rows _ _ _ in_order))

      pub pair_agreed : its_runs p ≡ true → done ≡ pair_check p
      unfolding pair_check pair_checks pair_ill first_fault
      pair_agreed q = rw (e, le-ltb (run_room p.table.starts p.table.hops) p.table.count l, q)

      pub pair_differs : its_runs p ≡ false → not_its_runs ≡ pair_check p
      unfolding pair_check pair_checks pair_ill first_fault
      pair_differs q = rw (e, le-ltb (run_room p.table.starts p.table.hops) p.table.count l, q)

-- what each number of the pair check says of its two checks
module _ (p : Pair) where
  both : (ill its : Bool)
      → first_fault (check ill ill_formed ∷ check (not its) not_its_runs ∷ []) ≡ cond ill ill_formed (cond its done not_its_runs)
  unfolding first_fault
  both true its = refl
  both false true = refl
  both false false = refl

  pub pair_agrees : pair_check p ≡ done → (pair_ill p ≡ false) × (its_runs p ≡ true)
  unfolding pair_check pair_checks
  pair_agrees e = go (pair_ill p) (its_runs p) (sym (both (pair_ill p) (its_runs p)) ∙ e)
    where
      go : (ill its : Bool) → cond ill ill_formed (cond its done not_its_runs) ≡ done → (ill ≡ false) × (its ≡ true)
      go true its e = absurd (omega arith)
      go false true e = (refl, refl)
      go false false e = absurd (omega arith)

  pub pair_is_ill : pair_check p ≡ ill_formed → pair_ill p ≡ true
  unfolding pair_check pair_checks
  pair_is_ill e = go (pair_ill p) (its_runs p) (sym (both (pair_ill p) (its_runs p)) ∙ e)
    where
      go : (ill its : Bool) → cond ill ill_formed (cond its done not_its_runs) ≡ ill_formed → ill ≡ true
      go true its e = refl
      go false true e = absurd (omega arith)
      go false false e = absurd (omega arith)

  pub pair_is_other : pair_check p ≡ not_its_runs → (pair_ill p ≡ false) × (its_runs p ≡ false)
  unfolding pair_check pair_checks
  pair_is_other e = go (pair_ill p) (its_runs p) (sym (both (pair_ill p) (its_runs p)) ∙ e)
    where
      go : (ill its : Bool) → cond ill ill_formed (cond its done not_its_runs) ≡ not_its_runs → (ill ≡ false) × (its ≡ false)
      go true its e = absurd (omega arith)
      go false true e = absurd (omega arith)
      go false false e = (refl, refl)

-- what a build of a list goes by, and the pair check
pub ruleset list_built = (formed_half, sliced, build_ill, build_well)

pub ruleset pair_tests = (list_test, pair_ill_list, pair_ill_runs, its, pair_agreed, pair_differs)

pub ruleset pair_checked = (formed_half, sliced, starts_taken, rhops_taken, runs_paired, pair_tests)
