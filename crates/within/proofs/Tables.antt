-- The joined columns are the run table of the list after an edit. Runs over a stretch depend on the answer in that stretch only, so the
-- inside may be the runs of any answer that agrees there, such as the sweep's over the rows inside the prefix.
-- Assumes nothing.
use mathlib.Core.Path.{◌≡◌, refl, sym, ap, ◌∙◌}
use mathlib.Core.Bool.{Bool, true}
use mathlib.Core.Logic.{⊎_elim}
use mathlib.Core.List.{List}
use Prim.Native.Nat.{ℕ, ◌+◌, ◌-◌, ◌≤◌, ◌<◌}
use native.Mathlib.Nat.{eq-or-lt_of_le}
use native.Mathlib.Omega.{arith}
use lib.ListN.{length, get_or}
use Rattle.ground.specs.Stretch.{turns_from}
use Rattle.ground.specs.Stretch.Laws.{picked_agree}
use Rattle.ground.specs.Stretch.Turns.{turns_at_first}
use Rattle.cidr.specs.Prefix.{addresses, network, length_of, end_of}
use Rattle.cidr.proofs.Prefix.{size_pos, not_before, not_after}
use Rattle.routes.specs.Row.{Row}
use Rattle.routes.specs.WellFormed.{ascending}
use Rattle.routes.specs.Plain.{plain}
use Rattle.routes.proofs.Change.{ButFor, plain_outside}
use Rattle.runs.specs.Table.{run_starts, run_hops, run_hops_of}
use Rattle.runs.specs.Table.Laws.{starts_are}
use Rattle.within.specs.Seams.{Outside, RunsOf, Seams, joined, joined_count}
use Rattle.within.proofs.Cut.{turns_agree}
use Rattle.within.proofs.Joined.{map_picked, joined_runs}
use Rattle.within.proofs.Places.{new_count}

pub runs_agree : (f g : ℕ → ℕ) (first n : ℕ) (starts hops : List ℕ) → ((a : ℕ) → first ≤ a → a < first + n → g a ≡ f a)
    → RunsOf f first n starts hops → RunsOf g first n starts hops
runs_agree f g first n starts hops h r = record {
  starts_are = r.starts_are ∙ sym (picked_agree (turns_from first g) (turns_from first f) first n turn);
  hops_are = r.hops_are ∙ rw r.starts_are (sym (map_picked (turns_from first f) f g first n h));
}
  where
    turn : (a : ℕ) → first ≤ a → a < first + n → turns_from first g a ≡ turns_from first f a
    turn a ge lt = ⊎_elim
        (λ (e : first ≡ a). rw (← e) (turns_at_first first g ∙ sym (turns_at_first first f)))
        (λ past. turns_agree first f g a (h a ge lt) (h (a - 1) (omega arith) (omega arith)))
        (eq-or-lt_of_le ge)

pub table_runs : (rows : List Row) → RunsOf (plain rows) 0 addresses (run_starts rows) (run_hops rows)
unfolding run_starts run_hops run_hops_of
table_runs rows = record { starts_are = starts_are (plain rows); hops_are = refl }

-- lists that differ only in the row of a prefix have answers that agree outside the prefix
pub edit_outside : (k : ℕ) (rows rows' : List Row) → ButFor k rows rows' → ascending rows' ≡ true → end_of k ≤ addresses
    → Outside (plain rows) (plain rows') (network k) (end_of k) addresses
edit_outside k rows rows' b asc fits = record {
  some = omega (arith, size_pos (length_of k));
  fits = fits;
  below = λ a l. plain_outside k rows rows' b asc a (not_before k a l);
  above = λ a l lt. plain_outside k rows rows' b asc a (not_after k a l);
}

module _ (rows rows' : List Row) (net end : ℕ) (o : Outside (plain rows) (plain rows') net end addresses)
    (i j : ℕ) (before behind : Bool) (s : Seams (plain rows') net end addresses (run_starts rows) (run_hops rows) i j before behind)
    (inner inner-hops : List ℕ) (inside : RunsOf (plain rows') net (end - net) inner inner-hops) where
  new_runs : RunsOf (plain rows') 0 addresses (joined i j before behind end inner (run_starts rows))
      (joined i j before behind (get_or (run_hops rows) (j - 1) 0) inner-hops (run_hops rows))
  new_runs = joined_runs (plain rows) (plain rows') net end addresses o _ _ (table_runs rows) i j before behind s inner inner-hops inside

  pub table_starts : run_starts rows' ≡ joined i j before behind end inner (run_starts rows)
  table_starts = (table_runs rows').starts_are ∙ sym new_runs.starts_are

  pub table_hops : run_hops rows' ≡ joined i j before behind (get_or (run_hops rows) (j - 1) 0) inner-hops (run_hops rows)
  table_hops = (table_runs rows').hops_are ∙ rw table_starts (sym new_runs.hops_are)

  pub table_count : length (run_starts rows') ≡ joined_count i j before behind (length inner) (length (run_starts rows))
  table_count =
      ap length (table_runs rows').starts_are
      ∙ new_count (plain rows) (plain rows') net end addresses o _ _ (table_runs rows) i j before behind s inner inner-hops inside
