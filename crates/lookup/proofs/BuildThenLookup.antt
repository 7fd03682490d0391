-- Rule 17.2, demand 2, from the contracts alone: where a build was accepted, run lookup in what it left gives at every address what plain
-- lookup gives, and of a half what half lookup gives, and its last address is how far that hop holds. An accepted build leaves the run
-- table of its rows, and both lookups give their plain answer.
-- Assumes nothing.
use mathlib.Core.Path.{◌≡◌, sym, ap, ◌∙◌}
use mathlib.Core.Logic.{⊎_elim}
use mathlib.Core.Bool.{Bool, true, false}
use mathlib.Core.List.{List}
use Prim.Native.Nat.{ℕ, ◌<◌}
use native.Mathlib.Omega.{arith}
use lib.ListN.{length, take, length-map}
use Rattle.ground.specs.Numbers.{first_fault, outcome, done}
use Rattle.ground.specs.Slots.{written}
use Rattle.ground.proofs.Truth.{decided}
use Rattle.ground.proofs.Slots.{take_written}
use Rattle.cidr.specs.Prefix.{addresses}
use Rattle.routes.specs.Row.{Row, ListLent, rows_lent}
use Rattle.routes.specs.WellFormed.{formed}
use Rattle.routes.specs.Plain.{plain}
use Rattle.routes.specs.Lookup.{LookupOutcome, lookup_gave, lookup_checks, plain_lookup, half_checks, half_lookup}
use Rattle.std.proofs.Common.{Result, Ok}
use Rattle.ground.specs.declared.Refusal.{Refusal}
use Rattle.lookup.specs.declared.Probed.{Probed}
use Rattle.runs.specs.Table.{runs_lent, run_starts, run_hops, starts_of, run_hops_of}
use Rattle.runs.specs.Build.{SlotsLent, BuildOutcome, built, build_gave, build_of, build, build_half}
use Rattle.lookup.specs.Lookup.{RunLookupOutcome, run_lookup_gave, run_lookup}
use Rattle.lookup.proofs.Lookups.{run_lookup_plain}
use Rattle.lookup.proofs.HoldsUntil.{HoldsUntil, holds_as, holds_until}
use Rattle.runs.proofs.TableOutcomes.{build_ill, build_well, rows_done}

same_count : (rows : List Row) → length (run_hops rows) ≡ length (run_starts rows)
unfolding run_hops run_hops_of run_starts
same_count rows = length-map (starts_of (plain rows)) (plain rows)

-- the two lookups by the flag, which says whether the list is a half
abbrev lookup : Bool → ListLent → ℕ → LookupOutcome
lookup true l a = half_lookup l a
lookup false l a = plain_lookup l a

lookup_plain : (half : Bool) (l : ListLent) (a : ℕ) → formed half l.count l.keys l.hops ≡ true
    → (lookup half l a).hop ≡ plain (rows_lent l) a
unfolding formed plain_lookup lookup_checks half_lookup half_checks first_fault outcome
lookup_plain true l a e = rw e
lookup_plain false l a e = rw e

module _ (half : Bool) (l : ListLent) (t : SlotsLent) {n : ℕ} {starts hops : List ℕ}
    (b : build_gave (Ok n) starts hops ≡ build_of half l t) where
  -- an accepted build's list is well-formed, so its lookup answers
  well : formed half l.count l.keys l.hops ≡ true
  well = ⊎_elim (λ e. e) (λ e. absurd (omega (arith, ap (λ (o : BuildOutcome). o.number) (b ∙ sym (build_ill half l t e))))) (decided _)

  left : built done n starts hops
      ≡ built done (length (run_starts (rows_lent l)))
      (written (run_starts (rows_lent l)) t.starts)
      (written (run_hops (rows_lent l)) t.hops)
  left = rows_done (rows_lent l) t (b ∙ build_well half l t well)

  count_is : n ≡ length (run_starts (rows_lent l))
  count_is = ap (λ (o : BuildOutcome). o.runs) left

  starts_are : take n starts ≡ run_starts (rows_lent l)
  starts_are = ap (take n) (ap (λ (o : BuildOutcome). o.starts) left) ∙ take_written _ t.starts n count_is

  hops_are : take n hops ≡ run_hops (rows_lent l)
  hops_are = ap (take n) (ap (λ (o : BuildOutcome). o.hops) left) ∙ take_written _ t.hops n (count_is ∙ sym (same_count (rows_lent l)))

  then_lookup : {a : ℕ} (r : Result Probed Refusal) (p : Result ℕ Refusal) → a < addresses → run_lookup_gave r ≡ run_lookup (runs_lent n starts hops) a
      → lookup_gave p ≡ lookup half l a → ((run_lookup_gave r).number ≡ done) × ((run_lookup_gave r).hop ≡ (lookup_gave p).hop)
  then_lookup {a} r p below e e' =
      let found = run_lookup_plain (rows_lent l) n starts hops count_is starts_are hops_are a below in (
        ap (λ (o : RunLookupOutcome). o.number) e ∙ found.0,
        ap (λ (o : RunLookupOutcome). o.hop) e ∙ found.1 ∙ sym (ap (λ (o : LookupOutcome). o.hop) e' ∙ lookup_plain half l a well),
      )

  then_holds : {a : ℕ} (r : Result Probed Refusal) → a < addresses → run_lookup_gave r ≡ run_lookup (runs_lent n starts hops) a
      → HoldsUntil (λ b. (lookup half l b).hop) a (run_lookup_gave r).last
  then_holds {a} r below e =
      rw (ap (λ (o : RunLookupOutcome). o.last) e)
      (holds_as (λ b. lookup_plain half l b well) (holds_until (rows_lent l) n starts hops count_is starts_are hops_are a below))

module _ (l : ListLent) (t : SlotsLent) {n : ℕ} {starts hops : List ℕ} where
  pub build_then_lookup : build_gave (Ok n) starts hops ≡ build l t
      → {a : ℕ} (r : Result Probed Refusal) (p : Result ℕ Refusal) → a < addresses → run_lookup_gave r ≡ run_lookup (runs_lent n starts hops) a
      → lookup_gave p ≡ plain_lookup l a → ((run_lookup_gave r).number ≡ done) × ((run_lookup_gave r).hop ≡ (lookup_gave p).hop)
  build_then_lookup b = then_lookup false l t b

  pub build_half_then_lookup : build_gave (Ok n) starts hops ≡ build_half l t
      → {a : ℕ} (r : Result Probed Refusal) (p : Result ℕ Refusal) → a < addresses → run_lookup_gave r ≡ run_lookup (runs_lent n starts hops) a
      → lookup_gave p ≡ half_lookup l a → ((run_lookup_gave r).number ≡ done) × ((run_lookup_gave r).hop ≡ (lookup_gave p).hop)
  build_half_then_lookup b = then_lookup true l t b

  pub build_then_holds : build_gave (Ok n) starts hops ≡ build l t
      → {a : ℕ} (r : Result Probed Refusal) → a < addresses → run_lookup_gave r ≡ run_lookup (runs_lent n starts hops) a
      → HoldsUntil (λ b. (plain_lookup l b).hop) a (run_lookup_gave r).last
  build_then_holds b = then_holds false l t b

  pub build_half_then_holds : build_gave (Ok n) starts hops ≡ build_half l t
      → {a : ℕ} (r : Result Probed Refusal) → a < addresses → run_lookup_gave r ≡ run_lookup (runs_lent n starts hops) a
      → HoldsUntil (λ b. (half_lookup l b).hop) a (run_lookup_gave r).last
  build_half_then_holds b = then_holds true l t b
