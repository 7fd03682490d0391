-- What a run lookup's outcome is, case by case: 11 where there are no runs or more than the slices hold, else the hop at low where halving
-- ends, the last address by the start at high, and the probes; and the same over run bytes. An outcome is one answer's.
-- Assumes nothing.
use mathlib.Core.Path.{◌≡◌, refl, sym, ap, ◌∙◌}
use mathlib.Core.Bool.{Bool, true, false, cond}
use mathlib.Core.List.{List}
use Prim.Native.Nat.{ℕ, ◌-◌, ◌/◌, ◌%◌, ◌^◌, ◌≤◌, ◌<◌, min, zero-le}
use native.Mathlib.Omega.{arith}
use lib.ListN.{length, get_or}
use lib.Dec.{eqb}
use borrow.Author.Tests.{eqb-false, eq-eqb, ne_eqb, lt-ltb, le-ltb}
use Rattle.std.proofs.Common.{Result, Ok, Err}
use Rattle.ground.specs.declared.Refusal.{Refusal}
use Rattle.ground.specs.declared.Refusal.TheVariants.{IllFormed}
use Rattle.ground.specs.Numbers.{first_fault, outcome, done, ill_formed}
use Rattle.ground.proofs.Truth.{or_right}
use Rattle.ground.proofs.Numbers.{outcome_done, outcome_refused, answer_by, tells_refusal}
use Rattle.halving.proofs.Halving.{low_below, probes_at_most}
use Rattle.lookup.specs.declared.Probed.{Probed}
use Rattle.lookup.specs.declared.Held.{Held}
use Rattle.runs.specs.Table.{RunsLent}
use Rattle.lookup.specs.Bytes.{start_at, hop_at}
use Rattle.lookup.specs.Lookup.{last_of, RunLookupOutcome, probed, run_lookup_gave, in_slices, run_checks, run_lookup}
use Rattle.lookup.specs.Lookup.{BytesLookupOutcome, held, bytes_lookup_gave, in_bytes, bytes_checks, bytes_lookup}
use Rattle.lookup.specs.Inside.Reached.{ReachedBy}

-- the last address: of the last run, and of another
module _ (at : ℕ → ℕ) (n high : ℕ) where
  pub last_of_all : high ≡ n → 4294967295 ≡ last_of at n high
  unfolding last_of
  last_of_all e = rw (eq-eqb high n e)

  pub last_before : high < n → at high - 1 ≡ last_of at n high
  unfolding last_of
  last_before l = rw (ne_eqb high n (omega arith))

-- places below n alone have a say
pub last_agrees : (at other : ℕ → ℕ) (n high : ℕ) → high ≤ n → ((i : ℕ) → i < n → at i ≡ other i) → last_of at n high ≡ last_of other n high
unfolding last_of
last_agrees at other n high within same = go (eqb high n) refl
  where
    go : (b : Bool) → eqb high n ≡ b → cond b 4294967295 (at high - 1) ≡ cond b 4294967295 (other high - 1)
    go true e = refl
    go false e = rw (same high (omega (arith, eqb-false high n e)))

-- halving ends at a place below n
pub reached_low : {at : ℕ → ℕ} {n a low last probes : ℕ} → ReachedBy at n a low last probes → 0 < n → low < n
reached_low {at} {n} {a} f some = omega (arith, f.low_is, low_below at n a some)

module _ (t : RunsLent) where
  pub no_runs : t.count ≡ 0 → first_fault (run_checks t) ≡ ill_formed
  unfolding run_checks first_fault
  no_runs e = rw (eq-eqb t.count 0 e)

  pub beyond_slices : min (length t.starts) (length t.hops) < t.count → first_fault (run_checks t) ≡ ill_formed
  unfolding run_checks first_fault
  beyond_slices l = rw (or_right (eqb t.count 0) (lt-ltb _ _ l))

  pub runs_accepted : 1 ≤ t.count → t.count ≤ min (length t.starts) (length t.hops) → first_fault (run_checks t) ≡ done
  unfolding run_checks first_fault
  runs_accepted some l = rw (ne_eqb t.count 0 (omega arith), le-ltb _ _ l)

  module _ (a : ℕ) where
    pub refused : first_fault (run_checks t) ≡ ill_formed → run_lookup_gave (Err IllFormed) ≡ run_lookup t a
    unfolding run_lookup
    refused e = sym (outcome_refused (run_checks t) _ _ ill_formed e (λ z. omega arith))

    pub accepted : first_fault (run_checks t) ≡ done
        → run_lookup t a
        ≡ probed done (get_or t.hops (in_slices t.count t.starts a).low 0)
        (last_of (λ i. get_or t.starts i 0) t.count (in_slices t.count t.starts a).high)
        (in_slices t.count t.starts a).probes
    unfolding run_lookup
    accepted e = outcome_done (run_checks t) _ _ e

    pub found : {low last probes : ℕ} → first_fault (run_checks t) ≡ done
        → ReachedBy (λ i. get_or t.starts i 0) t.count a low last probes
        → run_lookup_gave (Ok (record { hop = get_or t.hops low 0; last = last; probes = probes })) ≡ run_lookup t a
    unfolding in_slices
    found e f = sym (accepted e ∙ rw (f.low_is, f.last_is, f.probes_are))

    -- the number of probes is never above the least p with 2^p at least n
    pub run_probes_at_most : (p : ℕ) → t.count ≤ 2 ^ p → (run_lookup t a).probes ≤ p
    unfolding run_lookup in_slices outcome
    run_probes_at_most p h = go (eqb (first_fault (run_checks t)) done) _ _ _ _ (probes_at_most _ t.count a p h)
      where
        go : (b : Bool) (number hop last probes : ℕ) → probes ≤ p
            → (cond b (probed done hop last probes) (probed number 0 0 0)).probes ≤ p
        go true number hop last probes l = l
        go false number hop last probes l = zero-le

module _ (bytes : List ℕ) where
  pub no_bytes : length bytes ≡ 0 → first_fault (bytes_checks bytes) ≡ ill_formed
  unfolding bytes_checks first_fault
  no_bytes e = rw (eq-eqb (length bytes) 0 e)

  pub no_sixes : (length bytes % 6 ≡ 0 → ⊥) → first_fault (bytes_checks bytes) ≡ ill_formed
  unfolding bytes_checks first_fault
  no_sixes n = rw (ne_eqb (length bytes % 6) 0 n, or_right (eqb (length bytes) 0) {b = true} refl)

  pub sixes_accepted : 0 < length bytes → length bytes % 6 ≡ 0 → first_fault (bytes_checks bytes) ≡ done
  unfolding bytes_checks first_fault
  sixes_accepted some e = rw (ne_eqb (length bytes) 0 (omega arith), eq-eqb (length bytes % 6) 0 e)

  module _ (a : ℕ) where
    pub bytes_refused : first_fault (bytes_checks bytes) ≡ ill_formed → bytes_lookup_gave (Err IllFormed) ≡ bytes_lookup bytes a
    unfolding bytes_lookup
    bytes_refused e = sym (outcome_refused (bytes_checks bytes) _ _ ill_formed e (λ z. omega arith))

    pub bytes_looked_up : first_fault (bytes_checks bytes) ≡ done
        → bytes_lookup bytes a
        ≡ held done (hop_at bytes (in_bytes bytes a).low) (last_of (start_at bytes) (length bytes / 6) (in_bytes bytes a).high)
    unfolding bytes_lookup
    bytes_looked_up e = outcome_done (bytes_checks bytes) _ _ e

    pub bytes_held : {hop low last probes : ℕ} → first_fault (bytes_checks bytes) ≡ done
        → ReachedBy (start_at bytes) (length bytes / 6) a low last probes → hop ≡ hop_at bytes low
        → bytes_lookup_gave (Ok (record { hop = hop; last = last })) ≡ bytes_lookup bytes a
    unfolding in_bytes
    bytes_held e f p = sym (bytes_looked_up e ∙ rw (p, f.low_is, f.last_is))

abbrev probed_by : RunLookupOutcome → Result Probed Refusal
probed_by o = answer_by o.number (record { hop = o.hop; last = o.last; probes = o.probes })

tells : (r : Result Probed Refusal) → probed_by (run_lookup_gave r) ≡ r
tells (Ok r) = refl
tells (Err e) = tells_refusal e _

pub run_lookup_settled : (t : RunsLent) (a : ℕ) (r r' : Result Probed Refusal)
    → run_lookup_gave r ≡ run_lookup t a → run_lookup_gave r' ≡ run_lookup t a → r ≡ r'
run_lookup_settled t a r r' e e' = sym (tells r) ∙ ap probed_by (e ∙ sym e') ∙ tells r'

abbrev held_by : BytesLookupOutcome → Result Held Refusal
held_by o = answer_by o.number (record { hop = o.hop; last = o.last })

tells_held : (r : Result Held Refusal) → held_by (bytes_lookup_gave r) ≡ r
tells_held (Ok r) = refl
tells_held (Err e) = tells_refusal e _

pub bytes_lookup_settled : (bytes : List ℕ) (a : ℕ) (r r' : Result Held Refusal)
    → bytes_lookup_gave r ≡ bytes_lookup bytes a → bytes_lookup_gave r' ≡ bytes_lookup bytes a → r ≡ r'
bytes_lookup_settled bytes a r r' e e' = sym (tells_held r) ∙ ap held_by (e ∙ sym e') ∙ tells_held r'

-- what each lookup goes by
pub ruleset in_runs = (reached_low, no_runs, beyond_slices, refused)

pub ruleset in_sixes = (reached_low, no_bytes, no_sixes, sixes_accepted, bytes_refused, bytes_held)
