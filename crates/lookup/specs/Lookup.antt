-- Rule 7.4: a run lookup returns the hop at the place low where halving ends, the last address of the run found, and how many probes it
-- made. Rule 7.8: the lookup over run bytes returns the hop and the last address.
-- Assumes nothing.
use Rattle.std.specs.Prelude.{cond, not, ◌||◌, List, [], ◌∷◌, ℕ, ◌-◌, ◌/◌, ◌%◌, min, length, get_or, ltb, eqb, Result, Ok, Err}
use Rattle.ground.specs.declared.Refusal.{Refusal}
use Rattle.ground.specs.Numbers.{Check, check, outcome, number_of, done, ill_formed}
use Rattle.halving.specs.Halving.{Halved, halving}
use Rattle.cidr.specs.Prefix.{dotted}
use Rattle.lookup.specs.declared.Probed.{Probed}
use Rattle.lookup.specs.declared.Held.{Held}
use Rattle.runs.specs.Table.{RunsLent}
use Rattle.lookup.specs.Bytes.{start_at, hop_at}

-- Rule 7.4: the last address of the run found is one less than the start at high, or 255.255.255.255 if high is n. `at` gives the start at
-- a place.
unfoldable pub last_of : (ℕ → ℕ) → ℕ → ℕ → ℕ
last_of at n high = cond (eqb high n) (dotted 255 255 255 255) (at high - 1)

-- Rule 7.4: what a run lookup returns, its number, the hop, the last address of the run found, and how many probes it made.
pub record RunLookupOutcome : Type 0 where
  pub number : ℕ
  pub hop : ℕ
  pub last : ℕ
  pub probes : ℕ

abbrev pub probed : ℕ → ℕ → ℕ → ℕ → RunLookupOutcome
probed n h l p = record { number = n; hop = h; last = l; probes = p }

-- the same, read from the code's answer
abbrev pub run_lookup_gave : Result Probed Refusal → RunLookupOutcome
run_lookup_gave (Ok r) = probed done r.hop r.last r.probes
run_lookup_gave (Err e) = probed (number_of e) 0 0 0

-- Rule 7.3: halving over the starts of a lent table.
unfoldable pub in_slices : ℕ → List ℕ → ℕ → Halved
in_slices n starts a = halving (λ i. get_or starts i 0) n a

-- Rule 7.2: 11 for a count of 0, or greater than the length of either slice.
unfoldable pub run_checks : RunsLent → List Check
run_checks t = check (eqb t.count 0 || ltb (min (length t.starts) (length t.hops)) t.count) ill_formed ∷ []

-- Rule 7.4: run lookup in lent slices.
unfoldable pub run_lookup : RunsLent → ℕ → RunLookupOutcome
run_lookup t a = outcome (run_checks t) (λ n. probed n 0 0 0)
    (probed done (get_or t.hops (in_slices t.count t.starts a).low 0)
    (last_of (λ i. get_or t.starts i 0) t.count (in_slices t.count t.starts a).high)
    (in_slices t.count t.starts a).probes)

-- Rule 7.8: what a lookup over run bytes returns, its number, the hop, and the last address of the run found.
pub record BytesLookupOutcome : Type 0 where
  pub number : ℕ
  pub hop : ℕ
  pub last : ℕ

abbrev pub held : ℕ → ℕ → ℕ → BytesLookupOutcome
held n h l = record { number = n; hop = h; last = l }

-- the same, read from the code's answer
abbrev pub bytes_lookup_gave : Result Held Refusal → BytesLookupOutcome
bytes_lookup_gave (Ok r) = held done r.hop r.last
bytes_lookup_gave (Err e) = held (number_of e) 0 0

-- Rule 7.8: halving over the starts that run bytes give, six bytes a run.
unfoldable pub in_bytes : List ℕ → ℕ → Halved
in_bytes bytes a = halving (start_at bytes) (length bytes / 6) a

-- Rule 7.8: 11 for 0 bytes, and for a number of bytes that isn't a multiple of 6.
unfoldable pub bytes_checks : List ℕ → List Check
bytes_checks bytes = check (eqb (length bytes) 0 || not (eqb (length bytes % 6) 0)) ill_formed ∷ []

-- Rule 7.8: lookup over run bytes.
unfoldable pub bytes_lookup : List ℕ → ℕ → BytesLookupOutcome
bytes_lookup bytes a = outcome (bytes_checks bytes) (λ n. held n 0 0)
    (held done (hop_at bytes (in_bytes bytes a).low) (last_of (start_at bytes) (length bytes / 6) (in_bytes bytes a).high))
