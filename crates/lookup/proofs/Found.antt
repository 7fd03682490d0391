-- Lookup in a run table finds the run that holds the address, so the hop there is the answer; lookup in its run bytes finds the same, with
-- the same last address.
-- Assumes nothing.
use mathlib.Core.Path.{◌≡◌, refl, ◌∙◌}
use mathlib.Core.List.{List, [], ◌∷◌}
use Prim.Native.Nat.{ℕ, zero, suc, ◌+◌, ◌*◌, ◌/◌, ◌≤◌, ◌<◌}
use native.Mathlib.Omega.{arith}
use lib.ListN.{length, get_or}
use Rattle.ground.specs.Numbers.{first_fault, done}
use Rattle.halving.proofs.Halving.{low_below, low_at_most, high_next, high_at_most, high_above, halving_agrees}
use Rattle.cidr.specs.Prefix.{addresses}
use Rattle.runs.specs.Table.{RunTable}
use Rattle.lookup.specs.Bytes.{run_bytes, start_at, hop_at}
use Rattle.lookup.specs.Lookup.{last_of, in_slices, held, in_bytes, bytes_checks, bytes_lookup}
use Rattle.lookup.proofs.LookupOutcomes.{last_agrees, sixes_accepted, bytes_looked_up}

-- the last address of the run that is found in a whole table
abbrev pub last_in : List ℕ → ℕ → ℕ
last_in starts a = last_of (λ i. get_or starts i 0) (length starts) (in_slices (length starts) starts a).high

-- run i holds the address
pub record RunHolds (starts : List ℕ) (a i : ℕ) : Type 0 where
  pub in_table : i < length starts
  pub from : get_or starts i 0 ≤ a
  pub before : i + 1 < length starts → a < get_or starts (i + 1) 0

module _ {f : ℕ → ℕ} {starts hops : List ℕ} (t : RunTable f starts hops) (a : ℕ) where
  pub place_found : RunHolds starts a (in_slices (length starts) starts a).low
  unfolding in_slices
  place_found = record {
    in_table = low_below (λ i. get_or starts i 0) (length starts) a t.some_run;
    from = low_at_most (λ i. get_or starts i 0) (length starts) a (omega arith);
    before = rw (high_next (λ i. get_or starts i 0) (length starts) a t.some_run) at (high_above (λ i. get_or starts i 0) (length starts) a);
  }

  pub hop_found : a < addresses → get_or hops (in_slices (length starts) starts a).low 0 ≡ f a
  hop_found h = t.answers _ a place_found.in_table place_found.from h place_found.before

-- each run takes six bytes
six_more : (i j : ℕ) → suc i * 6 + j ≡ suc (suc (suc (suc (suc (suc (i * 6 + j))))))
six_more i j = omega arith

pub run_bytes_length : (starts hops : List ℕ) → length hops ≡ length starts → length (run_bytes starts hops) ≡ length starts * 6
unfolding run_bytes
run_bytes_length [] hops e = refl
run_bytes_length (s ∷ starts) [] e = absurd (omega arith)
run_bytes_length (s ∷ starts) (h ∷ hops) e = omega (arith, run_bytes_length starts hops (omega arith))

-- what is read from the bytes is what they were made of
pub start_at_lem : (starts hops : List ℕ) (i : ℕ) → i < length starts → i < length hops → start_at (run_bytes starts hops) i ≡ get_or starts i 0
unfolding run_bytes start_at
start_at_lem [] hops i l k = absurd (omega arith)
start_at_lem (s ∷ starts) [] i l k = absurd (omega arith)
start_at_lem (s ∷ starts) (h ∷ hops) zero l k = omega arith
start_at_lem (s ∷ starts) (h ∷ hops) (suc i) l k = simp six_more (start_at_lem starts hops i (omega arith) (omega arith))

pub hop_at_lem : (starts hops : List ℕ) (i : ℕ) → i < length starts → i < length hops → hop_at (run_bytes starts hops) i ≡ get_or hops i 0
unfolding run_bytes hop_at
hop_at_lem [] hops i l k = absurd (omega arith)
hop_at_lem (s ∷ starts) [] i l k = absurd (omega arith)
hop_at_lem (s ∷ starts) (h ∷ hops) zero l k = omega arith
hop_at_lem (s ∷ starts) (h ∷ hops) (suc i) l k = simp six_more (hop_at_lem starts hops i (omega arith) (omega arith))

-- of starts below 2^32 and hops below 2^16 they are bytes
pub run_bytes_below : (starts hops : List ℕ) → ((i : ℕ) → i < length starts → get_or starts i 0 < addresses)
    → ((i : ℕ) → i < length hops → get_or hops i 0 < 65536)
    → (k : ℕ) → k < length (run_bytes starts hops) → get_or (run_bytes starts hops) k 0 < 256
unfolding run_bytes
run_bytes_below [] hops s h k l = absurd (omega arith)
run_bytes_below (x ∷ starts) [] s h k l = absurd (omega arith)
run_bytes_below (x ∷ starts) (y ∷ hops) s h zero l = omega (arith, s 0 (omega arith))
run_bytes_below (x ∷ starts) (y ∷ hops) s h (suc zero) l = omega arith
run_bytes_below (x ∷ starts) (y ∷ hops) s h (suc (suc zero)) l = omega arith
run_bytes_below (x ∷ starts) (y ∷ hops) s h (suc (suc (suc zero))) l = omega arith
run_bytes_below (x ∷ starts) (y ∷ hops) s h (suc (suc (suc (suc zero)))) l = omega (arith, h 0 (omega arith))
run_bytes_below (x ∷ starts) (y ∷ hops) s h (suc (suc (suc (suc (suc zero))))) l = omega arith
run_bytes_below (x ∷ starts) (y ∷ hops) s h (suc (suc (suc (suc (suc (suc k)))))) l =
    run_bytes_below starts hops (λ i m. s (suc i) (omega arith)) (λ i m. h (suc i) (omega arith)) k (omega arith)

module _ (starts hops : List ℕ) (paired : length hops ≡ length starts) where
  pub runs_in_bytes : length (run_bytes starts hops) / 6 ≡ length starts
  runs_in_bytes = omega (arith, run_bytes_length starts hops paired)

  pub bytes_found : (a : ℕ) → in_bytes (run_bytes starts hops) a ≡ in_slices (length starts) starts a
  unfolding in_bytes in_slices
  bytes_found a =
      rw runs_in_bytes
      (halving_agrees (start_at (run_bytes starts hops)) (length starts) a (λ i. get_or starts i 0)
      (λ i l. start_at_lem starts hops i l (omega arith)))

  pub last_found : (a : ℕ)
      → last_of (start_at (run_bytes starts hops)) (length starts) (in_slices (length starts) starts a).high ≡ last_in starts a
  unfolding in_slices
  last_found a =
      last_agrees _ _ (length starts) _ (high_at_most (λ i. get_or starts i 0) (length starts) a)
      (λ i l. start_at_lem starts hops i l (omega arith))

  pub bytes_accepted : 0 < length starts → first_fault (bytes_checks (run_bytes starts hops)) ≡ done
  bytes_accepted some =
      let six : length (run_bytes starts hops) ≡ length starts * 6 = run_bytes_length starts hops paired in
      sixes_accepted (run_bytes starts hops) (omega arith) (omega arith)

module _ {f : ℕ → ℕ} {starts hops : List ℕ} (t : RunTable f starts hops) (a : ℕ) where
  pub bytes_answer : a < addresses → bytes_lookup (run_bytes starts hops) a ≡ held done (f a) (last_in starts a)
  bytes_answer h =
      let found = (place_found t a).in_table in
      bytes_looked_up _ a (bytes_accepted starts hops t.paired t.some_run)
      ∙ rw (bytes_found starts hops t.paired a, runs_in_bytes starts hops t.paired, last_found starts hops t.paired a)
      (rw (hop_at_lem starts hops _ found (omega arith), hop_found t a h))
