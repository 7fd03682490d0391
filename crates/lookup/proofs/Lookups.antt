-- Rule 7.6: on the run table of a list, run lookup gives the plain answer at every address: in the first slots of lent slices, which may be
-- longer, and in its run bytes. Halving sees the first slots alone, and they are the run table, whose laws say that the hop is the answer.
-- The last address and the start are those of the run found in the table.
-- Assumes nothing.
use mathlib.Core.Path.{◌≡◌, refl, sym, ◌∙◌}
use mathlib.Core.List.{List}
use Prim.Native.Nat.{ℕ, ◌<◌}
use native.Mathlib.Omega.{arith}
use lib.ListN.{length, get_or, take}
use Rattle.ground.proofs.Slots.{first_long, first_slot}
use Rattle.ground.specs.Numbers.{first_fault, done}
use Rattle.halving.proofs.Halving.{halving_agrees, high_at_most}
use Rattle.cidr.specs.Prefix.{addresses}
use Rattle.routes.specs.Row.{Row}
use Rattle.routes.specs.Plain.{plain}
use Rattle.runs.specs.Table.{RunTable, runs_lent, run_starts, run_hops}
use Rattle.lookup.specs.Bytes.{run_bytes}
use Rattle.lookup.specs.Lookup.{in_slices, run_checks, run_lookup, held, bytes_lookup}
use Rattle.runs.proofs.Table.{table_of}
use Rattle.lookup.proofs.Found.{last_in, place_found, hop_found, bytes_answer}
use Rattle.lookup.proofs.LookupOutcomes.{last_agrees, runs_accepted, accepted}

module _ {f : ℕ → ℕ} {runs ans : List ℕ} (t : RunTable f runs ans) (starts hops : List ℕ) (s : take (length runs) starts ≡ runs)
    (h : take (length runs) hops ≡ ans) where
  table_accepted : first_fault (run_checks (runs_lent (length runs) starts hops)) ≡ done
  table_accepted =
      let long = first_long (length runs) starts runs s refl in
      let long' = first_long (length runs) hops ans h (sym t.paired) in
      runs_accepted _ t.some_run (omega arith)

  same_halving : (a : ℕ) → in_slices (length runs) starts a ≡ in_slices (length runs) runs a
  unfolding in_slices
  same_halving a = halving_agrees (λ i. get_or starts i 0) (length runs) a (λ i. get_or runs i 0) (first_slot (length runs) starts runs s)

  table_answers : (a : ℕ) → a < addresses
      → ((run_lookup (runs_lent (length runs) starts hops) a).number ≡ done) × ((run_lookup (runs_lent (length runs) starts hops) a).hop ≡ f a)
  table_answers a l =
      let hop = first_slot (length runs) hops ans h _ (place_found t a).in_table in
      let is = accepted (runs_lent (length runs) starts hops) a table_accepted in
      (rw is, rw (is, same_halving a) (hop ∙ hop_found t a l))

  table_last : (a : ℕ) → (run_lookup (runs_lent (length runs) starts hops) a).last ≡ last_in runs a
  unfolding in_slices
  table_last a =
      let is = accepted (runs_lent (length runs) starts hops) a table_accepted in
      let within = high_at_most (λ i. get_or runs i 0) (length runs) a in
      rw (is, same_halving a) (last_agrees _ _ (length runs) _ within (first_slot (length runs) starts runs s))

  table_start : (a : ℕ)
      → get_or starts (in_slices (length runs) starts a).low 0 ≡ get_or runs (in_slices (length runs) runs a).low 0
  table_start a = rw (same_halving a) (first_slot (length runs) starts runs s _ (place_found t a).in_table)

-- in the first slots of lent slices, which may be longer
module _ (rows : List Row) (n : ℕ) (starts hops : List ℕ) (count : n ≡ length (run_starts rows)) (s : take n starts ≡ run_starts rows)
    (h : take n hops ≡ run_hops rows) where
  pub run_lookup_plain : (a : ℕ) → a < addresses
      → ((run_lookup (runs_lent n starts hops) a).number ≡ done) × ((run_lookup (runs_lent n starts hops) a).hop ≡ plain rows a)
  unfolding run_starts run_hops
  run_lookup_plain a l = rw count (table_answers (table_of (plain rows)) starts hops (rw count at s) (rw count at h) a l)

  pub run_lookup_last : (a : ℕ) → (run_lookup (runs_lent n starts hops) a).last ≡ last_in (run_starts rows) a
  unfolding run_starts run_hops
  run_lookup_last a = rw count (table_last (table_of (plain rows)) starts hops (rw count at s) (rw count at h) a)

  pub run_lookup_start : (a : ℕ)
      → get_or starts (in_slices n starts a).low 0 ≡ get_or (run_starts rows) (in_slices (length (run_starts rows)) (run_starts rows) a).low 0
  unfolding run_starts run_hops
  run_lookup_start a = rw count (table_start (table_of (plain rows)) starts hops (rw count at s) (rw count at h) a)

-- in its run bytes
pub bytes_lookup_plain : (rows : List Row) (a : ℕ) → a < addresses
    → bytes_lookup (run_bytes (run_starts rows) (run_hops rows)) a ≡ held done (plain rows a) (last_in (run_starts rows) a)
unfolding run_starts run_hops
bytes_lookup_plain rows a l = bytes_answer (table_of (plain rows)) a l
