-- On the run table of a list, the last address that a run lookup returns is how far its hop holds: from the address asked for to the last
-- one the plain answer is the same, and at the next address it is another. Backwards it is the same down to the start of the run found, which
-- no call returns. The run found holds the address. Every address of a run has the run's hop for its answer, and two runs side by side have
-- different hops. In its run bytes it is the same.
-- Assumes nothing.
use mathlib.Core.Path.{◌≡◌, sym, ◌∙◌}
use mathlib.Core.Logic.{⊎_elim}
use mathlib.Core.List.{List}
use Prim.Native.Nat.{ℕ, zero, suc, ◌+◌, ◌-◌, ◌≤◌, ◌<◌}
use native.Mathlib.Nat.{eq-or-lt_of_le}
use native.Mathlib.Omega.{arith}
use lib.ListN.{length, get_or, take}
use Rattle.halving.proofs.Halving.{high_next}
use Rattle.cidr.specs.Prefix.{addresses}
use Rattle.routes.specs.Row.{Row}
use Rattle.routes.specs.Plain.{plain}
use Rattle.runs.specs.Table.{RunTable, runs_lent, run_starts, run_hops}
use Rattle.lookup.specs.Bytes.{run_bytes, start_at}
use Rattle.lookup.specs.Lookup.{in_slices, run_lookup, in_bytes, bytes_lookup}
use Rattle.runs.proofs.Table.{table_of}
use Rattle.lookup.proofs.Found.{last_in, RunHolds, place_found, start_at_lem, bytes_found}
use Rattle.lookup.proofs.LookupOutcomes.{last_of_all, last_before}
use Rattle.lookup.proofs.Lookups.{run_lookup_last, run_lookup_start, bytes_lookup_plain}

-- f is the same from a to `last`, and another past it
pub record HoldsUntil (f : ℕ → ℕ) (a last : ℕ) : Type 0 where
  pub from : a ≤ last
  pub below : last < addresses
  pub same : (b : ℕ) → a ≤ b → b ≤ last → f b ≡ f a
  pub another : last + 1 < addresses → f (last + 1) ≡ f a → ⊥

-- f is the same from `first` to a, and another before it
pub record HoldsFrom (f : ℕ → ℕ) (a first : ℕ) : Type 0 where
  pub to : first ≤ a
  pub same : (b : ℕ) → first ≤ b → b ≤ a → f b ≡ f a
  pub another : 0 < first → f (first - 1) ≡ f a → ⊥

-- until the same address for any g that gives what f gives
pub holds_as : {a last : ℕ} {f g : ℕ → ℕ} → ((b : ℕ) → g b ≡ f b) → HoldsUntil f a last → HoldsUntil g a last
holds_as {a} {last} is w = record {
  from = w.from;
  below = w.below;
  same = λ b ge le. is b ∙ w.same b ge le ∙ sym (is a);
  another = λ more e. w.another more (sym (is (last + 1)) ∙ e ∙ is a);
}

module _ {f : ℕ → ℕ} {starts hops : List ℕ} (t : RunTable f starts hops) where
  -- from each run to the next the answer changes
  next_turns : (i : ℕ) → i + 1 < length starts → f (get_or starts (i + 1) 0 - 1) ≡ f (get_or starts (i + 1) 0) → ⊥
  next_turns i more e =
      let up = t.ascend i more in
      let top = t.below (i + 1) more in
      let before = t.answers i (get_or starts (i + 1) 0 - 1) (omega arith) (omega arith) (omega arith) (λ l. omega arith) in
      let there = t.answers (i + 1) (get_or starts (i + 1) 0) more (omega arith) top (λ further. t.ascend (i + 1) further) in
      t.differ i more (before ∙ e ∙ sym there)

  -- so it does at every start above 0
  start_turns : (i : ℕ) → i < length starts → 0 < get_or starts i 0 → f (get_or starts i 0 - 1) ≡ f (get_or starts i 0) → ⊥
  start_turns zero l some e = absurd (omega (arith, t.first))
  start_turns (suc i) l some e = let is : suc i ≡ i + 1 = omega arith in next_turns i (omega arith) (rw is at e)

module _ {f : ℕ → ℕ} {starts hops : List ℕ} (t : RunTable f starts hops) {a i : ℕ} (w : RunHolds starts a i) (below : a < addresses) where
  -- the addresses of one run have one answer
  same_run : (b : ℕ) → get_or starts i 0 ≤ b → b < addresses → (i + 1 < length starts → b < get_or starts (i + 1) 0) → f b ≡ f a
  same_run b from top before = sym (t.answers i b w.in_table from top before) ∙ t.answers i a w.in_table w.from below w.before

  -- the last run ends with the last address
  last_run : i + 1 ≡ length starts → HoldsUntil f a 4294967295
  last_run end = record {
    from = omega arith;
    below = omega arith;
    same = λ b ge le. same_run b (omega (arith, w.from)) (omega arith) (λ more. absurd (omega arith));
    another = λ more. absurd (omega arith);
  }

  -- any other before the start of the next
  inner_run : i + 1 < length starts → HoldsUntil f a (get_or starts (i + 1) 0 - 1)
  inner_run more =
      let past = w.before more in
      let top = t.below (i + 1) more in
      let next : get_or starts (i + 1) 0 - 1 + 1 ≡ get_or starts (i + 1) 0 = omega arith in
      let end = same_run (get_or starts (i + 1) 0 - 1) (omega (arith, w.from)) (omega arith) (λ l. omega arith) in
      record {
        from = omega arith;
        below = omega arith;
        same = λ b ge le. same_run b (omega (arith, w.from)) (omega arith) (λ l. omega arith);
        another = λ l e. next_turns t i more (end ∙ sym (rw next at e));
      }

  -- each begins at its start
  run_from : HoldsFrom f a (get_or starts i 0)
  run_from = record {
    to = w.from;
    same = λ b ge le. same_run b ge (omega arith) (λ more. omega (arith, w.before more));
    another = λ some e.
        start_turns t i w.in_table some (e ∙ sym (same_run (get_or starts i 0) (omega arith) (t.below i w.in_table) (t.ascend i)));
  }

module _ {f : ℕ → ℕ} {starts hops : List ℕ} (t : RunTable f starts hops) (a : ℕ) (below : a < addresses) where
  table_holds_until : HoldsUntil f a (last_in starts a)
  unfolding in_slices
  table_holds_until =
      let at : ℕ → ℕ = λ i. get_or starts i 0 in
      let n = length starts in
      let w = place_found t a in
      rw (high_next at n a t.some_run)
      (⊎_elim
      (λ e. rw (← last_of_all at n _ e) (last_run t w below e))
      (λ l. rw (← last_before at n _ l) (inner_run t w below l))
      (eq-or-lt_of_le (omega (arith, w.in_table))))

  table_holds_from : HoldsFrom f a (get_or starts (in_slices (length starts) starts a).low 0)
  table_holds_from = run_from t (place_found t a) below

-- in the first slots of lent slices, which may be longer
module _ (rows : List Row) (n : ℕ) (starts hops : List ℕ) (count : n ≡ length (run_starts rows)) (s : take n starts ≡ run_starts rows)
    (h : take n hops ≡ run_hops rows) (a : ℕ) (below : a < addresses) where
  pub holds_until : HoldsUntil (plain rows) a (run_lookup (runs_lent n starts hops) a).last
  unfolding run_starts
  holds_until = rw (run_lookup_last rows n starts hops count s h a) (table_holds_until (table_of (plain rows)) a below)

  pub holds_from : HoldsFrom (plain rows) a (get_or starts (in_slices n starts a).low 0)
  unfolding run_starts
  holds_from = rw (run_lookup_start rows n starts hops count s h a) (table_holds_from (table_of (plain rows)) a below)

-- in its run bytes
module _ (rows : List Row) (a : ℕ) (below : a < addresses) where
  abbrev bytes : List ℕ
  bytes = run_bytes (run_starts rows) (run_hops rows)

  pub bytes_hold_until : HoldsUntil (plain rows) a (bytes_lookup bytes a).last
  unfolding run_starts run_hops
  bytes_hold_until = rw (bytes_lookup_plain rows a below) (table_holds_until (table_of (plain rows)) a below)

  pub bytes_hold_from : HoldsFrom (plain rows) a (start_at bytes (in_bytes bytes a).low)
  unfolding run_starts run_hops
  bytes_hold_from =
      let t = table_of (plain rows) in
      let found = (place_found t a).in_table in
      rw (bytes_found (run_starts rows) (run_hops rows) t.paired a)
      (rw (start_at_lem (run_starts rows) (run_hops rows) _ found (omega (arith, t.paired))) (table_holds_from t a below))
