-- Comparing two slices with the runs of an answer f, from turn to turn: the first n slots are the runs before the place. The slices are not
-- the runs where they have no slot for a turn, or another start or hop there; at the limit they are where they have no slot more.
-- Assumes nothing.
use mathlib.Core.Path.{◌≡◌, sym, ap, ◌∙◌}
use mathlib.Core.Bool.{true, false}
use mathlib.Core.Logic.{⊎_elim}
use mathlib.Core.List.{List, map, map-append}
use Prim.Native.Nat.{ℕ, ◌+◌, ◌-◌, ◌≤◌, ◌<◌}
use native.Mathlib.Numerals.{add-one}
use native.Mathlib.Omega.{arith}
use lib.ListN.{length, get_or, take}
use lib.Seq.{take-suc, take_all, length-take-le}
use lib.Dec.{eqb}
use borrow.Author.Tests.{eqb-true, eqb-false}
use Rattle.ground.proofs.Truth.{decided, and_left, and_right, and_both}
use Rattle.ground.proofs.Map.{get_d_map}
use Rattle.ground.proofs.Slots.{same_is, same_self}
use Rattle.ground.specs.Slots.{same}
use Rattle.ground.specs.Stretch.{turns_from}
use Rattle.ground.specs.Stretch.Count.{counted_is, picked_at}
use Rattle.ground.specs.Stretch.Turns.{turns_to, turns_to_first, turns_to_next}
use Rattle.sweep.specs.Sweep.{are_runs}

module _ (f : ℕ → ℕ) (start limit : ℕ) (starts rhops : List ℕ) where
  are_parts : are_runs f start limit starts rhops ≡ true → (starts ≡ turns_to start f limit) × (rhops ≡ map f (turns_to start f limit))
  unfolding are_runs
  are_parts e =
      let starts_same = same starts (turns_to start f limit) in
      (same_is _ _ (and_left starts_same _ e), same_is _ _ (and_right starts_same _ e))

  are_not : ((starts ≡ turns_to start f limit) × (rhops ≡ map f (turns_to start f limit)) → ⊥) → are_runs f start limit starts rhops ≡ false
  are_not h = ⊎_elim (λ e. absurd (h (are_parts e))) (λ e. e) (decided (are_runs f start limit starts rhops))

  are_runs_lem : starts ≡ turns_to start f limit → rhops ≡ map f (turns_to start f limit) → are_runs f start limit starts rhops ≡ true
  unfolding are_runs
  are_runs_lem e e' = rw (e, e') (and_both (same_self (turns_to start f limit)) (same_self (map f (turns_to start f limit))))

pub record Comparing (f : ℕ → ℕ) (start at n : ℕ) (starts rhops : List ℕ) : Type 0 where
  pub paired : length rhops ≡ length starts
  pub within : n ≤ length starts
  pub starts_same : take n starts ≡ turns_to start f at
  pub hops_same : take n rhops ≡ map f (turns_to start f at)

pub comparing_start : {f : ℕ → ℕ} {start at : ℕ} {starts rhops : List ℕ} → at ≡ start → length rhops ≡ length starts
    → Comparing f start at 0 starts rhops
comparing_start {f} {start} {at} z e =
    let none = turns_to_first start f at z in record { paired = e; within = omega arith; starts_same = rw none; hops_same = rw none }

module _ {f : ℕ → ℕ} {start at n : ℕ} {starts rhops : List ℕ} (k : Comparing f start at n starts rhops) where
  passed : n ≡ length (turns_to start f at)
  passed = sym (length-take-le n starts k.within) ∙ ap length k.starts_same

  pub comparing_end : eqb n (length starts) ≡ are_runs f start at starts rhops
  comparing_end = ⊎_elim all short (decided (eqb n (length starts)))
    where
      all : eqb n (length starts) ≡ true → eqb n (length starts) ≡ are_runs f start at starts rhops
      all e =
          let q : n ≡ length starts = eqb-true n (length starts) e in
          e ∙ sym (are_runs_lem f start at starts rhops
          (sym (take_all n starts (omega arith)) ∙ k.starts_same) (sym (take_all n rhops (omega (arith, k.paired))) ∙ k.hops_same))

      short : eqb n (length starts) ≡ false → eqb n (length starts) ≡ are_runs f start at starts rhops
      short e = e ∙ sym (are_not f start at starts rhops (λ w. eqb-false n (length starts) e (passed ∙ sym (ap length w.0))))

  module _ (from : start ≤ at) {limit : ℕ} (before : at < limit) (turn : turns_from start f at ≡ true) where
    found : (n < length (turns_to start f limit)) × (get_or (turns_to start f limit) n 0 ≡ at)
    found =
        rw (passed, ← counted_is (turns_from start f) start (at - start))
        (picked_at (turns_from start f) start (limit - start) (at - start) at (omega arith) (omega arith) turn)

    pub too_few : length starts ≤ n → false ≡ are_runs f start limit starts rhops
    too_few l = sym (are_not f start limit starts rhops (λ w. omega (arith, found.0, ap length w.0)))

    pub other_start : (get_or starts n 0 ≡ at → ⊥) → false ≡ are_runs f start limit starts rhops
    other_start ne = sym (are_not f start limit starts rhops (λ w. ne (ap (λ xs. get_or xs n 0) w.0 ∙ found.1)))

    pub other_hop : (get_or rhops n 0 ≡ f at → ⊥) → false ≡ are_runs f start limit starts rhops
    other_hop ne =
        sym (are_not f start limit starts rhops
        (λ w. ne (ap (λ xs. get_or xs n 0) w.1 ∙ get_d_map f (turns_to start f limit) n found.0 ∙ ap f found.1)))

  pub comparing_on : {at' : ℕ} → start ≤ at → at < at' → ((a : ℕ) → at ≤ a → a < at' → f a ≡ f at) → turns_from start f at ≡ true
      → n < length starts → get_or starts n 0 ≡ at → get_or rhops n 0 ≡ f at → Comparing f start at' (n + 1) starts rhops
  comparing_on {at'} from past stays turn l e e' = record {
    paired = k.paired;
    within = omega arith;
    starts_same = rw (add-one, take-suc starts n 0 l, e, k.starts_same) (sym (turns_to_next start f at at' from past stays turn));
    hops_same =
        rw (add-one, take-suc rhops n 0 (omega (arith, k.paired)), e', k.hops_same)
        (sym (rw (turns_to_next start f at at' from past stays turn, map-append)));
  }
