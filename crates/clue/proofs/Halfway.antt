-- Halving over the keys of entries, as the quick form's code takes it. It ends below n. Where keys ascend and one of them is looked for, it
-- ends at that one's place.
-- Assumes nothing.
use mathlib.Core.Path.{◌≡◌, refl, sym, ap, ◌∙◌}
use mathlib.Core.Logic.{⊎_elim}
use mathlib.Core.Bool.{Bool, true, false, cond}
use mathlib.Core.List.{List}
use Prim.Native.Nat.{ℕ, zero, suc, ◌+◌, ◌-◌, ◌/◌, ◌≤◌, ◌<◌}
use native.Mathlib.Omega.{arith}
use lib.ListN.{length, get_or}
use lib.Dec.{leb, ltb}
use borrow.Author.Tests.{ltb-true, ltb-false, leb-true, leb-false, le-leb, lt-leb}
use Rattle.ground.specs.Column.{ascends}
use Rattle.halving.specs.Halving.{halves, halving}
use Rattle.entries.proofs.Decided.{decided}
use Rattle.entries.proofs.Keys.{Order, order, ascends_at}

module _ (at : ℕ → ℕ) (k : ℕ) where
  near : (turns low high : ℕ) → high - low ≤ 1 → (halves turns at k low high).low ≡ low
  unfolding halves
  near zero low high n = refl
  near (suc turns) low high n = rw (le-leb (high - low) 1 n, halves)

  up : (turns low high : ℕ) → 1 < high - low → at ((low + high) / 2) ≤ k
      → (halves (suc turns) at k low high).low ≡ (halves turns at k ((low + high) / 2) high).low
  unfolding halves
  up turns low high f l = rw (lt-leb (high - low) 1 f, halves, le-leb (at ((low + high) / 2)) k l)

  down : (turns low high : ℕ) → 1 < high - low → k < at ((low + high) / 2)
      → (halves (suc turns) at k low high).low ≡ (halves turns at k low ((low + high) / 2)).low
  unfolding halves
  down turns low high f l = rw (lt-leb (high - low) 1 f, halves, lt-leb (at ((low + high) / 2)) k l)

-- what the code keeps true: from here on halving ends where it ends
pub record Halfway (at : ℕ → ℕ) (n k low high : ℕ) : Type 0 where
  pub some : low < high
  pub within : high ≤ n
  pub turns : ℕ
  pub enough : high - low ≤ suc turns
  pub ends : (halving at n k).low ≡ (halves turns at k low high).low

pub halfway_start : (at : ℕ → ℕ) (n k : ℕ) → 0 < n → Halfway at n k 0 n
unfolding halving
halfway_start at n k some = record { some = some; within = omega arith; turns = n; enough = omega arith; ends = refl }

module _ {at : ℕ → ℕ} {n k low high : ℕ} (h : Halfway at n k low high) where
  pub halfway_end : high - low ≤ 1 → low ≡ (halving at n k).low
  halfway_end l = sym (h.ends ∙ near at k h.turns low high l)

  module _ (far : 1 < high - low) where
    fewer : h.turns ≡ suc (h.turns - 1)
    fewer = omega (arith, h.enough)

    turned : (halving at n k).low ≡ (halves (suc (h.turns - 1)) at k low high).low
    turned = h.ends ∙ ap (λ t. (halves t at k low high).low) fewer

    below : k < at ((low + high) / 2) → Halfway at n k low ((low + high) / 2)
    below l = record {
      some = omega arith;
      within = omega (arith, h.within);
      turns = h.turns - 1;
      enough = omega (arith, h.enough);
      ends = turned ∙ down at k (h.turns - 1) low high far l;
    }

    above : at ((low + high) / 2) ≤ k → Halfway at n k ((low + high) / 2) high
    above l = record {
      some = omega arith;
      within = h.within;
      turns = h.turns - 1;
      enough = omega (arith, h.enough);
      ends = turned ∙ up at k (h.turns - 1) low high far l;
    }

    pub halfway_next : {place low' high' : ℕ} → place ≡ (low + high) / 2
        → (low' ≡ cond (ltb k (at place)) low place) × (high' ≡ cond (ltb k (at place)) place high) → Halfway at n k low' high'
    halfway_next {place} {low'} {high'} mid w = go (ltb k (at place)) refl w.0 w.1
      where
        go : (b : Bool) → ltb k (at place) ≡ b → low' ≡ cond b low place → high' ≡ cond b place high → Halfway at n k low' high'
        go true q e e' = rw (e, e', mid) (below (rw mid at (ltb-true k (at place) q)))
        go false q e e' = rw (e, e', mid) (above (rw mid at (ltb-false k (at place) q)))

-- halving ends below n
halves_below : (at : ℕ → ℕ) (k turns low high : ℕ) → low < high → (halves turns at k low high).low < high
unfolding halves
halves_below at k zero low high l = l
halves_below at k (suc turns) low high l = ⊎_elim
    (λ e. rw (near at k (suc turns) low high (leb-true (high - low) 1 e)) l)
    (λ e. more (leb-false (high - low) 1 e) (halves_below at k turns ((low + high) / 2) high) (halves_below at k turns low ((low + high) / 2)))
    (decided (leb (high - low) 1))
  where
    more : 1 < high - low → ((low + high) / 2 < high → (halves turns at k ((low + high) / 2) high).low < high)
        → (low < (low + high) / 2 → (halves turns at k low ((low + high) / 2)).low < (low + high) / 2)
        → (halves (suc turns) at k low high).low < high
    more far in-upper in-lower = ⊎_elim
        (λ q. rw (up at k turns low high far (leb-true (at ((low + high) / 2)) k q)) (in-upper (omega arith)))
        (λ q. rw (down at k turns low high far (leb-false (at ((low + high) / 2)) k q)) (omega (arith, in-lower (omega arith))))
        (decided (leb (at ((low + high) / 2)) k))

pub halving_below : (at : ℕ → ℕ) (n k : ℕ) → 0 < n → (halving at n k).low < n
unfolding halving
halving_below at n k some = halves_below at k n 0 n some

-- of ascending keys halving finds the place of one
module _ (keys : List ℕ) (a : ascends keys ≡ true) where
  not_below : (m i : ℕ) → m < length keys → get_or keys m 0 ≤ get_or keys i 0 → m ≤ i
  not_below m i l le = ⊎_elim
      (λ e. leb-true m i e)
      (λ e. absurd (omega (arith, ascends_at keys a i m (leb-false m i e) l)))
      (decided (leb m i))

  before : (m i : ℕ) → i < length keys → get_or keys i 0 < get_or keys m 0 → i < m
  before m i l lt = go (order i m)
    where
      go : Order i m → i < m
      go (Order.before b) = b
      go (Order.same e) = absurd (omega (arith, ap (λ j. get_or keys j 0) e))
      go (Order.after b) = absurd (omega (arith, ascends_at keys a m i b l))

  halves_finds : (turns low high i : ℕ) → high - low ≤ suc turns → low ≤ i → i < high → high ≤ length keys
      → (halves turns (λ j. get_or keys j 0) (get_or keys i 0) low high).low ≡ i
  halves_finds zero low high i enough from to within = near _ _ zero low high enough ∙ omega arith
  halves_finds (suc turns) low high i enough from to within = ⊎_elim
      (λ e. near _ _ (suc turns) low high (leb-true (high - low) 1 e) ∙ omega (arith, leb-true (high - low) 1 e))
      (λ e. more (leb-false (high - low) 1 e) (halves_finds turns ((low + high) / 2) high i) (halves_finds turns low ((low + high) / 2) i))
      (decided (leb (high - low) 1))
    where
      Finds : ℕ → ℕ → Type 0
      Finds low high = high - low ≤ suc turns → low ≤ i → i < high → high ≤ length keys
          → (halves turns (λ j. get_or keys j 0) (get_or keys i 0) low high).low ≡ i

      more : 1 < high - low → Finds ((low + high) / 2) high → Finds low ((low + high) / 2)
          → (halves (suc turns) (λ j. get_or keys j 0) (get_or keys i 0) low high).low ≡ i
      more far in-upper in-lower = ⊎_elim
          (λ q.
          let le = leb-true (get_or keys ((low + high) / 2) 0) (get_or keys i 0) q in
          up _ _ turns low high far le ∙ in-upper (omega arith) (not_below ((low + high) / 2) i (omega arith) le) to within)
          (λ q.
          let lt = leb-false (get_or keys ((low + high) / 2) 0) (get_or keys i 0) q in
          down _ _ turns low high far lt ∙ in-lower (omega arith) from (before ((low + high) / 2) i (omega arith) lt) (omega arith))
          (decided (leb (get_or keys ((low + high) / 2) 0) (get_or keys i 0)))

  pub halving_finds : (i : ℕ) → i < length keys → (halving (λ j. get_or keys j 0) (length keys) (get_or keys i 0)).low ≡ i
  unfolding halving
  halving_finds i l = halves_finds (length keys) 0 (length keys) i (omega arith) (omega arith) l (omega arith)
