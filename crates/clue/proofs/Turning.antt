-- Halving as the quick form's code takes it: low, high and the place to probe next, for as many turns as the whole part of log2 n, and then
-- a last turn that is made in any case. With `left` turns to go, low and high are from 2^left to 2^(left + 1) apart.
-- Assumes nothing.
use mathlib.Core.Path.{◌≡◌, refl, ◌∙◌}
use mathlib.Core.Bool.{Bool, true, false, cond}
use Prim.Native.Nat.{ℕ, suc, ◌+◌, ◌-◌, ◌/◌, ◌^◌, ◌≤◌, ◌<◌}
use native.Mathlib.Numerals.{add-one}
use native.Mathlib.Omega.{arith}
use lib.Dec.{leb, ltb}
use lib.Pow.{pow_pos}
use borrow.Author.Tests.{leb-true, leb-false}
use Rattle.halving.specs.Halving.{halving}
use Rattle.halving.specs.Narrowed.{Narrowed}
use Rattle.clue.proofs.Halfway.{Halfway, halfway_start, halfway_end, halfway_next}

-- what the loop keeps true
pub record Turning (at : ℕ → ℕ) (n k place low high left : ℕ) : Type 0 where
  pub next : place ≡ (low + high) / 2
  pub least : 2 ^ left ≤ high - low
  pub most : high - low ≤ 2 ^ suc left
  pub halfway : Halfway at n k low high

-- before the first turn, with what `whole` gives
pub turning_start : (at : ℕ → ℕ) (n k turns : ℕ) {place low high : ℕ} → 0 < n → (2 ^ turns ≤ n) × (n < 2 ^ (turns + 1))
    → (place ≡ n / 2) × (low ≡ 0) × (high ≡ n) → Turning at n k place low high turns
turning_start at n k turns some log w = record {
  next = omega (arith, w);
  least = omega (arith, log.0, w);
  most = omega (arith, rw add-one at log.1, w);
  halfway = rw (w.1, w.2) (halfway_start at n k some);
}

-- a turn halves what low and high are apart, rounded down or up
halved_apart : (b : Bool) (left low high place : ℕ) {low' high' : ℕ} → place ≡ (low + high) / 2 → low' ≡ cond b low place
    → high' ≡ cond b place high → 2 ^ suc left ≤ high - low → high - low ≤ 2 ^ suc (suc left)
    → (2 ^ left ≤ high' - low') × (high' - low' ≤ 2 ^ suc left)
halved_apart true left low high place mid l h least most = (omega arith, omega arith)
halved_apart false left low high place mid l h least most = (omega arith, omega arith)

module _ {at : ℕ → ℕ} {n k place low high left : ℕ} (t : Turning at n k place low high left) where
  pub turning_bounds : (low ≤ place) × (place < high) × (high ≤ n)
  turning_bounds = (omega (arith, t.next, t.halfway.some), omega (arith, t.next, t.halfway.some), t.halfway.within)

  pub turning_turn : {place' low' high' left' : ℕ} → left ≡ suc left' → Narrowed (ltb k (at place)) place low high place' low' high'
      → Turning at n k place' low' high' left'
  turning_turn {left' = left'} more w =
      let least : 2 ^ suc left' ≤ high - low = rw more at t.least in
      let halved =
      halved_apart (ltb k (at place)) left' low high place t.next w.new_low w.new_high least (rw more at t.most) in
      record {
        next = w.new_place;
        least = halved.0;
        most = halved.1;
        halfway = halfway_next t.halfway (omega (arith, least, pow_pos left')) t.next (w.new_low, w.new_high);
      }

  -- with no turn left
  module _ (over : left ≡ 0) where
    close : high - low ≤ 2
    close = rw over at t.most

    -- the last turn: where low and high are 1 apart it changes nothing
    pub last_turn : {low' : ℕ} → low' ≡ cond (ltb k (at place)) low place → low' ≡ (halving at n k).low
    last_turn {low'} l = go (leb (high - low) 1) refl (ltb k (at place)) refl l
      where
        same : (b : Bool) → place ≡ low → low' ≡ cond b low place → low' ≡ low
        same true e l = l
        same false e l = l ∙ e

        near : (b : Bool) {high' : ℕ} → high' ≡ cond b place high → low' ≡ cond b low place → high' - low' ≤ 1
        near true h l = omega (arith, t.next, close)
        near false h l = omega (arith, t.next, close)

        go : (c : Bool) → leb (high - low) 1 ≡ c → (b : Bool) → ltb k (at place) ≡ b → low' ≡ cond b low place → low' ≡ (halving at n k).low
        go true c b e l =
            let one = leb-true (high - low) 1 c in
            same b (omega (arith, turning_bounds)) l ∙ halfway_end t.halfway one
        go false c b e l =
            let far = leb-false (high - low) 1 c in
            let next : Halfway at n k low' (cond b place high) = halfway_next t.halfway far t.next (rw e (l, refl)) in
            halfway_end next (near b refl l)
