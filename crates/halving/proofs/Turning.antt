-- The law of a loop that halves and counts its turns. With `left` of the whole part of log2 n turns to go, high and low are from 2^left to
-- 2^(left + 1) apart: each turn halves what they are apart, rounded down or up. So while turns are left there is something to probe, and
-- once there are none high - low is 1 or 2, and the end is one step.
-- Assumes nothing.
use mathlib.Core.Path.{◌≡◌, refl, sym, ◌∙◌}
use mathlib.Core.Bool.{Bool, true, false, cond}
use Prim.Native.Nat.{ℕ, suc, ◌+◌, ◌-◌, ◌/◌, ◌^◌, ◌≤◌, ◌<◌}
use native.Mathlib.Nat.{zero-add}
use native.Mathlib.Numerals.{add-one}
use native.Mathlib.Omega.{arith}
use lib.Dec.{ltb}
use lib.Pow.{pow_pos}
use borrow.Author.Tests.{ltb-true, ltb-false}
use Rattle.halving.specs.Halving.{Halved, halving}
use Rattle.halving.specs.Ended.{ended}
use Rattle.halving.specs.Narrowed.{Narrowed}
use Rattle.halving.proofs.Halving.{halfway_up, halfway_down, halfway_end, halfway_probes, Probing, probing_start, probing_bounds, probing_end, probing_narrowed}

-- what halving ends with, number for number
abbrev halved : ℕ → ℕ → ℕ → Halved
halved low high probes = record { low = low; high = high; probes = probes }

halved_of : {low low' high high' probes probes' : ℕ} → low ≡ low' → high ≡ high' → probes ≡ probes'
    → halved low high probes ≡ halved low' high' probes'
halved_of e f g = rw (e, f, g)

-- what the loop keeps true, where `made` of its turns are made
pub record Turning (at : ℕ → ℕ) (n a turns place low high left : ℕ) : Type 0 where
  pub made : ℕ
  pub all : turns ≡ made + left
  pub least : 2 ^ left ≤ high - low
  pub most : high - low ≤ 2 ^ suc left
  pub probing : Probing at n a place low high made

pub turning_start : (at : ℕ → ℕ) (n a turns : ℕ) {place low high : ℕ} → 0 < n → (2 ^ turns ≤ n) × (n < 2 ^ (turns + 1))
    → (place ≡ n / 2) × (low ≡ 0) × (high ≡ n) → Turning at n a turns place low high turns
turning_start at n a turns some log w = record {
  made = 0;
  all = sym (zero-add turns);
  least = omega (arith, log.0, w);
  most = omega (arith, rw add-one at log.1, w);
  probing = probing_start at n a some w;
}

-- a turn halves what low and high are apart, rounded down or up
halved_apart : (b : Bool) (left low high place : ℕ) {low' high' : ℕ} → place ≡ (low + high) / 2 → low' ≡ cond b low place
    → high' ≡ cond b place high → 2 ^ suc left ≤ high - low → high - low ≤ 2 ^ suc (suc left)
    → (2 ^ left ≤ high' - low') × (high' - low' ≤ 2 ^ suc left)
halved_apart true left low high place mid l h least most = (omega arith, omega arith)
halved_apart false left low high place mid l h least most = (omega arith, omega arith)

module _ {at : ℕ → ℕ} {n a turns place low high left : ℕ} (t : Turning at n a turns place low high left) where
  pub turning_bounds : (low ≤ place) × (place < high) × (high ≤ n)
  turning_bounds = probing_bounds t.probing

  -- a turn, if one is left: something is left to probe
  pub turning_turn : {place' low' high' left' : ℕ} → left ≡ suc left' → Narrowed (ltb a (at place)) place low high place' low' high'
      → Turning at n a turns place' low' high' left'
  turning_turn {left' = left'} more w =
      let least : 2 ^ suc left' ≤ high - low = rw more at t.least in
      let halved =
      halved_apart (ltb a (at place)) left' low high place t.probing.next w.new_low w.new_high least (rw more at t.most) in
      record {
        made = t.made + 1;
        all = omega (arith, t.all);
        least = halved.0;
        most = halved.1;
        probing = probing_narrowed t.probing (omega (arith, t.probing.next, least, pow_pos left')) w;
      }

  -- with no turn left
  module _ (over : left ≡ 0) where
    close : high - low ≤ 2
    close = rw over at t.most

    all_made : t.made ≡ turns
    all_made = omega (arith, t.all)

    -- high is one above the place, and low is the place or one below it
    pub turning_last : (high ≡ place + 1) × (place ≤ low + 1)
    turning_last = (omega (arith, t.probing.next, close, turning_bounds), omega (arith, t.probing.next, close, turning_bounds))

    -- what `end` requires
    pub turning_end : n < 18446744073709551616
        → (low ≤ place) × (place + 1 < 18446744073709551616) × (turns + (place - low) < 18446744073709551616)
    turning_end word =
        let few = halfway_probes t.probing.halfway 64 (omega arith) in
        (turning_bounds.0, omega (arith, turning_bounds), omega (arith, close, turning_bounds, all_made))

    pub turning_ended : halving at n a ≡ ended (ltb a (at place)) place low turns
    turning_ended = go (ltb a (at place)) refl (ltb low place) refl
      where
        mid : place ≡ (low + high) / 2
        mid = t.probing.next

        go : (b : Bool) → ltb a (at place) ≡ b → (c : Bool) → ltb low place ≡ c → halving at n a ≡ ended b place low turns
        go true e false c =
            let none = ltb-false low place c in
            probing_end t.probing none
            ∙ halved_of (omega (arith, turning_bounds)) (omega (arith, turning_bounds)) (omega (arith, all_made))
        go false e false c =
            probing_end t.probing (ltb-false low place c)
            ∙ halved_of refl refl (omega (arith, ltb-false low place c, all_made))
        go true e true c =
            let one = ltb-true low place c in
            halfway_end (halfway_down t.probing.halfway place mid (omega (arith, turning_bounds)) (ltb-true a (at place) e))
            (omega (arith, mid, close))
            ∙ halved_of refl (omega (arith, mid, close)) (omega (arith, mid, close, all_made))
        go false e true c =
            let one = ltb-true low place c in
            halfway_end (halfway_up t.probing.halfway place mid (omega (arith, turning_bounds)) (ltb-false a (at place) e))
            (omega (arith, mid, close))
            ∙ halved_of refl (omega (arith, mid, close)) (omega (arith, mid, close, all_made))
