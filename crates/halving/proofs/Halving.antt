-- The laws of `halving`, over any function from places to starts, in no order: the loop ends by itself within n turns; its probes are never
-- more than the least p with 2^p at least n; it ends with low below n, whose start is at most the address if the first start is, and with
-- high one above low, whose start is above the address unless high is n. What code that halves keeps true from turn to turn is `Halfway`,
-- and `Probing` where it carries the place to probe next; what it knows of where it ended is `Places`.
-- Assumes nothing.
use mathlib.Core.Path.{◌≡◌, refl, sym, ap, ◌∙◌}
use mathlib.Core.Bool.{Bool, true, false, cond}
use Prim.Native.Nat.{ℕ, zero, suc, ◌+◌, ◌-◌, ◌/◌, ◌^◌, ◌≤◌, ◌<◌, zero-le}
use native.Mathlib.Nat.{le_refl, zero-add, add-zero, add-suc, suc-add}
use native.Mathlib.Numerals.{add-one}
use native.Mathlib.Omega.{arith}
use lib.Dec.{leb, ltb}
use borrow.Author.Tests.{leb-true, leb-false, le-leb, lt-leb, ltb-true, ltb-false}
use Rattle.halving.specs.Halving.{Halved, probed, halves, halving}
use Rattle.halving.specs.Narrowed.{Narrowed}

-- how the loop goes from low and high on: it ends with low at `found` and high at `top` after `probes` more probes
pub data Ends (at : ℕ → ℕ) (a : ℕ) : ℕ → ℕ → ℕ → ℕ → ℕ → Type 0 where
  near : {low high : ℕ} → high - low ≤ 1 → Ends at a low high low high 0
  up : {low high found top probes : ℕ} → 1 < high - low → at ((low + high) / 2) ≤ a
      → Ends at a ((low + high) / 2) high found top probes → Ends at a low high found top (suc probes)
  down : {low high found top probes : ℕ} → 1 < high - low → a < at ((low + high) / 2)
      → Ends at a low ((low + high) / 2) found top probes → Ends at a low high found top (suc probes)

module _ (at : ℕ → ℕ) (a : ℕ) where
  pub halves_near : (turns low high : ℕ) → high - low ≤ 1 → halves turns at a low high ≡ record { low = low; high = high; probes = 0 }
  unfolding halves
  halves_near zero low high n = refl
  halves_near (suc turns) low high n = rw (le-leb (high - low) 1 n, halves)

  pub halves_up : (turns low high : ℕ) → 1 < high - low → at ((low + high) / 2) ≤ a
      → halves (suc turns) at a low high ≡ probed (halves turns at a ((low + high) / 2) high)
  unfolding halves
  halves_up turns low high f l = rw (lt-leb (high - low) 1 f, halves, le-leb (at ((low + high) / 2)) a l)

  pub halves_down : (turns low high : ℕ) → 1 < high - low → a < at ((low + high) / 2)
      → halves (suc turns) at a low high ≡ probed (halves turns at a low ((low + high) / 2))
  unfolding halves
  halves_down turns low high f l = rw (lt-leb (high - low) 1 f, halves, lt-leb (at ((low + high) / 2)) a l)

-- the loop from low and high on ends with what this says
abbrev pub EndsWith : (ℕ → ℕ) → ℕ → ℕ → ℕ → Halved → Type 0
EndsWith at a low high h = Ends at a low high h.low h.high h.probes

-- the loop with these turns ends by itself
abbrev pub EndsIn : (ℕ → ℕ) → ℕ → ℕ → ℕ → ℕ → Type 0
EndsIn at a turns low high = EndsWith at a low high (halves turns at a low high)

-- one turn less than high and low are apart is enough
pub halves_ends : (at : ℕ → ℕ) (a turns low high : ℕ) → high - low ≤ suc turns → EndsIn at a turns low high
halves_ends at a zero low high e = rw (halves_near at a zero low high e) (near e)
halves_ends at a (suc turns) low high e =
    go (leb (high - low) 1) refl (leb (at ((low + high) / 2)) a) refl (halves_ends at a turns ((low + high) / 2) high (omega arith))
    (halves_ends at a turns low ((low + high) / 2) (omega arith))
  where
    go : (b : Bool) → leb (high - low) 1 ≡ b → (c : Bool) → leb (at ((low + high) / 2)) a ≡ c
        → EndsIn at a turns ((low + high) / 2) high → EndsIn at a turns low ((low + high) / 2) → EndsIn at a (suc turns) low high
    go true b c d u w = let n = leb-true (high - low) 1 b in rw (halves_near at a (suc turns) low high n) (near n)
    go false b true d u w =
        let f = leb-false (high - low) 1 b in
        let l = leb-true (at ((low + high) / 2)) a d in
        rw (halves_up at a turns low high f l) (up f l u)
    go false b false d u w =
        let f = leb-false (high - low) 1 b in
        let l = leb-false (at ((low + high) / 2)) a d in
        rw (halves_down at a turns low high f l) (down f l w)

pub halving_ends : (at : ℕ → ℕ) (n a : ℕ) → EndsWith at a 0 n (halving at n a)
unfolding halving
halving_ends at n a = halves_ends at a n 0 n (omega arith)

module _ {at : ℕ → ℕ} {a : ℕ} where
  -- with enough turns the loop ends as it goes
  pub ends_halves : {low high found top probes : ℕ} → Ends at a low high found top probes → (turns : ℕ) → high - low ≤ suc turns
      → halves turns at a low high ≡ record { low = found; high = top; probes = probes }
  ends_halves (near {low} {high} n) turns e = halves_near at a turns low high n
  ends_halves (up f l r) zero e = absurd (omega arith)
  ends_halves (up {low} {high} f l r) (suc turns) e = halves_up at a turns low high f l ∙ ap probed (ends_halves r turns (omega arith))
  ends_halves (down f l r) zero e = absurd (omega arith)
  ends_halves (down {low} {high} f l r) (suc turns) e = halves_down at a turns low high f l ∙ ap probed (ends_halves r turns (omega arith))

  -- a distance of at most 2^p is halved at most p times
  ends_probes : {low high found top probes : ℕ} → Ends at a low high found top probes → (p : ℕ) → high - low ≤ 2 ^ p → probes ≤ p
  ends_probes (near n) p h = zero-le
  ends_probes (up f l r) zero h = absurd (omega arith)
  ends_probes (up f l r) (suc p) h = omega (arith, ends_probes r p (omega arith))
  ends_probes (down f l r) zero h = absurd (omega arith)
  ends_probes (down f l r) (suc p) h = omega (arith, ends_probes r p (omega arith))

  ends_at_most : {low high found top probes : ℕ} → Ends at a low high found top probes → at low ≤ a → at found ≤ a
  ends_at_most (near n) h = h
  ends_at_most (up f l r) h = ends_at_most r l
  ends_at_most (down f l r) h = ends_at_most r h

  ends_next : {low high found top probes : ℕ} → Ends at a low high found top probes → low < high → top ≡ found + 1
  ends_next (near n) h = omega arith
  ends_next (up f l r) h = ends_next r (omega arith)
  ends_next (down f l r) h = ends_next r (omega arith)

  ends_within : {low high found top probes : ℕ} → Ends at a low high found top probes → top ≤ high
  ends_within (near {low} {high} n) = le_refl high
  ends_within (up f l r) = ends_within r
  ends_within (down f l r) = omega (arith, ends_within r)

  ends_above : {low high found top probes : ℕ} → Ends at a low high found top probes → (n : ℕ) → (high < n → a < at high)
      → top < n → a < at top
  ends_above (near e) n above = above
  ends_above (up f l r) n above = ends_above r n above
  ends_above (down f l r) n above = ends_above r n (λ m. l)

  -- the loop sees no place from high on
  ends_agree : (other : ℕ → ℕ) {low high found top probes : ℕ} → Ends at a low high found top probes
      → ((i : ℕ) → i < high → at i ≡ other i) → Ends other a low high found top probes
  ends_agree other (near n) same = near n
  ends_agree other (up {low} {high} f l r) same = up f (rw (same ((low + high) / 2) (omega arith)) at l) (ends_agree other r same)
  ends_agree other (down {low} {high} f l r) same =
      down f (rw (same ((low + high) / 2) (omega arith)) at l) (ends_agree other r (λ i h. same i (omega arith)))

module _ (at : ℕ → ℕ) (n a : ℕ) where
  pub probes_at_most : (p : ℕ) → n ≤ 2 ^ p → (halving at n a).probes ≤ p
  probes_at_most p h = ends_probes (halving_ends at n a) p (omega arith)

  pub low_at_most : at 0 ≤ a → at (halving at n a).low ≤ a
  low_at_most = ends_at_most (halving_ends at n a)

  pub high_next : 1 ≤ n → (halving at n a).high ≡ (halving at n a).low + 1
  high_next = ends_next (halving_ends at n a)

  pub high_at_most : (halving at n a).high ≤ n
  high_at_most = ends_within (halving_ends at n a)

  pub low_below : 1 ≤ n → (halving at n a).low < n
  low_below h = omega (arith, high_next h, high_at_most)

  pub high_above : (halving at n a).high < n → a < at (halving at n a).high
  high_above = ends_above (halving_ends at n a) n (λ l. absurd (omega arith))

  pub halving_agrees : (other : ℕ → ℕ) → ((i : ℕ) → i < n → at i ≡ other i) → halving at n a ≡ halving other n a
  unfolding halving
  halving_agrees other same = sym (ends_halves (ends_agree other (halving_ends at n a) same) n (omega arith))

-- what code that has halved knows of where it ended: low is a place, high is one or n, and one less than the start at high is a number
pub record Places (at : ℕ → ℕ) (n : ℕ) (h : Halved) : Type 0 where
  pub low_in : h.low < n
  pub high_in : h.high ≤ n
  pub above_none : h.high < n → 0 < at h.high

pub halved_places : (at : ℕ → ℕ) (n a : ℕ) {h : Halved} → 0 < n → h ≡ halving at n a → Places at n h
halved_places at n a some is = rw is (record {
  low_in = low_below at n a some;
  high_in = high_at_most at n a;
  above_none = λ l. omega (arith, high_above at n a l);
})

-- what code that halves keeps true after `probes` probes: however the loop goes from low and high on, halving ends there
pub record Halfway (at : ℕ → ℕ) (n a low high probes : ℕ) : Type 0 where
  pub apart : low < high
  pub within : high ≤ n
  pub goes_on : {found top more : ℕ} → Ends at a low high found top more
      → halving at n a ≡ record { low = found; high = top; probes = probes + more }

pub halfway_start : (at : ℕ → ℕ) (n a : ℕ) → 1 ≤ n → Halfway at n a 0 n 0
unfolding halving
halfway_start at n a h = record {
  apart = h;
  within = le_refl n;
  goes_on = λ r. rw zero-add (ends_halves r n (omega arith));
}

module _ {at : ℕ → ℕ} {n a low high probes : ℕ} (s : Halfway at n a low high probes) where
  pub halfway_end : high - low ≤ 1 → halving at n a ≡ record { low = low; high = high; probes = probes }
  halfway_end h = s.goes_on (near h) ∙ rw add-zero

  -- the probes counted so far are at most halving's
  pub halfway_probes : (p : ℕ) → n ≤ 2 ^ p → probes ≤ p
  halfway_probes p h =
      let all = s.goes_on (halves_ends at a (high - low) low high (omega arith)) in
      omega (arith, rw all at (probes_at_most at n a p h))

  module _ (mid : ℕ) (half : mid ≡ (low + high) / 2) (far : 1 < high - low) where
    pub halfway_up : at mid ≤ a → Halfway at n a mid high (probes + 1)
    halfway_up l = record {
      apart = omega arith;
      within = s.within;
      goes_on = λ r. s.goes_on (up far (rw half at l) (rw half at r)) ∙ simp (add-one, suc-add, add-suc);
    }

    pub halfway_down : a < at mid → Halfway at n a low mid (probes + 1)
    halfway_down l = record {
      apart = omega arith;
      within = omega arith;
      goes_on = λ r. s.goes_on (down far (rw half at l) (rw half at r)) ∙ simp (add-one, suc-add, add-suc);
    }

-- what code that carries the place to probe next keeps true: it is halfway, and the place is (low + high) div 2
pub record Probing (at : ℕ → ℕ) (n a place low high probes : ℕ) : Type 0 where
  pub next : place ≡ (low + high) / 2
  pub halfway : Halfway at n a low high probes

-- before the first probe, with what `whole` gives
pub probing_start : (at : ℕ → ℕ) (n a : ℕ) {place low high : ℕ} → 1 ≤ n → (place ≡ n / 2) × (low ≡ 0) × (high ≡ n)
    → Probing at n a place low high 0
probing_start at n a h w = record { next = omega (arith, w); halfway = rw (w.1, w.2) (halfway_start at n a h) }

module _ {at : ℕ → ℕ} {n a place low high probes : ℕ} (s : Probing at n a place low high probes) where
  -- the place is one from low on and below high
  pub probing_bounds : (low ≤ place) × (place < high) × (high ≤ n)
  probing_bounds =
      (omega (arith, s.next, s.halfway.apart), omega (arith, s.next, s.halfway.apart), s.halfway.within)

  pub probing_end : place ≤ low → halving at n a ≡ record { low = place; high = place + 1; probes = probes }
  probing_end close =
      let low_is : place ≡ low = omega (arith, probing_bounds) in
      let high_is : place + 1 ≡ high = omega (arith, s.next, s.halfway.apart) in
      rw (high_is, low_is) (halfway_end s.halfway (omega arith))

  module _ {place' low' high' : ℕ} (far : low < place) (t : Narrowed (ltb a (at place)) place low high place' low' high') where
    pub probing_narrowed : Probing at n a place' low' high' (probes + 1)
    probing_narrowed = record { next = t.new_place; halfway = go (ltb a (at place)) refl t.new_low t.new_high }
      where
        two : 1 < high - low
        two = omega (arith, s.next)

        go : (b : Bool) → ltb a (at place) ≡ b → low' ≡ cond b low place → high' ≡ cond b place high
            → Halfway at n a low' high' (probes + 1)
        go true e l h = rw (l, h) (halfway_down s.halfway place s.next two (ltb-true a (at place) e))
        go false e l h = rw (l, h) (halfway_up s.halfway place s.next two (ltb-false a (at place) e))

-- high and low come closer
pub narrowed_closer : {above : Bool} {place low high place' low' high' : ℕ} → Narrowed above place low high place' low' high' → low < place
    → place < high → high' - low' < high - low
narrowed_closer {above = true} t l h = omega (arith, t.new_low, t.new_high)
narrowed_closer {above = false} t l h = omega (arith, t.new_low, t.new_high)
