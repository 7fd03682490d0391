-- How a run lookup ends, over slices and over run bytes alike: once the turns are made and the last place is probed, halving has ended, and
-- the last address of the run found goes by the start at high. Over run bytes it is kept beside high from turn to turn. `at` gives the start
-- at a place.
-- Assumes nothing.
use mathlib.Core.Path.{◌≡◌, refl, sym, ap, ◌∙◌}
use mathlib.Core.Bool.{Bool, true, false, cond}
use Prim.Native.Nat.{ℕ, suc, ◌+◌, ◌-◌, ◌/◌, ◌^◌, ◌≤◌, ◌<◌}
use native.Mathlib.Omega.{arith}
use lib.Dec.{ltb}
use borrow.Author.Tests.{ltb-true, ltb-false}
use Rattle.halving.specs.Halving.{Halved, halving}
use Rattle.halving.specs.Narrowed.{Narrowed}
use Rattle.halving.specs.Ended.{ended}
use Rattle.halving.proofs.Halving.{halved_places}
use Rattle.halving.proofs.Turning.{Turning, turning_start, turning_bounds, turning_turn, turning_last, turning_ended}
use Rattle.lookup.specs.Lookup.{last_of}
use Rattle.lookup.specs.Inside.Reached.{ReachedBy}
use Rattle.lookup.proofs.LookupOutcomes.{last_of_all, last_before}

-- with no turn left, and the last place probed
module _ {at : ℕ → ℕ} {n a turns place low high left : ℕ} (t : Turning at n a turns place low high left) (over : left ≡ 0) {h : Halved}
    (is : h ≡ ended (ltb a (at place)) place low turns) where
  ends : h ≡ halving at n a
  ends = is ∙ sym (turning_ended t over)

  -- what `last_before` requires of high
  pub reached_high : (h.high ≤ n) × (h.high < n → 0 < at h.high)
  reached_high = let p = halved_places at n a (omega (arith, turning_bounds t)) ends in (p.high_in, p.above_none)

  pub reached : {last : ℕ} → last ≡ last_of at n h.high → ReachedBy at n a h.low last h.probes
  reached l = record { low_is = rw ends; last_is = l ∙ rw ends; probes_are = rw ends }

-- what the loop over run bytes keeps true: halving is halfway with its turns counted, and what is kept is the last address before high
pub record Reaching (at : ℕ → ℕ) (n a turns place low high last left : ℕ) : Type 0 where
  pub turning : Turning at n a turns place low high left
  pub kept : last ≡ last_of at n high

pub reaching_start : (at : ℕ → ℕ) (n a turns : ℕ) {place low high : ℕ} → 0 < n → (2 ^ turns ≤ n) × (n < 2 ^ (turns + 1))
    → (place ≡ n / 2) × (low ≡ 0) × (high ≡ n) → Reaching at n a turns place low high 4294967295 turns
reaching_start at n a turns some log w = record { turning = turning_start at n a turns some log w; kept = last_of_all at n _ w.2 }

kept_turn : (at : ℕ → ℕ) (n place high : ℕ) (b : Bool) {last high' last' : ℕ} → place < n → last ≡ last_of at n high
    → high' ≡ cond b place high → last' ≡ cond b (at place - 1) last → last' ≡ last_of at n high'
kept_turn at n place high true l kept h e = e ∙ last_before at n place l ∙ sym (ap (last_of at n) h)
kept_turn at n place high false l kept h e = e ∙ kept ∙ sym (ap (last_of at n) h)

module _ {at : ℕ → ℕ} {n a turns place low high last left : ℕ} (r : Reaching at n a turns place low high last left) where
  pub reaching_bounds : (low ≤ place) × (place < high) × (high ≤ n)
  reaching_bounds = turning_bounds r.turning

  in_table : place < n
  in_table = omega (arith, reaching_bounds)

  pub reaching_turn : {place' low' high' last' left' : ℕ} → left ≡ suc left'
      → Narrowed (ltb a (at place)) place low high place' low' high' → last' ≡ cond (ltb a (at place)) (at place - 1) last
      → Reaching at n a turns place' low' high' last' left'
  reaching_turn more w e = record {
    turning = turning_turn r.turning more w;
    kept = kept_turn at n place high (ltb a (at place)) in_table r.kept w.new_high e;
  }

  -- with no turn left high is one above the place, and comes down to it or stays
  pub reaching_last : {h : Halved} {last' : ℕ} → left ≡ 0 → h ≡ ended (ltb a (at place)) place low turns
      → last' ≡ cond (ltb low place) (cond (ltb a (at place)) (at place - 1) last) last → last' ≡ last_of at n h.high
  reaching_last {h} {last'} over is e = go (ltb low place) refl (ltb a (at place)) refl e
    where
      close : (high ≡ place + 1) × (place ≤ low + 1)
      close = turning_last r.turning over

      high_is : h.high ≡ cond (ltb a (at place)) low place + 1
      high_is = ap (λ (x : Halved). x.high) is

      go : (c : Bool) → ltb low place ≡ c → (b : Bool) → ltb a (at place) ≡ b → last' ≡ cond c (cond b (at place - 1) last) last
          → last' ≡ last_of at n h.high
      go true c b q e =
          kept_turn at n place high b in_table r.kept (moved b (ltb-true low place c) (high_is ∙ rw q)) e
        where
          moved : (b : Bool) → low < place → h.high ≡ cond b low place + 1 → h.high ≡ cond b place high
          moved true l g = omega (arith, close)
          moved false l g = omega (arith, close)
      go false c b q e =
          let same : low ≡ place = omega (arith, ltb-false low place c, reaching_bounds) in
          kept_turn at n place high false in_table r.kept (stays b same (high_is ∙ rw q)) e
        where
          stays : (b : Bool) → low ≡ place → h.high ≡ cond b low place + 1 → h.high ≡ high
          stays true l g = omega (arith, close)
          stays false l g = omega (arith, close)

-- what the bounds of halving over run bytes go by
pub ruleset reaching = (reaching_bounds, ltb-true)
