-- Where f turns, past the first number, it differs from what it was one before; where it does not turn, and so from turn to turn, it is the
-- same. The turns up to a number are the turns before the last one of them, and that one.
-- Assumes nothing.
use Rattle.std.specs.Prelude.{◌≡◌, Bool, ◌||◌, ◌⊎◌, List, [], ◌∷◌, ◌++◌, ℕ, zero, suc, ◌+◌, ◌-◌, ◌≤◌, ◌<◌, length, get_or, eqb}
use Rattle.std.proofs.Math.Path.{refl, sym}
use Rattle.std.proofs.Common.{ap, ◌∙◌, inl, inr, eq-or-lt_of_le, arith, length-append}
use Rattle.std.proofs.Math.Bool.{true, false, not}
use borrow.Author.Tests.{eqb-true, eq-eqb, ne_eqb}
use Rattle.ground.specs.Stretch.{picked, counted, turns_from}
use Rattle.ground.specs.Stretch.Laws.{picked_none, picked_suc, picked_cut, picked_empty}
use Rattle.ground.specs.Stretch.Count.{counted_is}
use Rattle.ground.specs.Stretch.Picks.{Picks}

module _ (first : ℕ) (f : ℕ → ℕ) where
  pub turns_at_first : turns_from first f first ≡ true
  unfolding turns_from
  turns_at_first = rw (eq-eqb first first refl)

  pub turns_of_ne : (a : ℕ) → (f a ≡ f (a - 1) → ⊥) → turns_from first f a ≡ true
  unfolding turns_from
  turns_of_ne a ne = rw (ne_eqb (f a) (f (a - 1)) ne) (go (eqb a first))
    where
      go : (b : Bool) → (b || true) ≡ true
      go true = refl
      go false = refl

  pub stays_of_same : (a : ℕ) → first < a → f a ≡ f (a - 1) → turns_from first f a ≡ false
  unfolding turns_from
  stays_of_same a past e = rw (eq-eqb (f a) (f (a - 1)) e, ne_eqb a first (λ z. omega arith))

  pub same_of_stays : (a : ℕ) → turns_from first f a ≡ false → f a ≡ f (a - 1)
  unfolding turns_from
  same_of_stays a s = eqb-true (f a) (f (a - 1)) (go (eqb a first) (eqb (f a) (f (a - 1))) s)
    where
      go : (x y : Bool) → (x || not y) ≡ false → y ≡ true
      go x true e = refl
      go true false e = sym e
      go false false e = sym e

  -- from one turn up to the next one f is the same
  pub same_between_turns : (n : ℕ) (xs : List ℕ) → Picks (turns_from first f) first n xs → (i a : ℕ) → i < length xs
      → get_or xs i 0 ≤ a → a < first + n → (i + 1 < length xs → a < get_or xs (i + 1) 0) → f (get_or xs i 0) ≡ f a
  same_between_turns n xs k i zero l le lt next = ap f (omega arith)
  same_between_turns n xs k i (suc a) l le lt next =
      go (λ le. same_between_turns n xs k i a l le (omega arith) (λ more. omega (arith, next more))) (eq-or-lt_of_le le)
    where
      go : (get_or xs i 0 ≤ a → f (get_or xs i 0) ≡ f a) → (get_or xs i 0 ≡ suc a) ⊎ (get_or xs i 0 < suc a) → f (get_or xs i 0) ≡ f (suc a)
      go rest (inl q) = ap f q
      go rest (inr gt) =
          let back : suc a - 1 ≡ a = omega arith in
          rest (omega arith) ∙ sym (rw back at (same_of_stays (suc a) (k.between i (suc a) l gt (omega arith) next)))

-- the numbers from the first on, and before `to`, at which f turns
abbrev pub turns_to : ℕ → (ℕ → ℕ) → ℕ → List ℕ
turns_to first f to = picked (turns_from first f) first (to - first)

module _ (first : ℕ) (f : ℕ → ℕ) where
  pub turns_to_first : (at : ℕ) → at ≡ first → turns_to first f at ≡ []
  turns_to_first at e = let none : at - first ≡ 0 = omega arith in rw (none, picked_none)

  pub counted_to_first : (at : ℕ) → at ≡ first → 0 ≡ counted (turns_from first f) first (at - first)
  counted_to_first at e = rw (counted_is, turns_to_first at e)

  -- from `at` on f is the same up to `to`
  module _ (at to : ℕ) (from : first ≤ at) (past : at < to) (stays : (a : ℕ) → at ≤ a → a < to → f a ≡ f at) where
    pub turns_next : (f to ≡ f at → ⊥) → turns_from first f to ≡ true
    turns_next ne = turns_of_ne first f to (λ e. ne (e ∙ stays (to - 1) (omega arith) (omega arith)))

    pub turns_to_next : turns_from first f at ≡ true → turns_to first f to ≡ turns_to first f at ++ at ∷ []
    turns_to_next e =
        let whole : to - first ≡ (at - first) + suc (to - suc at) = omega arith in
        let there : first + (at - first) ≡ at = omega arith in
        ap (picked (turns_from first f) first) whole ∙ picked_cut (turns_from first f) first (at - first) (suc (to - suc at))
        ∙ rw (there, picked_suc, e, none_between)
      where
        same_before : (a : ℕ) → at < a → a < to → f a ≡ f (a - 1)
        same_before a gt lt = stays a (omega arith) lt ∙ sym (stays (a - 1) (omega arith) (omega arith))

        none_between : picked (turns_from first f) (suc at) (to - suc at) ≡ []
        none_between = picked_empty (turns_from first f) (suc at) (to - suc at)
            (λ a ge lt. stays_of_same first f a (omega arith) (same_before a ge (omega arith)))

    pub counted_to_next : turns_from first f at ≡ true
        → counted (turns_from first f) first (to - first) ≡ counted (turns_from first f) first (at - first) + 1
    counted_to_next e = simp counted_is (rw (turns_to_next e, length-append))
