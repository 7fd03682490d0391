-- A word has as many ones as numbers of its stretch pass the test. A word of k bits is that of its first j bits times 2 ^ (k - j), plus
-- that of the others, which is below 2 ^ (k - j). So shifting the others out leaves the word of the first j bits, whose ones are counted.
-- Assumes nothing.
use mathlib.Core.Path.{◌≡◌, ap, ◌∙◌}
use mathlib.Core.Bool.{Bool, true, false, cond}
use Prim.Native.Nat.{ℕ, zero, suc, ◌+◌, ◌-◌, ◌*◌, ◌/◌, ◌%◌, ◌^◌, ◌≤◌, ◌<◌}
use native.Mathlib.Nat.{zero-add, add-zero, suc-add, add-suc, add-mul, mul_assoc, add_assoc, pow-suc}
use native.Mathlib.Omega.{arith}
use lib.Pow.{pow-add, high}
use lib.Count.{ones, ones_cat, ones-ones}
use Rattle.ground.specs.Stretch.{counted}
use Rattle.ground.specs.Stretch.Laws.{picked_none}
use Rattle.ground.specs.Stretch.Count.{counted_is, counted_suc}
use Rattle.segment.specs.Packed.{bit_value, word_from}
use Rattle.packed.specs.Lookup.{ones_to}

module _ (p : ℕ → Bool) where
  pub word_small : (k t : ℕ) → word_from p k t < 2 ^ k
  unfolding word_from
  word_small zero t = omega arith
  word_small (suc k) t = rw pow-suc (go (p t) (word_small k (suc t)))
    where
      go : (b : Bool) → word_from p k (suc t) < 2 ^ k → bit_value b * 2 ^ k + word_from p k (suc t) < 2 ^ k * 2
      go true l = omega arith
      go false l = omega arith

  -- the first j bits, and the m after them
  pub word_cut : (j m t : ℕ) → word_from p (j + m) t ≡ word_from p j t * 2 ^ m + word_from p m (t + j)
  unfolding word_from
  word_cut zero m t = rw (zero-add, add-zero) (omega arith)
  word_cut (suc j) m t = rw (suc-add, pow-add, word_cut j m (suc t), add-mul, mul_assoc, add-suc, suc-add, add_assoc)

  pub ones_word : (k t : ℕ) → ones (word_from p k t) ≡ counted p t k
  unfolding word_from
  ones_word zero t = ones-ones 0 ∙ rw (counted_is, picked_none)
  ones_word (suc k) t =
      ones_cat k (bit_value (p t)) (word_from p k (suc t)) (word_small k (suc t)) ∙ rw (counted_suc, ones_word k (suc t), ones_bit (p t))
    where
      ones_bit : (b : Bool) → ones (bit_value b) ≡ cond b 1 0
      ones_bit true = ones-ones 1
      ones_bit false = ones-ones 0

  -- the first j bits alone
  pub ones_first : (k j t : ℕ) → j ≤ k → ones (word_from p k t / 2 ^ (k - j)) ≡ counted p t j
  ones_first k j t l = ap ones first ∙ ones_word j t
    where
      first : word_from p k t / 2 ^ (k - j) ≡ word_from p j t
      first =
          let whole : k ≡ j + (k - j) = omega arith in
          ap (λ x. word_from p x t / 2 ^ (k - j)) whole ∙ rw word_cut (high (word_from p j t) (k - j) (word_small (k - j) (t + j)))

  -- the bits of a word up to bit b mod 16
  pub ones_to_bit : (t b : ℕ) → ones_to (word_from p 16 t) b ≡ counted p t (b % 16 + 1)
  unfolding ones_to
  ones_to_bit t b =
      let left : 15 - b % 16 ≡ 16 - (b % 16 + 1) = omega arith in
      rw left (ones_first 16 (b % 16 + 1) t (omega arith))
