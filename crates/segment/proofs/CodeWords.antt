-- The code words and bases of n blocks: there are `words_for n` of each, word j has the bits from 16j on, and base j is how many of the bits
-- before those are 1. So the base of block b's word, plus the word's ones up to bit b mod 16, is how many of the bits 0 to b are 1.
-- Assumes nothing.
use mathlib.Core.Path.{◌≡◌, refl, sym, ap, ◌∙◌}
use mathlib.Core.Bool.{Bool}
use mathlib.Core.List.{List, [], ◌∷◌, map}
use Prim.Native.Nat.{ℕ, zero, suc, ◌+◌, ◌*◌, ◌/◌, ◌%◌, ◌≤◌, ◌<◌}
use native.Mathlib.Nat.{zero-add, add-zero, suc-add, add-suc, add_assoc}
use native.Mathlib.Omega.{arith}
use lib.ListN.{length, get_or, length-map}
use Rattle.std.specs.Int.Count.{ones}
use Rattle.ground.specs.Stretch.{stretch, counted}
use Rattle.ground.specs.Stretch.Laws.{picked_none}
use Rattle.ground.specs.Stretch.Count.{counted_is, counted_cut, counted_at_most}
use Rattle.ground.proofs.Map.{get_d_map}
use Rattle.segment.specs.Packed.{bit, word_from, words_for, code_words, bases_from}
use Rattle.packed.specs.Lookup.{ones_to}
use Rattle.segment.proofs.WordOnes.{ones_word, ones_to_bit}

length_stretch : (lo n : ℕ) → length (stretch lo n) ≡ n
unfolding stretch
length_stretch lo zero = refl
length_stretch lo (suc n) = ap suc (length_stretch (suc lo) n)

stretch_at : (lo n i : ℕ) → i < n → get_or (stretch lo n) i 0 ≡ lo + i
unfolding stretch
stretch_at lo zero i l = absurd (omega arith)
stretch_at lo (suc n) zero l = sym (add-zero lo)
stretch_at lo (suc n) (suc i) l = stretch_at (suc lo) n i (omega arith) ∙ rw (suc-add, add-suc)

length_bases : (before : ℕ) (words : List ℕ) → length (bases_from before words) ≡ length words
unfolding bases_from
length_bases before [] = refl
length_bases before (word ∷ words) = ap suc (length_bases (before + ones word) words)

-- the bases of m words of a test, the first of which has the bits from 16 * lo on
bases_at : (p : ℕ → Bool) (m lo before i : ℕ) → i < m
    → get_or (bases_from before (map (λ j. word_from p 16 (j * 16)) (stretch lo m))) i 0 ≡ before + counted p (lo * 16) (16 * i)
unfolding bases_from stretch
bases_at p zero lo before i l = absurd (omega arith)
bases_at p (suc m) lo before zero l = rw (counted_is, picked_none) (sym (add-zero before))
bases_at p (suc m) lo before (suc i) l =
    let next : suc lo * 16 ≡ lo * 16 + 16 = omega arith in
    let more : 16 * suc i ≡ 16 + 16 * i = omega arith in
    bases_at p m (suc lo) _ i (omega arith) ∙ rw (ones_word, next, more, counted_cut, add_assoc)

pub few_words : (n : ℕ) → n ≤ 65536 → words_for n ≤ 4096
unfolding words_for
few_words n l = omega arith

-- block b of n has a word
pub word_there : (n b : ℕ) → b < n → b / 16 < words_for n
unfolding words_for
word_there n b l = omega arith

module _ (hop : ℕ → ℕ) (n : ℕ) where
  pub length_code_words : length (code_words hop n) ≡ words_for n
  unfolding code_words
  length_code_words = length-map (stretch 0 (words_for n)) _ ∙ length_stretch 0 (words_for n)

  pub length_code_bases : length (bases_from 0 (code_words hop n)) ≡ words_for n
  length_code_bases = length_bases 0 (code_words hop n) ∙ length_code_words

  module _ (j : ℕ) (l : j < words_for n) where
    pub code_word_at : get_or (code_words hop n) j 0 ≡ word_from (bit hop n) 16 (j * 16)
    unfolding code_words
    code_word_at = get_d_map _ (stretch 0 (words_for n)) j (rw length_stretch l) ∙ rw (stretch_at 0 (words_for n) j l, zero-add)

    pub code_base_at : get_or (bases_from 0 (code_words hop n)) j 0 ≡ counted (bit hop n) 0 (16 * j)
    unfolding code_words
    code_base_at = bases_at (bit hop n) (words_for n) 0 0 j l ∙ zero-add _

    pub code_base_at_most : get_or (bases_from 0 (code_words hop n)) j 0 ≤ 16 * j
    code_base_at_most = rw code_base_at (counted_at_most (bit hop n) 0 (16 * j))

    pub code_base_small : n ≤ 65536 → get_or (bases_from 0 (code_words hop n)) j 0 < 65536
    code_base_small few = omega (arith, code_base_at_most, few_words n few)

  -- how many bits are 1, from bit 0 to that of block b
  pub ones_through : (b : ℕ) → b < n
      → get_or (bases_from 0 (code_words hop n)) (b / 16) 0 + ones_to (get_or (code_words hop n) (b / 16) 0) b ≡ counted (bit hop n) 0 (b + 1)
  ones_through b l =
      let there = word_there n b l in
      let whole : b + 1 ≡ b / 16 * 16 + (b % 16 + 1) = omega arith in
      let same : 16 * (b / 16) ≡ b / 16 * 16 = omega arith in
      rw (code_base_at (b / 16) there, code_word_at (b / 16) there, ones_to_bit, whole, same)
      (sym (counted_cut (bit hop n) 0 (b / 16 * 16) (b % 16 + 1) ∙ rw zero-add))
