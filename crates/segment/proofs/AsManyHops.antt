-- Rule 9.8: there are as many hops as ones in all words. The words have the bits one after the other, and a bit without a block is 0.
-- Assumes nothing.
use mathlib.Core.Path.{◌≡◌, sym, ◌∙◌}
use mathlib.Core.Bool.{Bool}
use mathlib.Core.List.{List, [], ◌∷◌, map}
use Prim.Native.Nat.{ℕ, zero, suc, ◌+◌, ◌-◌, ◌*◌, ◌/◌}
use native.Mathlib.Omega.{arith}
use lib.ListN.{length}
use lib.Count.{ones}
use Rattle.ground.specs.Stretch.{stretch, counted}
use Rattle.ground.specs.Stretch.Laws.{picked_none}
use Rattle.ground.specs.Stretch.Count.{counted_is, counted_cut, counted_none}
use Rattle.segment.specs.Packed.{bit, word_from, words_for, code_words, kept_hops}
use Rattle.segment.proofs.WordOnes.{ones_word}
use Rattle.segment.proofs.KeptHops.{length_kept_hops}
use Rattle.segment.proofs.Walking.{bit_none}

-- the ones of all words
unfoldable pub all_ones : List ℕ → ℕ
all_ones [] = 0
all_ones (word ∷ words) = ones word + all_ones words

-- those of m words of a test, the first of which has the bits from 16 * lo on
ones_of_words : (p : ℕ → Bool) (m lo : ℕ) → all_ones (map (λ j. word_from p 16 (j * 16)) (stretch lo m)) ≡ counted p (lo * 16) (16 * m)
unfolding all_ones stretch
ones_of_words p zero lo = rw (counted_is, picked_none)
ones_of_words p (suc m) lo =
    let next : suc lo * 16 ≡ lo * 16 + 16 = omega arith in
    let more : 16 * suc m ≡ 16 + 16 * m = omega arith in
    rw (ones_word, ones_of_words p m (suc lo), next, more, counted_cut)

pub as_many_hops : (hop : ℕ → ℕ) (n : ℕ) → length (kept_hops hop n) ≡ all_ones (code_words hop n)
unfolding code_words words_for
as_many_hops hop n =
    let spare = 16 * ((n + 15) / 16) - n in
    let all : 16 * ((n + 15) / 16) ≡ n + spare = omega arith in
    let none = counted_none (bit hop n) (0 + n) spare (λ b from to. bit_none hop n b (omega arith)) in
    length_kept_hops hop n
    ∙ sym (ones_of_words (bit hop n) ((n + 15) / 16) 0 ∙ rw (all, counted_cut, none) (omega arith))
