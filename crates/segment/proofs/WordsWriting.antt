-- Writing the code words and their bases, word by word: what stands in the slices are the first j words and bases, and then the slots as
-- they were. How many of the bits before are 1 is the next word's base, so it fits while a word is left. A turn is one word and base more.
-- Assumes nothing.
use mathlib.Core.Path.{◌≡◌, refl, sym, ◌∙◌}
use mathlib.Core.List.{List}
use Prim.Native.Nat.{ℕ, ◌+◌, ◌*◌, ◌≤◌, ◌<◌}
use native.Mathlib.Nat.{zero-add}
use native.Mathlib.Numerals.{add-one}
use native.Mathlib.Omega.{arith}
use lib.ListN.{length, take, set, get_or, length-set}
use lib.Seq.{length-take-le, take_all, take-suc}
use lib.Count.{ones}
use Rattle.ground.proofs.Slots.{written_more}
use Rattle.ground.specs.Slots.{written}
use Rattle.ground.specs.Stretch.{counted}
use Rattle.ground.specs.Stretch.Laws.{picked_none}
use Rattle.ground.specs.Stretch.Count.{counted_is, counted_cut}
use Rattle.segment.specs.Packed.{bit, word_from, words_for, code_words, bases_from}
use Rattle.segment.proofs.WordOnes.{ones_word}
use Rattle.segment.proofs.CodeWords.{length_code_words, length_code_bases, code_word_at, code_base_at, code_base_small}

-- the front of a list is written, and then the number behind it
written_next : (new old : List ℕ) (j v : ℕ) → j < length new → length new ≤ length old → v ≡ get_or new j 0
    → set (written (take j new) old) j v ≡ written (take (j + 1) new) old
written_next new old j v l room e =
    let long : length (take j new) ≡ j = length-take-le j new (omega arith) in
    rw (add-one, take-suc new j 0 l, ← e) (rw long at (written_more (take j new) old v (omega arith)))

-- after j words of n blocks: how many bits before the first block without a word are 1
pub record Writing (hop : ℕ → ℕ) (n j before : ℕ) (words₀ bases₀ words bases : List ℕ) : Type 0 where
  pub few : n ≤ 65536
  pub room : words_for n ≤ length words₀
  pub base_room : words_for n ≤ length bases₀
  pub as_long : length words ≡ length words₀
  pub bases_as_long : length bases ≡ length bases₀
  pub before_is : before ≡ counted (bit hop n) 0 (16 * j)
  pub words_are : words ≡ written (take j (code_words hop n)) words₀
  pub bases_are : bases ≡ written (take j (bases_from 0 (code_words hop n))) bases₀

pub writing_start : {hop : ℕ → ℕ} {n : ℕ} {words bases : List ℕ} → n ≤ 65536 → words_for n ≤ length words → words_for n ≤ length bases
    → Writing hop n 0 0 words bases words bases
unfolding written
writing_start f l m = record {
  few = f;
  room = l;
  base_room = m;
  as_long = refl;
  bases_as_long = refl;
  before_is = rw (counted_is, picked_none);
  words_are = refl;
  bases_are = refl;
}

module _ {hop : ℕ → ℕ} {n j before : ℕ} {words₀ bases₀ words bases : List ℕ}
    (w : Writing hop n j before words₀ bases₀ words bases) where
  -- all blocks have their word
  module _ (all : j ≡ words_for n) where
    pub all_words : words ≡ written (code_words hop n) words₀
    all_words = w.words_are ∙ rw (take_all j (code_words hop n) (omega (arith, all, length_code_words hop n)))

    pub all_bases : bases ≡ written (bases_from 0 (code_words hop n)) bases₀
    all_bases = w.bases_are ∙ rw (take_all j (bases_from 0 (code_words hop n)) (omega (arith, all, length_code_bases hop n)))

  -- a block has none
  module _ (more : j < words_for n) where
    pub few_words : j < 4096
    unfolding words_for
    few_words = omega (arith, w.few)

    pub block_there : 16 * j < n
    unfolding words_for
    block_there = omega arith

    pub word_fits : j < length words
    word_fits = omega (arith, w.room, w.as_long)

    pub base_fits : j < length bases
    base_fits = omega (arith, w.base_room, w.bases_as_long)

    next_base : before ≡ get_or (bases_from 0 (code_words hop n)) j 0
    next_base = rw (code_base_at hop n j more) w.before_is

    next_word : word_from (bit hop n) 16 (16 * j) ≡ get_or (code_words hop n) j 0
    next_word = let here : j * 16 ≡ 16 * j = omega arith in sym (rw here at (code_word_at hop n j more))

    pub before_fits : before < 65536
    before_fits = rw next_base (code_base_small hop n j more w.few)

    pub writing_on : {word its-ones : ℕ} → word ≡ word_from (bit hop n) 16 (16 * j) → its-ones ≡ ones word
        → Writing hop n (j + 1) (before + its-ones) words₀ bases₀ (set words j word) (set bases j before)
    writing_on {word} e f =
        let next : 16 * (j + 1) ≡ 16 * j + 16 = omega arith in
        record {
          few = w.few;
          room = w.room;
          base_room = w.base_room;
          as_long = length-set words j word ∙ w.as_long;
          bases_as_long = length-set bases j before ∙ w.bases_as_long;
          before_is = rw (w.before_is, f, e, ones_word, next, counted_cut, zero-add);
          words_are =
              rw w.words_are (written_next (code_words hop n) words₀ j word long (rw length_code_words w.room) (e ∙ next_word));
          bases_are =
              rw w.bases_are
              (written_next (bases_from 0 (code_words hop n)) bases₀ j before base_long (rw length_code_bases w.base_room) next_base);
        }
      where
        long : j < length (code_words hop n)
        long = rw length_code_words more

        base_long : j < length (bases_from 0 (code_words hop n))
        base_long = rw length_code_bases more
