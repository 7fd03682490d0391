-- Packed lookup finds the hop of an address's block in slices that begin with the words, bases and hops of the blocks. The block has a word
-- and a base. One more than its place is how many of the bits up to its own are 1: at least bit 0 is, and the hop there is the block's.
-- Assumes nothing.
use mathlib.Core.Path.{◌≡◌, refl, sym, ap, ◌∙◌}
use Prim.Native.Nat.{ℕ, ◌+◌, ◌-◌, ◌/◌, ◌^◌, ◌≤◌, ◌<◌}
use native.Mathlib.Omega.{arith}
use lib.ListN.{length, get_or, take}
use lib.Pow.{shr_lt}
use Rattle.ground.proofs.Slots.{first_long, first_slot}
use Rattle.ground.specs.Numbers.{done}
use Rattle.ground.specs.Stretch.{counted}
use Rattle.routes.specs.Lookup.{looked_up}
use Rattle.segment.specs.Packed.{bit, words_for, code_words, bases_from, kept_hops}
use Rattle.packed.specs.Lookup.{SegmentLent, block_of, ones_to, past_place, packed_lookup}
use Rattle.packed.proofs.PackedOutcome.{past_is as past_place_is, hop_there}
use Rattle.segment.proofs.CodeWords.{length_code_words, length_code_bases, word_there, ones_through}
use Rattle.segment.proofs.KeptHops.{length_kept_hops, some_through, through_at_most, hop_through}

-- an address is in one of the blocks
pub block_below : (w a : ℕ) → w ≤ 16 → block_of w a < 2 ^ w
unfolding block_of
block_below w a narrow = let all : w + (16 - w) ≡ 16 = omega arith in shr_lt w (16 - w) (rw all (omega arith))

-- block b of n, in slices that begin with what is packed
module _ (hop : ℕ → ℕ) (n : ℕ) (s : SegmentLent) (ws : take (words_for n) s.words ≡ code_words hop n)
    (bs : take (words_for n) s.bases ≡ bases_from 0 (code_words hop n)) (hs : take (length (kept_hops hop n)) s.hops ≡ kept_hops hop n)
    (b : ℕ) (l : b < n) where
  word_in : b / 16 < length s.words
  word_in = omega (arith, word_there n b l, first_long (words_for n) s.words _ ws (sym (length_code_words hop n)))

  base_in : b / 16 < length s.bases
  base_in = omega (arith, word_there n b l, first_long (words_for n) s.bases _ bs (sym (length_code_bases hop n)))

  past_is : counted (bit hop n) 0 (b + 1) ≡ get_or s.bases (b / 16) 0 + ones_to (get_or s.words (b / 16) 0) b
  past_is =
      let word = first_slot (words_for n) s.words _ ws (b / 16) (word_there n b l) in
      let base = first_slot (words_for n) s.bases _ bs (b / 16) (word_there n b l) in
      rw (word, base) (sym (ones_through hop n b l))

  past_in : counted (bit hop n) 0 (b + 1) ≤ length s.hops
  past_in = omega (arith, through_at_most hop n b l, length_kept_hops hop n, first_long (length (kept_hops hop n)) s.hops _ hs refl)

  hop_is : get_or s.hops (counted (bit hop n) 0 (b + 1) - 1) 0 ≡ hop b
  hop_is =
      let place : counted (bit hop n) 0 (b + 1) - 1 < length (kept_hops hop n) =
      omega (arith, some_through hop n b l, through_at_most hop n b l, length_kept_hops hop n) in
      first_slot (length (kept_hops hop n)) s.hops _ hs _ place ∙ hop_through hop n b l

  block_found : (a : ℕ) → s.width ≤ 16 → b ≡ block_of s.width a → packed_lookup s a ≡ looked_up done (hop b)
  block_found a narrow is =
      let past : counted (bit hop n) 0 (b + 1) ≡ past_place s a = past_is ∙ rw is (sym (past_place_is s a)) in
      hop_there s a narrow (rw is at word_in) (rw is at base_in) (omega (arith, past, some_through hop n b l)) (omega (arith, past, past_in))
      ∙ ap (looked_up done) (rw past at hop_is)

pub packed_finds : (hop : ℕ → ℕ) (w : ℕ) → w ≤ 16 → (s : SegmentLent) → s.width ≡ w
    → take (words_for (2 ^ w)) s.words ≡ code_words hop (2 ^ w)
    → take (words_for (2 ^ w)) s.bases ≡ bases_from 0 (code_words hop (2 ^ w))
    → take (length (kept_hops hop (2 ^ w))) s.hops ≡ kept_hops hop (2 ^ w)
    → (a : ℕ) → packed_lookup s a ≡ looked_up done (hop (block_of w a))
packed_finds hop w narrow s is ws bs hs a =
    block_found hop (2 ^ w) s ws bs hs (block_of w a) (block_below w a narrow) a (omega arith) (rw is)
