-- Making a code word block by block: what is made is the word of the bits seen, and the walk stands before the next block, or behind the
-- last one. A block is one bit more, which is the lowest. The walk stands at the segment's first block already, where it finds no other hop: so
-- that block's bit, which is 1, is put in when the word is made, and so are the bits without a block, which are 0.
-- Assumes nothing.
use mathlib.Core.Path.{◌≡◌, refl, sym, ◌∙◌}
use mir.Val.{bool_byte}
use mathlib.Core.Bool.{Bool, true, false, not, ◌&&◌}
use mathlib.Core.List.{List}
use Prim.Native.Nat.{ℕ, zero, suc, ◌+◌, ◌-◌, ◌*◌, ◌^◌, ◌≤◌, ◌<◌, min}
use native.Mathlib.Nat.{mul-le-mul_left}
use native.Mathlib.Omega.{arith}
use lib.Pow.{pow_mono}
use lib.ListN.{get_or}
use lib.Dec.{eqb, ltb}
use borrow.Author.Tests.{lt-ltb, eq-eqb}
use Rattle.segment.specs.declared.Walk.{Walk}
use Rattle.segment.specs.Packed.{bit, bit_value, word_from}
use Rattle.segment.specs.Inside.Blocks.{begun, hop_in, Stands, Before, Grid}
use Rattle.segment.proofs.WordOnes.{word_small, word_cut}
use Rattle.segment.proofs.Walking.{may_go_on, hop_kept, bit_found, stands_before, bit_first, bit_none}

-- a segment has at most as many blocks as addresses
pub few_blocks : {base size n : ℕ} → Grid base size n → n ≤ 65536
few_blocks {size = size} {n} g = few size n g.whole
  where
    few : (size n : ℕ) → n * size ≡ 65536 → n ≤ 65536
    few zero n e = absurd (omega arith)
    few (suc size) n e = omega (arith, mul-le-mul_left {m = 1} {n = suc size} n (omega arith))

-- one bit at the end
word_more : (p : ℕ → Bool) (k t : ℕ) → word_from p (k + 1) t ≡ word_from p k t * 2 + bit_value (p (t + k))
unfolding word_from
word_more p k t = word_cut p k 1 t ∙ omega arith

as_bit : (b : Bool) → bool_byte b ≡ bit_value b
as_bit true = refl
as_bit false = refl

pub bit_small : (b : Bool) → bool_byte b ≤ 1
bit_small true = omega arith
bit_small false = omega arith

-- words of the same bits are the same, and one of no ones is 0
module _ (p : ℕ → Bool) where
  word_same : (p' : ℕ → Bool) (k t : ℕ) → ((i : ℕ) → t ≤ i → p i ≡ p' i) → word_from p k t ≡ word_from p' k t
  unfolding word_from
  word_same p' zero t same = refl
  word_same p' (suc k) t same = rw (same t (omega arith), word_same p' k (suc t) (λ i l. same i (omega (arith, l)))) refl

  word_none : (k t : ℕ) → ((i : ℕ) → t ≤ i → i < t + k → p i ≡ false) → word_from p k t ≡ 0
  unfolding word_from
  word_none zero t none = refl
  word_none (suc k) t none =
      rw (none t (omega arith) (omega arith), word_none k (suc t) (λ i l m. none i (omega (arith, l)) (omega (arith, m)))) (omega arith)

  -- m bits behind the last one
  word_filled : (j m t : ℕ) → ((i : ℕ) → t + j ≤ i → i < t + j + m → p i ≡ false) → word_from p j t * 2 ^ m ≡ word_from p (j + m) t
  word_filled j m t none = sym (rw (word_cut, word_none m (t + j) none) (omega arith))

-- the bits but the first
unfoldable pub later : (ℕ → ℕ) → ℕ → ℕ → Bool
later hop n t = ltb 0 t && bit hop n t

module _ (hop : ℕ → ℕ) (n : ℕ) where
  later_bit : (t : ℕ) → 0 < t → later hop n t ≡ bit hop n t
  unfolding later
  later_bit t l = rw (lt-ltb 0 t l) refl

  later_none : (t : ℕ) → n ≤ t → later hop n t ≡ false
  unfolding later
  later_none t l = rw (bit_none hop n t l) (none (ltb 0 t))
    where
      none : (b : Bool) → (b && false) ≡ false
      none true = refl
      none false = refl

  word_behind : (first : ℕ) → 0 < first → word_from (later hop n) 16 first ≡ word_from (bit hop n) 16 first
  word_behind first l = word_same (later hop n) (bit hop n) 16 first (λ i m. later_bit i (omega (arith, l, m)))

  word_in_front : 0 < n → 32768 + word_from (later hop n) 16 0 ≡ word_from (bit hop n) 16 0
  unfolding later word_from
  word_in_front l =
      let same : word_from (later hop n) 15 1 ≡ word_from (bit hop n) 15 1 = word_same (later hop n) (bit hop n) 15 1 (λ i m. later_bit i (omega (arith, m))) in
      rw (bit_first hop n l, same) (omega arith)

-- The walk goes on to a block: that it finds another hop says the block's bit, but for the first one, at which it stands.
module _ {starts rhops : List ℕ} {base size : ℕ} {s : Walk} where
  may_walk : (block : ℕ) → Before starts rhops base size block s → s.begun ≤ begun starts (base + block * size)
  may_walk zero b = let here : base + (0 - 1) * size ≡ base + 0 * size = omega arith in omega (arith, rw here at b.stands.begun_is)
  may_walk (suc t) b = may_go_on b (omega arith)

  other_later : {n : ℕ} (block : ℕ) → Before starts rhops base size block s → block < n → {next : Walk} → Stands starts rhops (base + block * size) next
      → {z : Bool} → z ≡ not (eqb next.hop s.hop) → later (hop_in starts rhops base size) n block ≡ z
  unfolding later
  other_later zero b l {next} st e =
      let here : base + (0 - 1) * size ≡ base + 0 * size = omega arith in
      let same : next.hop ≡ s.hop = st.hop_is ∙ sym (rw here at b.stands.hop_is) in
      rw (e, eq-eqb next.hop s.hop same) refl
  other_later {n} (suc t) b l st e = later_bit (hop_in starts rhops base size) n (suc t) (omega arith) ∙ bit_found b (omega arith) l st e

-- after the bits of the blocks from the first on
pub record Making (starts rhops : List ℕ) (base size n first word : ℕ) (s : Walk) (block : ℕ) : Type 0 where
  pub from : first ≤ block
  pub word_is : word ≡ word_from (later (hop_in starts rhops base size) n) (block - first) first
  pub walk_is : Before starts rhops base size (min block n) s

module _ {starts rhops : List ℕ} {base size n first : ℕ} {s : Walk} where
  pub making_start : Before starts rhops base size (min first n) s → Making starts rhops base size n first 0 s first
  unfolding word_from
  making_start b =
      let none : first - first ≡ 0 = omega arith in
      record { from = omega arith; word_is = rw none; walk_is = b }

  module _ {word block : ℕ} (m : Making starts rhops base size n first word s block) where
    here : block < n → Before starts rhops base size block s
    here l = let same : min block n ≡ block = omega arith in rw same at m.walk_is

    pub may_go : block < n → (s.begun ≤ begun starts (base + block * size)) × (s.hop ≡ get_or rhops (s.begun - 1) 0)
    may_go l = (may_walk block (here l), hop_kept (here l))

    module _ (more : block < first + 16) where
      pub bit_fits : word * 2 + 1 < 65536
      bit_fits =
          let all = later (hop_in starts rhops base size) n in
          omega (arith, m.word_is, word_small all (block - first) first, pow_mono {i = block - first} {j = 15} (omega arith))

      pub making_next : block < n → {next : Walk} → Stands starts rhops (base + block * size) next → {z : Bool} → z ≡ not (eqb next.hop s.hop)
          → {b : ℕ} → b ≡ bool_byte z → Making starts rhops base size n first (word * 2 + b) next (block + 1)
      making_next l {next} st {z} e is =
          let on : block + 1 - first ≡ block - first + 1 = omega (arith, m.from) in
          let there : first + (block - first) ≡ block = omega (arith, m.from) in
          let behind : min (block + 1) n ≡ block + 1 = omega arith in
          record {
            from = omega (arith, m.from);
            word_is = rw (on, word_more, there, other_later block (here l) l st e, is, as_bit z, m.word_is);
            walk_is = rw behind (stands_before starts rhops base size block st);
          }

    -- behind the last block of the word
    module _ {end : ℕ} (last : end ≡ min n (first + 16)) (at_end : block ≡ end) (some : first < n) where
      whole : word * 2 ^ (first + 16 - end) ≡ word_from (later (hop_in starts rhops base size) n) 16 first
      whole =
          let all : block - first + (first + 16 - end) ≡ 16 = omega (arith, last, at_end, m.from) in
          let filled = word_filled (later (hop_in starts rhops base size) n) (block - first) (first + 16 - end) first none in
          rw m.word_is (rw all at filled)
        where
          none : (i : ℕ) → first + (block - first) ≤ i → i < first + (block - first) + (first + 16 - end)
              → later (hop_in starts rhops base size) n i ≡ false
          none i l u = later_none (hop_in starts rhops base size) n i (omega (arith, m.from, last, at_end, l, u))

      pub filled_fits : word * 2 ^ (first + 16 - end) < 65536
      filled_fits = rw whole (word_small (later (hop_in starts rhops base size) n) 16 first)

      module _ {filled : ℕ} (is : filled ≡ word * 2 ^ (first + 16 - end)) where
        pub word_first : first ≡ 0 → 32768 + filled ≡ word_from (bit (hop_in starts rhops base size) n) 16 first
        word_first front =
            let some_block : 0 < n = omega (arith, some) in
            rw (is, whole, front) (word_in_front (hop_in starts rhops base size) n some_block)

        pub first_fits : first ≡ 0 → 32768 + filled < 65536
        first_fits front = rw (word_first front) (word_small (bit (hop_in starts rhops base size) n) 16 first)

        pub word_later : 0 < first → filled ≡ word_from (bit (hop_in starts rhops base size) n) 16 first
        word_later behind = is ∙ whole ∙ word_behind (hop_in starts rhops base size) n first behind
