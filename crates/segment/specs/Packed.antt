-- Rule 9.1: segment q is the 65,536 addresses that begin with the 16 bits of q. Rules 9.2 to 9.8: this is what packing writes for it.
-- Assumes nothing.
use Rattle.std.specs.Prelude.{Bool, true, false, cond, ◌&&◌, List, [], ◌∷◌, map, ℕ, zero, suc, ◌+◌, ◌-◌, ◌*◌, ◌/◌, ◌^◌, max, ltb, eqb}
use Rattle.std.specs.Int.Count.{ones}
use Rattle.ground.specs.Stretch.{stretch, among, turns}
use Rattle.cidr.specs.Prefix.{network, length_of}
use Rattle.routes.specs.Row.{Row}
use Rattle.routes.specs.Plain.{plain}

-- Rule 9.2: the width is the greatest length among the listed prefixes in the segment that are longer than 16, less 16, and 0 if there are
-- none. A prefix longer than 16 lies in the segment if its network does. One of length 16 or less gives 0, wherever it lies.
unfoldable pub width : ℕ → List Row → ℕ
width q [] = 0
width q (r ∷ rs) = max (cond (eqb (network r.key / 65536) q) (length_of r.key - 16) 0) (width q rs)

-- Rule 9.3: the hop of block t is the plain answer at its first address. No listed prefix begins or ends inside a block, so the hop is that
-- of all its addresses.
unfoldable pub block_hop : ℕ → List Row → ℕ → ℕ → ℕ
block_hop q rows w t = plain rows (q * 65536 + t * 2 ^ (16 - w))

-- Rule 9.4: bit 0 is 1, and a later bit is 1 if the hop of its block isn't that of the block before. Rule 9.5: a bit without a block is 0.
-- Here and below, `hop` is the hop of each of n blocks.
unfoldable pub bit : (ℕ → ℕ) → ℕ → ℕ → Bool
bit hop n t = ltb t n && turns hop t

abbrev pub bit_value : Bool → ℕ
bit_value true = 1
bit_value false = 0

-- Rule 9.5: the first bit of a word is its highest. This is the number of the bits from t on, of which `left` are left.
unfoldable pub word_from : (ℕ → Bool) → ℕ → ℕ → ℕ
word_from b zero t = 0
word_from b (suc left) t = bit_value (b t) * 2 ^ left + word_from b left (suc t)

-- Rule 9.6: there are enough words for n bits.
unfoldable pub words_for : ℕ → ℕ
words_for n = (n + 15) / 16

-- Rule 9.5: word j has the bits 16j to 16j + 15.
unfoldable pub code_words : (ℕ → ℕ) → ℕ → List ℕ
code_words hop n = map (λ j. word_from (bit hop n) 16 (j * 16)) (stretch 0 (words_for n))

-- Rule 9.7: the base of a word is how many bits are 1 in the words before it.
unfoldable pub bases_from : ℕ → List ℕ → List ℕ
bases_from before [] = []
bases_from before (word ∷ words) = before ∷ bases_from (before + ones word) words

-- Rule 9.8: the hops are those of the blocks whose bit is 1, in order.
unfoldable pub kept_hops : (ℕ → ℕ) → ℕ → List ℕ
kept_hops hop n = map hop (among (bit hop n) (stretch 0 n))

-- the words, bases and hops of segment q of a list
unfoldable pub words_of : ℕ → List Row → List ℕ
words_of q rows = code_words (block_hop q rows (width q rows)) (2 ^ width q rows)

unfoldable pub bases_of : ℕ → List Row → List ℕ
bases_of q rows = bases_from 0 (words_of q rows)

unfoldable pub packed_hops_of : ℕ → List Row → List ℕ
packed_hops_of q rows = kept_hops (block_hop q rows (width q rows)) (2 ^ width q rows)
