-- Rules 9.10 to 9.13: packed lookup goes from the last 16 bits of an address to a block, from the block to its word, and from there to the
-- place of the hop. It returns 19 for a width above 16, and if it would read outside a slice.
-- Assumes nothing.
use Rattle.std.specs.Prelude.{◌||◌, Result, List, [], ◌∷◌, ℕ, ◌+◌, ◌-◌, ◌/◌, ◌%◌, ◌^◌, length, get_or, leb, ltb, eqb}
use Rattle.std.specs.Int.Count.{ones}
use Rattle.ground.specs.Numbers.{Check, check, outcome, done, outside_packed}
use Rattle.ground.specs.declared.Refusal.{Refusal}
use Rattle.routes.specs.Lookup.{LookupOutcome, looked_up, lookup_gave}

-- Rule 9.11: the block of an address is its last 16 bits, divided by the size of a block.
unfoldable pub block_of : ℕ → ℕ → ℕ
block_of w a = a % 65536 / 2 ^ (16 - w)

-- Rule 9.12: how many bits of the word are 1, from bit 0 to bit b mod 16. Bit 0 is the highest, so the later bits are shifted out.
unfoldable pub ones_to : ℕ → ℕ → ℕ
ones_to word b = ones (word / 2 ^ (15 - b % 16))

-- Rule 9.10: a packed segment as it is lent, its width and three slices. All of each slice counts.
pub record SegmentLent : Type 0 where
  pub width : ℕ
  pub words : List ℕ
  pub bases : List ℕ
  pub hops : List ℕ

abbrev pub segment_lent : ℕ → List ℕ → List ℕ → List ℕ → SegmentLent
segment_lent w words bases hops = record { width = w; words = words; bases = bases; hops = hops }

-- Rule 9.12: one more than the place is the word's base plus the count of ones.
unfoldable pub past_place : SegmentLent → ℕ → ℕ
past_place s a =
    get_or s.bases (block_of s.width a / 16) 0
    + ones_to (get_or s.words (block_of s.width a / 16) 0) (block_of s.width a)

-- Rule 9.11: a width above 16, or no word or no base for the block. Rule 9.12: a place of -1, or not below the count of hops.
unfoldable pub packed_checks : SegmentLent → ℕ → List Check
packed_checks s a =
    check (ltb 16 s.width) outside_packed
    ∷ check (leb (length s.words) (block_of s.width a / 16) || leb (length s.bases) (block_of s.width a / 16)) outside_packed
    ∷ check (eqb (past_place s a) 0 || ltb (length s.hops) (past_place s a)) outside_packed
    ∷ []

-- Rule 9.13: packed lookup. It returns a number and a hop, as a lookup over a list does.
unfoldable pub packed_lookup : SegmentLent → ℕ → LookupOutcome
packed_lookup s a = outcome (packed_checks s a) (λ n. looked_up n 0) (looked_up done (get_or s.hops (past_place s a - 1) 0))

-- the same, read from the code's answer
abbrev pub packed_gave : Result ℕ Refusal → LookupOutcome
packed_gave = lookup_gave
