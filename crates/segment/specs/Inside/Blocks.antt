-- The blocks of a segment as the walk over a run table sees them. The table's answer at an address is the hop of the last run that begins
-- at it or before it, so the walk keeps how many runs have begun.
-- Assumes nothing.
use Rattle.std.specs.Prelude.{◌≡◌, true, List, [], ◌∷◌, ℕ, ◌+◌, ◌-◌, ◌*◌, ◌^◌, ◌≤◌, ◌<◌, length, get_or, ltb}
use Rattle.ground.specs.Numbers.{Check, check, outcome, done, no_room}
use Rattle.ground.specs.Column.{ascends, lower}
use Rattle.ground.specs.Slots.{written}
use Rattle.segment.specs.declared.Walk.{Walk}
use Rattle.segment.specs.Packed.{code_words, bases_from, kept_hops}
use Rattle.segment.specs.Pack.{PackLent, PackOutcome, pack_refused}

-- starts that begin with 0 and ascend, and as many hops
pub record Runs (starts rhops : List ℕ) : Type 0 where
  pub paired : length rhops ≡ length starts
  pub some_run : 0 < length starts
  pub first : get_or starts 0 0 ≡ 0
  pub ascend : ascends starts ≡ true

-- how many runs begin at an address or before it, and the hop of the last of them
abbrev pub begun : List ℕ → ℕ → ℕ
begun starts a = lower (a + 1) starts

unfoldable pub hop_at : List ℕ → List ℕ → ℕ → ℕ
hop_at starts rhops a = get_or rhops (begun starts a - 1) 0

-- the hop of block t, where blocks of this size begin at the base
unfoldable pub hop_in : List ℕ → List ℕ → ℕ → ℕ → ℕ → ℕ
hop_in starts rhops base size t = hop_at starts rhops (base + t * size)

-- the walk stands at an address
pub record Stands (starts rhops : List ℕ) (at : ℕ) (s : Walk) : Type 0 where
  pub begun_is : s.begun ≡ begun starts at
  pub hop_is : s.hop ≡ hop_at starts rhops at

-- the walk stands at the block before block t, and before the first block at that block itself
pub record Before (starts rhops : List ℕ) (base size t : ℕ) (s : Walk) : Type 0 where
  pub stands : Stands starts rhops (base + (t - 1) * size) s

-- the blocks cover a segment: n of this size from the base on
pub record Grid (base size n : ℕ) : Type 0 where
  pub within : base + 65536 ≤ 4294967296
  pub whole : n * size ≡ 65536

-- packing n = 2^w blocks with these hops into what was lent, where the pair is known to agree: 13, or all three slices
unfoldable pub room_checks : ℕ → (ℕ → ℕ) → PackLent → List Check
room_checks w hop l =
    check (ltb (length l.words) (length (code_words hop (2 ^ w)))) no_room
    ∷ check (ltb (length l.bases) (length (bases_from 0 (code_words hop (2 ^ w))))) no_room
    ∷ check (ltb (length l.hops) (length (kept_hops hop (2 ^ w)))) no_room
    ∷ []

abbrev pub blocks_done : ℕ → (ℕ → ℕ) → PackLent → PackOutcome
blocks_done w hop l = record {
  number = done;
  width = w;
  word_count = length (code_words hop (2 ^ w));
  hop_count = length (kept_hops hop (2 ^ w));
  words = written (code_words hop (2 ^ w)) l.words;
  bases = written (bases_from 0 (code_words hop (2 ^ w))) l.bases;
  hops = written (kept_hops hop (2 ^ w)) l.hops;
}

unfoldable pub pack_blocks : ℕ → (ℕ → ℕ) → PackLent → PackOutcome
pack_blocks w hop l = outcome (room_checks w hop l) (pack_refused l) (blocks_done w hop l)
