-- Rule 9.9: packing checks the pair (11, 14), and returns 13 if one of its three slices is shorter than what goes into it. Else it writes
-- words, bases and hops, and returns the width and how many words and hops there are.
-- Assumes nothing.
use Rattle.std.specs.Prelude.{Result, Ok, Err, List, [], ◌∷◌, ◌++◌, ℕ, length, ltb}
use Rattle.ground.specs.declared.Refusal.{Refusal}
use Rattle.ground.specs.Numbers.{Check, check, outcome, number_of, done, no_room}
use Rattle.ground.specs.Slots.{written}
use Rattle.runs.specs.Pair.{Pair, list_of, pair_checks}
use Rattle.segment.specs.declared.Packed.{Packed}
use Rattle.segment.specs.Packed.{width, words_of, bases_of, packed_hops_of}

-- the three slices that a packing is lent for words, bases and hops
pub record PackLent : Type 0 where
  pub words : List ℕ
  pub bases : List ℕ
  pub hops : List ℕ

abbrev pub pack_lent : List ℕ → List ℕ → List ℕ → PackLent
pack_lent words bases hops = record { words = words; bases = bases; hops = hops }

-- what a packing returns and leaves: its number, the width, how many words (and bases) and how many hops, and the three slices
pub record PackOutcome : Type 0 where
  pub number : ℕ
  pub width : ℕ
  pub word_count : ℕ
  pub hop_count : ℕ
  pub words : List ℕ
  pub bases : List ℕ
  pub hops : List ℕ

-- Rule 9.9: the pair is checked first, then the room.
unfoldable pub pack_checks : ℕ → Pair → PackLent → List Check
pack_checks q p l =
    pair_checks p
    ++ check (ltb (length l.words) (length (words_of q (list_of p)))) no_room
    ∷ check (ltb (length l.bases) (length (bases_of q (list_of p)))) no_room
    ∷ check (ltb (length l.hops) (length (packed_hops_of q (list_of p)))) no_room
    ∷ []

-- Rule 5.4: a refusal returns its number and 0 for the rest, and leaves the slices.
abbrev pub pack_refused : PackLent → ℕ → PackOutcome
pack_refused l n = record { number = n; width = 0; word_count = 0; hop_count = 0; words = l.words; bases = l.bases; hops = l.hops }

-- Rule 9.9: what an accepted packing returns and leaves.
abbrev pub pack_done : ℕ → Pair → PackLent → PackOutcome
pack_done q p l = record {
  number = done;
  width = width q (list_of p);
  word_count = length (words_of q (list_of p));
  hop_count = length (packed_hops_of q (list_of p));
  words = written (words_of q (list_of p)) l.words;
  bases = written (bases_of q (list_of p)) l.bases;
  hops = written (packed_hops_of q (list_of p)) l.hops;
}

-- Rule 9.9: packing segment q.
unfoldable pub pack : ℕ → Pair → PackLent → PackOutcome
pack q p l = outcome (pack_checks q p l) (pack_refused l) (pack_done q p l)

-- the same, read from the code's answer and the slices at exit
abbrev pub pack_gave : Result Packed Refusal → List ℕ → List ℕ → List ℕ → PackOutcome
pack_gave (Ok p) words bases hops = record {
  number = done;
  width = p.width;
  word_count = p.words;
  hop_count = p.hops;
  words = words;
  bases = bases;
  hops = hops;
}
pack_gave (Err e) words bases hops = pack_refused (pack_lent words bases hops) (number_of e)
