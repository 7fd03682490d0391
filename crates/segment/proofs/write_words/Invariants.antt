-- The words and bases so far stand in the slices, and the walk stands before the first block without a word.
-- Assumes nothing.
use Prim.Native.Nat.{◌*◌, min}
use Rattle.segment.specs.Inside.Blocks.{hop_in, Before}
use Rattle.segment.proofs.WordsWriting.{Writing}
use Rattle.segment.proofs.write_words.Given as goal

abbrev pub invariant-loop-j : goal.invariant-loop-j
invariant-loop-j l = record {
  written : Writing (hop_in l.starts l.rhops l.base l.size) l.n l.j l.ones l.initial.words l.initial.bases l.words l.bases;
  walk : Before l.starts l.rhops l.base l.size (min (16 * l.j) l.n) l.walk;
}
