-- `segment::write_words` meets its contract. A turn makes the next word, whose base is how many ones were counted.
-- Assumes nothing.
use mathlib.Core.Path.{◌≡◌}
use Prim.Native.Nat.{◌+◌, ◌*◌, min}
use native.Mathlib.Omega.{arith}
use Rattle.segment.proofs.WordMaking.{few_blocks}
use Rattle.segment.proofs.WordsWriting.{writing_start, few_words, block_there, word_fits, base_fits, before_fits, writing_on, all_words, all_bases}
use Rattle.segment.proofs.write_words.Goals as goal

pub loop-j-init : goal.loop-j-init
loop-j-init c =
    let pre = c.requires in
    let none : min 0 c.args.n ≡ 0 = omega arith in
    record { written = writing_start (few_blocks pre.1) pre.3 pre.4; walk = rw none pre.2 }

pub overflow_mul-j : goal.overflow_mul-j
overflow_mul-j c = omega (arith, few_words c.loop-j.invariant.written (omega arith))

pub word_at-word-requires : goal.word_at-word-requires
word_at-word-requires c =
    let l = c.loop-j.invariant in
    (c.requires.0, c.requires.1, l.walk, block_there l.written (omega arith))

pub bounds-words-j : goal.bounds-words-j
bounds-words-j c = word_fits c.loop-j.invariant.written (omega arith)

pub bounds-bases-j : goal.bounds-bases-j
bounds-bases-j c = base_fits c.loop-j.invariant.written (omega arith)

pub overflow_cast-bases : goal.overflow_cast-bases
overflow_cast-bases c = omega (arith, before_fits c.loop-j.invariant.written (omega arith))

pub overflow_add-ones : goal.overflow_add-ones
overflow_add-ones c = omega (arith, c.ones_of-ones.ensures.1, before_fits c.loop-j.invariant.written (omega arith))

pub loop-j-preserved : goal.loop-j-preserved
loop-j-preserved c =
    let made = c.word_at-word.ensures in
    let next : 16 * (c.loop-j.j + 1) ≡ 16 * c.loop-j.j + 16 = omega arith in
    record {
      written = writing_on c.loop-j.invariant.written (omega arith) made.word c.ones_of-ones.ensures.0;
      walk = rw next made.next;
    }

pub returns : goal.returns
returns c =
    let w = c.loop-j.invariant.written in
    (all_words w (omega arith), all_bases w (omega arith))
