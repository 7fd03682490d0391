-- `segment::pack_blocks` meets its contract: each slice that is too short is 13 before anything is written, and else the words, bases and
-- hops are those of the blocks.
-- Assumes nothing.
use native.Mathlib.Omega.{arith}
use Rattle.segment.proofs.PackLaws.{power_most, blocks_ready, blocks_written}
use Rattle.segment.proofs.pack_blocks.Goals as goal

pub words_for-count-requires : goal.words_for-count-requires
words_for-count-requires c = rw c.power-n.ensures (power_most _ c.requires.1)

pub count_hops-kept-requires : goal.count_hops-kept-requires
count_hops-kept-requires c = let pre = c.requires in blocks_ready pre.0 pre.1 pre.2 c.power-size.ensures c.power-n.ensures c.from-walk.ensures

pub write_words-requires : goal.write_words-requires
write_words-requires c =
    let pre = c.requires in
    let ready = blocks_ready pre.0 pre.1 pre.2 c.power-size.ensures c.power-n.ensures c.from-walk.ensures in
    (ready.0, ready.1, ready.2, omega (arith, c.words_for-count.ensures), omega (arith, c.words_for-count.ensures))

pub write_hops-requires : goal.write_hops-requires
write_hops-requires c =
    let pre = c.requires in
    let ready = blocks_ready pre.0 pre.1 pre.2 c.power-size.ensures c.power-n.ensures c.from-walk.ensures in
    (ready.0, ready.1, ready.2, omega (arith, c.count_hops-kept.ensures))

pub returns : goal.returns
returns c =
    blocks_written _ _ _ _ _ _ _ c.power-size.ensures c.power-n.ensures c.words_for-count.ensures c.count_hops-kept.ensures (omega arith)
    (omega arith) (omega arith) c.write_words.ensures c.write_hops.ensures
