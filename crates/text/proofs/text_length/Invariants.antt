-- What was counted and the length of the text ahead make the whole (`Counting`).
-- Assumes nothing.
use Rattle.std.proofs.Common.{length}
use Rattle.text.proofs.Along.{Counting}
use Rattle.text.proofs.text_length.Given as goal

abbrev pub invariant-loop-key : goal.invariant-loop-key
invariant-loop-key l = Counting l.count l.keys l.hops l.bytes (length l.yielded)
