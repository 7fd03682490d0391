-- There is room for the text ahead, and once that is put the whole text is there (`Putting`).
-- Assumes nothing.
use Rattle.std.proofs.Common.{length}
use Rattle.text.proofs.Along.{Putting}
use Rattle.text.proofs.put_rows.Given as goal

abbrev pub invariant-loop-key : goal.invariant-loop-key
invariant-loop-key l = Putting l.count l.keys l.hops l.initial.out l.out l.at (length l.yielded)
