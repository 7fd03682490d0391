-- The loop has summed the outermost rows before its place, and has the end of the last one.
use Rattle.within.proofs.Summing.{Summing}
use Rattle.within.proofs.inside.outer_size.Given as goal

abbrev pub invariant-loop-key : goal.invariant-loop-key
invariant-loop-key l = Summing l.rows.keys.now l.rows.hops.now l.from l.end l.sum l.key-index
