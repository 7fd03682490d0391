-- The lines of the runs before stand at the place.
-- Assumes nothing.
use Rattle.std.proofs.Common.{length, take}
use Rattle.program.specs.Program.{run_lines}
use Rattle.digits.specs.Putting.{Put}
use Rattle.program.proofs.run_lines.Given as goal

abbrev pub invariant-loop-start : goal.invariant-loop-start
invariant-loop-start l = Put l.from (run_lines (take (length l.yielded) l.starts) (take (length l.yielded) l.hops)) l.at l.initial.out l.out
