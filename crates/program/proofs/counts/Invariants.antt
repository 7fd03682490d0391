-- There is room for the lines of the names that are left, and with them all lines are there (`Naming`).
-- Assumes nothing.
use Rattle.program.proofs.ProgramLines.{Naming}
use Rattle.program.proofs.counts.Given as goal

abbrev pub invariant-loop-name : goal.invariant-loop-name
invariant-loop-name l = Naming l.c l.from l.fn.out l.out l.at l.name-index
