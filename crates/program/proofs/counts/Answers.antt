-- `program::counts` meets its contract: the line of all rows, and behind it that of each name of the table.
-- Assumes nothing.
use Rattle.std.proofs.Common.{refl}
use Rattle.program.proofs.ProgramLines.{names_coded, first_line_fits, naming_start, name_fits_next, naming_next, naming_end}
use Rattle.program.proofs.counts.Goals as goal

pub line-at-requires : goal.line-at-requires
line-at-requires c = first_line_fits c.args.c c.requires

pub loop-name-init : goal.loop-name-init
loop-name-init c = naming_start c.args.c c.requires c.line-at.ensures

pub line-at-requires-in-loop-name : goal.line-at-requires-in-loop-name
line-at-requires-in-loop-name c = name_fits_next (names_coded _ _ _ _ _ _ _) refl c.loop-name-test.true _ c.args.c c.loop-name.invariant

pub loop-name-preserved : goal.loop-name-preserved
loop-name-preserved c =
    naming_next (names_coded _ _ _ _ _ _ _) refl c.loop-name-test.true _ c.args.c c.loop-name.invariant c.line-at-in-loop-name.ensures

pub returns : goal.returns
returns c = naming_end c.loop-name.invariant c.loop-name-test.false
