-- `program::run` meets its contract: the start with its space, and the hop with its LF behind it.
-- Assumes nothing.
use Rattle.digits.specs.Digits.{dotted_text}
use Rattle.program.proofs.ProgramLines.{name_fits, number_fits, put_line}
use Rattle.program.proofs.run.Goals as goal

pub address-after-requires : goal.address-after-requires
address-after-requires c = name_fits (dotted_text c.args.start) c.args.hop c.requires

pub number-requires : goal.number-requires
number-requires c =
    number_fits (dotted_text c.args.start) c.args.hop c.requires c.address-after.ensures

pub returns : goal.returns
returns c =
    put_line (dotted_text c.args.start) c.args.hop c.requires c.address-after.ensures c.number.ensures
