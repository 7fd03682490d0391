-- `digits::size::of_row` meets its contract: the network, the length and the hop, a '/', a space and an LF.
-- Assumes nothing.
use native.Mathlib.Omega.{arith}
use Rattle.digits.proofs.Sizes.{length_row}
use Rattle.digits.proofs.size.of_row.Goals as goal

pub returns : goal.returns
returns c = (omega (arith, length_row c.args.key c.args.hop), omega arith)
