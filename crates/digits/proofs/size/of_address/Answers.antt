-- `digits::size::of_address` meets its contract: four octets and three dots.
-- Assumes nothing.
use native.Mathlib.Omega.{arith}
use Rattle.digits.proofs.Sizes.{length_dotted}
use Rattle.digits.proofs.size.of_address.Goals as goal

pub returns : goal.returns
returns c = (omega (arith, length_dotted c.args.a), omega arith)
