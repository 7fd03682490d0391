-- `cidr::cleared` meets its contract: what the left shift puts back fits, since it is at most the number.
-- Assumes nothing.
use Rattle.cidr.proofs.Bits.{shifted_back}
use Rattle.cidr.proofs.cleared.Goals as goal

pub returns : goal.returns
returns c = shifted_back c.args.x c.args.bits c.ranges.x.fits
