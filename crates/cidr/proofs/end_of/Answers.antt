-- `cidr::end_of` meets its contract: 1 shifted by the host bits is the prefix's size, and the sum fits, since a network is below 2^58.
-- Assumes nothing.
use Rattle.cidr.proofs.Bits.{shifted_size, end_fits}
use Rattle.cidr.proofs.end_of.Goals as goal

pub overflow_add-result : goal.overflow_add-result
overflow_add-result c =
    rw (c.network.ensures, c.bits_beyond.ensures)
    record { fits = end_fits c.args.key c.ranges.key.fits }

pub returns : goal.returns
returns c = rw (c.network.ensures, c.bits_beyond.ensures, shifted_size c.args.key)
