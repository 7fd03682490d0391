-- `cidr::holds` meets its contract: the address with its host bits cleared is what the definition compares.
-- Assumes nothing.
use Rattle.cidr.proofs.Bits.{matched}
use Rattle.cidr.proofs.holds.Goals as goal

pub returns : goal.returns
returns c =
    let at_bits = c.before in
    let args = at_bits.args in
    rw (c.network.ensures, c.cleared.ensures, at_bits.bits_beyond.ensures) (matched args.key args.a)
