-- `within::parent::key_around` meets its contract: shifted there and back, the address has lost its host bits.
-- Assumes nothing.
use native.Mathlib.Omega.{arith}
use Rattle.cidr.proofs.Bits.{shifted_host_bits}
use Rattle.within.proofs.parent.key_around.Goals as goal

pub overflow_mul-result : goal.overflow_mul-result
overflow_mul-result c = rw (shifted_host_bits c.args.a c.args.len c.ranges.a.fits) record { fits = omega (arith, c.requires.0) }

pub overflow_add-result : goal.overflow_add-result
overflow_add-result c = rw (shifted_host_bits c.args.a c.args.len c.ranges.a.fits) record { fits = omega (arith, c.requires.0, c.requires.1) }

pub returns : goal.returns
returns c = rw (shifted_host_bits c.args.a c.args.len c.ranges.a.fits)
