-- `within::inside::inner_from` meets its contract. A prefix's network is an address, so one more than its key fits.
-- Assumes nothing.
use native.Mathlib.Omega.{arith}
use Rattle.cidr.proofs.Prefix.{prefix_parts}
use Rattle.within.proofs.inside.inner_from.Goals as goal

pub overflow_add-key : goal.overflow_add-key
overflow_add-key c = omega (arith, prefix_parts _ c.requires.0)

pub returns : goal.returns
returns c = c.lower.ensures c.requires.1
