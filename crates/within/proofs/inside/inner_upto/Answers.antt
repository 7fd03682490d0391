-- `within::inside::inner_upto` meets its contract. A prefix ends with the last address or earlier, so 64 times its end fits.
-- Assumes nothing.
use native.Mathlib.Omega.{arith}
use Rattle.cidr.proofs.Prefix.{prefix_parts, end_within}
use Rattle.within.proofs.inside.inner_upto.Goals as goal

pub overflow_mul-end : goal.overflow_mul-end
overflow_mul-end c = omega (arith, c.end_of-end.ensures, end_within _ (prefix_parts _ c.requires.0))

pub returns : goal.returns
returns c = rw c.end_of-end.ensures at (c.lower.ensures c.requires.1)
