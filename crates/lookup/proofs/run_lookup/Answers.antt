-- `lookup::run_lookup` meets its contract: `in_slices` gives where halving ends, and low is a place below the count.
-- Assumes nothing.
use native.Mathlib.Omega.{arith}
use Rattle.lookup.proofs.LookupOutcomes.{runs_accepted, found}
use Rattle.lookup.proofs.run_lookup.Goals as goal

pub returns : goal.returns
returns c = found _ _ (runs_accepted _ (omega arith) (omega arith)) c.in_slices-found.ensures
