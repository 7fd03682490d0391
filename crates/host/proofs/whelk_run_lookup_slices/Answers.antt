-- `host::whelk_run_lookup_slices` meets its contract: the run lookup's outcome as one number and the last address. A slice has fewer than
-- 2^64 slots, so there are at most 64 probes.
-- Assumes nothing.
use native.Mathlib.Omega.{arith}
use Rattle.lookup.proofs.LookupOutcomes.{run_probes_at_most}
use Rattle.host.proofs.whelk_run_lookup_slices.Goals as goal

pub probed_for_c-requires : goal.probed_for_c-requires
probed_for_c-requires c = rw c.run_lookup.ensures (run_probes_at_most _ _ 64 (omega arith))

pub returns : goal.returns
returns c = rw c.run_lookup.ensures at c.probed_for_c.ensures
