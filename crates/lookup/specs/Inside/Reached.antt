-- Rules 7.3 and 7.4: what halving over starts gives a run lookup: the place low, the last address of the run found, and the number of probes.
-- `at` gives the start at a place.
-- Assumes nothing.
use Rattle.std.specs.Prelude.{◌≡◌, ℕ}
use Rattle.halving.specs.Halving.{halving}
use Rattle.lookup.specs.Lookup.{last_of}

pub record ReachedBy (at : ℕ → ℕ) (n a low last probes : ℕ) : Type 0 where
  pub low_is : low ≡ (halving at n a).low
  pub last_is : last ≡ last_of at n (halving at n a).high
  pub probes_are : probes ≡ (halving at n a).probes
