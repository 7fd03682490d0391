-- Rules 7.3 and 7.4: the end of halving, as the code takes it once high - low is 1 or 2. If it is 2 the place is probed, and `above` says
-- that the start there is above the address. If it is 1 nothing is left to probe: the place is low, whatever `above` says. `probes` were made
-- before.
-- Assumes nothing.
use Rattle.std.specs.Prelude.{Bool, cond, ℕ, ◌+◌, ◌-◌}
use Rattle.halving.specs.Halving.{Halved}

abbrev pub ended : Bool → ℕ → ℕ → ℕ → Halved
ended above place low probes = record {
  low = cond above low place;
  high = cond above low place + 1;
  probes = probes + (place - low);
}
