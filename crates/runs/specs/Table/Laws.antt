-- What `starts_of` says, as the addresses of a stretch.
-- Assumes nothing.
use Rattle.std.specs.Prelude.{◌≡◌, refl, ℕ}
use Rattle.ground.specs.Stretch.{picked, turns}
use Rattle.cidr.specs.Prefix.{addresses}
use Rattle.runs.specs.Table.{starts_of}

pub starts_are : (f : ℕ → ℕ) → starts_of f ≡ picked (turns f) 0 addresses
unfolding starts_of
starts_are f = refl
