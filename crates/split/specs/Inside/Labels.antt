-- What the walk along the rows of the second half needs of the sweep over the first half.
-- Assumes nothing.
use Rattle.std.specs.Prelude.{◌≡◌, List, map, ℕ, ◌+◌, ◌-◌, ◌≤◌, ◌<◌, length, get_or, drop}
use Rattle.cidr.specs.Prefix.{network}
use Rattle.routes.specs.Row.{Row, hops_of}
use Rattle.sweep.specs.Sweep.{Stack}
use Rattle.split.specs.Split.{relabelled, first_half}

-- all rows were opened, and the sweep stands no further than at the last one's network
pub record AllOpen (keys hops ends open-hops : List ℕ) (row depth at : ℕ) : Type 0 where
  pub stack : Stack keys hops ends open-hops row depth at (at + 1)
  pub all : row ≡ length keys
  pub reached : (to : ℕ) → ((i : ℕ) → i < length keys → network (get_or keys i 0) ≤ to) → at ≤ to

-- the first half has rows, and the slice has room for the second half's labels
pub record Labelled (k : ℕ) (keys labels : List ℕ) : Type 0 where
  pub some : 0 < k
  pub within : k ≤ length keys
  pub room : length keys - k ≤ length labels

-- the labels of the rows from place k on
unfoldable pub labels_from : ℕ → List Row → List ℕ
labels_from k rows = hops_of (map (relabelled (first_half k rows)) (drop k rows))
