-- The place of a key among some keys, as a search answers it: where it stands (Ok), or where it would stand (Err).
-- Assumes nothing.
use Rattle.std.specs.Prelude.{◌≡◌, Bool, true, false, List, ℕ, Result, Ok, Err}
use Rattle.ground.specs.Column.{is_in, lower}

-- the place of either answer, and whether the key stands there
abbrev pub place_of : Result ℕ ℕ → ℕ
place_of (Ok at) = at
place_of (Err at) = at

abbrev pub stands : Result ℕ ℕ → Bool
stands (Ok at) = true
stands (Err at) = false

pub record FoundIn (keys : List ℕ) (k : ℕ) (f : Result ℕ ℕ) : Type 0 where
  pub at_is : place_of f ≡ lower k keys
  pub listed_is : stands f ≡ is_in k keys
