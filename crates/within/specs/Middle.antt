-- The runs of an answer from a start up to a limit: how many there are, and the hops of the first and of the last.
-- Assumes nothing.
use Rattle.std.specs.Prelude.{◌≡◌, ℕ, ◌-◌}
use Rattle.ground.specs.Stretch.{counted, turns_from}
use Rattle.within.specs.declared.inside.Middle.{Middle}

pub record Measured (g : ℕ → ℕ) (start limit : ℕ) (r : Middle) : Type 0 where
  pub count : r.runs ≡ counted (turns_from start g) start (limit - start)
  pub first_is : r.first ≡ g start
  pub last_is : r.last ≡ g (limit - 1)
