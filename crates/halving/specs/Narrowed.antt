-- Rule 7.3: one turn of halving, as the code takes it. `above` says that the start at the place is above the address: then high becomes the
-- place, and else low does. The next place is (low + high) div 2.
-- Assumes nothing.
use Rattle.std.specs.Prelude.{◌≡◌, Bool, cond, ℕ, ◌+◌, ◌/◌}

pub record Narrowed (above : Bool) (place low high place' low' high' : ℕ) : Type 0 where
  pub new_low : low' ≡ cond above low place
  pub new_high : high' ≡ cond above place high
  pub new_place : place' ≡ (low' + high') / 2
