-- The width of a segment, over keys alone.
-- Assumes nothing.
use Rattle.std.specs.Prelude.{cond, List, [], ◌∷◌, ℕ, ◌-◌, ◌/◌, max, eqb}
use Rattle.cidr.specs.Prefix.{network, length_of}

-- what one key says of the width
abbrev pub width_by : ℕ → ℕ → ℕ
width_by q k = cond (eqb (network k / 65536) q) (length_of k - 16) 0

unfoldable pub width_in : ℕ → List ℕ → ℕ
width_in q [] = 0
width_in q (k ∷ ks) = max (width_by q k) (width_in q ks)
