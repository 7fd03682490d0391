-- Rule 14.1: a figure is what the definitions compute, and the numbers that are stated for it.
-- Assumes nothing.
use Rattle.std.specs.Prelude.{Bool, true, false, ◌&&◌, List, [], ◌∷◌, ℕ}
use Rattle.ground.specs.Slots.{same}
use Rattle.cidr.specs.Prefix.{dotted, key_of}
use Rattle.routes.specs.Row.{Row, row}

pub record Figure : Type 0 where
  pub computed : List ℕ
  pub stated : List ℕ

abbrev pub figure : List ℕ → List ℕ → Figure
figure c s = record { computed = c; stated = s }

-- a figure of one number
abbrev pub one : ℕ → ℕ → Figure
one c s = figure (c ∷ []) (s ∷ [])

-- a figure of a test that passes, and of one that does not
abbrev pub as_number : Bool → ℕ
as_number true = 1
as_number false = 0

abbrev pub passes : Bool → Figure
passes b = one (as_number b) 1

abbrev pub fails : Bool → Figure
fails b = one (as_number b) 0

-- every figure of a table is as it is stated
unfoldable pub all_hold : List Figure → Bool
all_hold [] = true
all_hold (f ∷ fs) = same f.computed f.stated && all_hold fs

-- the prefix a.b.c.d/len, and a row of it
abbrev pub prefix : ℕ → ℕ → ℕ → ℕ → ℕ → ℕ
prefix a b c d len = key_of (dotted a b c d) len

abbrev pub route : ℕ → ℕ → ℕ → ℕ → ℕ → ℕ → Row
route a b c d len h = row (prefix a b c d len) h
