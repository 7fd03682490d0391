-- Stretches of numbers: which of them pass a test, and how many. A stretch is its first number lo and how many numbers n it has.
-- A stretch may have 2^32 numbers, so `picked` and `counted` are shut: they are read through the laws of the modules below, never computed.
-- Assumes nothing.
use Rattle.std.specs.Prelude.{Bool, true, false, not, ◌||◌, List, [], ◌∷◌, ℕ, zero, suc, ◌-◌, length, eqb}
pub mod Laws
pub mod Picks
pub mod Count
pub mod Turns

-- the n numbers from lo on
unfoldable pub stretch : ℕ → ℕ → List ℕ
stretch lo zero = []
stretch lo (suc n) = lo ∷ stretch (suc lo) n

abbrev pub keep : Bool → ℕ → List ℕ → List ℕ
keep true x xs = x ∷ xs
keep false x xs = xs

-- those numbers of a list that pass the test
unfoldable pub among : (ℕ → Bool) → List ℕ → List ℕ
among p [] = []
among p (x ∷ xs) = keep (p x) x (among p xs)

-- those of the n numbers from lo on that pass the test, in order
pub picked : (ℕ → Bool) → ℕ → ℕ → List ℕ
picked p lo n = among p (stretch lo n)

-- how many of the n numbers from lo on pass the test
pub counted : (ℕ → Bool) → ℕ → ℕ → ℕ
counted p lo n = length (picked p lo n)

-- among the numbers from the first on, f turns at a: a is the first, or f differs there from what it was one before
unfoldable pub turns_from : ℕ → (ℕ → ℕ) → ℕ → Bool
turns_from first f a = eqb a first || not (eqb (f a) (f (a - 1)))

-- Rule 6.4: f turns at a if a is 0, or if f differs there from what it was one before.
abbrev pub turns : (ℕ → ℕ) → ℕ → Bool
turns f = turns_from 0 f
