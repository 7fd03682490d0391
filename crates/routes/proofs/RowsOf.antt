-- The rows of two slices, place by place: the row at a place, one row more, what every row passes, the rows of the slices' first slots, and
-- the first of the rows.
-- Assumes nothing.
use mathlib.Core.Path.{◌≡◌, refl, ap}
use mathlib.Core.Bool.{Bool, true}
use mathlib.Core.List.{List, [], ◌∷◌, ◌++◌}
use Prim.Native.Nat.{ℕ, zero, suc, ◌≤◌, ◌<◌}
use native.Mathlib.Omega.{arith}
use lib.ListN.{length, get_or, take}
use Rattle.ground.proofs.Truth.{and_left, and_right}
use Rattle.routes.specs.Row.{Row, row, rows_of, every}

-- the row at a place
abbrev pub row_at : List ℕ → List ℕ → ℕ → Row
row_at keys hops i = row (get_or keys i 0) (get_or hops i 0)

pub rows_suc : (i : ℕ) (keys hops : List ℕ) → i < length keys → i < length hops
    → rows_of (suc i) keys hops ≡ rows_of i keys hops ++ row_at keys hops i ∷ []
unfolding rows_of
rows_suc i [] hops l m = absurd (omega arith)
rows_suc i (k ∷ keys) [] l m = absurd (omega arith)
rows_suc zero (k ∷ keys) (h ∷ hops) l m = refl
rows_suc (suc i) (k ∷ keys) (h ∷ hops) l m = ap (row k h ∷◌) (rows_suc i keys hops (omega arith) (omega arith))

pub every_at : (p : Row → Bool) (n : ℕ) (keys hops : List ℕ) → every p (rows_of n keys hops) ≡ true
    → (i : ℕ) → i < n → i < length keys → i < length hops → p (row_at keys hops i) ≡ true
unfolding every rows_of
every_at p zero keys hops e i l m h = absurd (omega arith)
every_at p (suc n) [] hops e i l m h = absurd (omega arith)
every_at p (suc n) (k ∷ keys) [] e i l m h = absurd (omega arith)
every_at p (suc n) (k ∷ keys) (h ∷ hops) e zero l m o = and_left (p (row k h)) _ e
every_at p (suc n) (k ∷ keys) (h ∷ hops) e (suc i) l m o =
    every_at p n keys hops (and_right (p (row k h)) _ e) i (omega arith) (omega arith) (omega arith)

pub rows_taken : (n : ℕ) (keys hops : List ℕ) → rows_of n (take n keys) (take n hops) ≡ rows_of n keys hops
unfolding rows_of
rows_taken zero keys hops = refl
rows_taken (suc n) [] hops = refl
rows_taken (suc n) (k ∷ keys) [] = refl
rows_taken (suc n) (k ∷ keys) (h ∷ hops) = ap (row k h ∷◌) (rows_taken n keys hops)

pub rows_front : (k n : ℕ) (keys hops : List ℕ) → k ≤ n → take k (rows_of n keys hops) ≡ rows_of k keys hops
unfolding rows_of
rows_front zero n keys hops l = refl
rows_front (suc k) zero keys hops l = absurd (omega arith)
rows_front (suc k) (suc n) [] hops l = refl
rows_front (suc k) (suc n) (key ∷ keys) [] l = refl
rows_front (suc k) (suc n) (key ∷ keys) (hop ∷ hops) l = ap (row key hop ∷◌) (rows_front k n keys hops (omega arith))

pub row_there : (n : ℕ) (keys hops : List ℕ) (i : ℕ) (d : Row) → i < n → i < length keys → i < length hops
    → get_or (rows_of n keys hops) i d ≡ row_at keys hops i
unfolding rows_of
row_there zero keys hops i d l m h = absurd (omega arith)
row_there (suc n) [] hops i d l m h = absurd (omega arith)
row_there (suc n) (k ∷ keys) [] i d l m h = absurd (omega arith)
row_there (suc n) (k ∷ keys) (h ∷ hops) zero d l m o = refl
row_there (suc n) (k ∷ keys) (h ∷ hops) (suc i) d l m o = row_there n keys hops i d (omega arith) (omega arith) (omega arith)
