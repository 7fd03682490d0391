-- Numbers that ascend: the first is below the next and below all others, and so is each of those behind it.
-- Assumes nothing.
use mathlib.Core.Path.{◌≡◌, refl}
use mathlib.Core.Bool.{true}
use mathlib.Core.List.{List, [], ◌∷◌}
use Prim.Native.Nat.{ℕ, zero, suc, ◌+◌, ◌<◌}
use native.Mathlib.Nat.{suc-add}
use native.Mathlib.Omega.{arith}
use lib.ListN.{length, get_or, drop}
use borrow.Author.Tests.{ltb-true, lt-ltb}
use Rattle.ground.proofs.Truth.{and_left, and_right, and_both}
use Rattle.ground.specs.Column.{below, ascends}

pub ascends_rest : (x : ℕ) (xs : List ℕ) → ascends (x ∷ xs) ≡ true → ascends xs ≡ true
unfolding ascends
ascends_rest x xs a = and_right (below x xs) (ascends xs) a

pub ascends_next : (x y : ℕ) (ys : List ℕ) → ascends (x ∷ y ∷ ys) ≡ true → x < y
unfolding ascends
ascends_next x y ys a = ltb-true x y (and_left (below x (y ∷ ys)) (ascends (y ∷ ys)) a)

pub ascends_drop : (i : ℕ) (xs : List ℕ) → ascends xs ≡ true → ascends (drop i xs) ≡ true
ascends_drop zero xs a = a
ascends_drop (suc i) [] a = a
ascends_drop (suc i) (x ∷ xs) a = ascends_drop i xs (ascends_rest x xs a)

first_least : (x : ℕ) (xs : List ℕ) → ascends (x ∷ xs) ≡ true → (j : ℕ) → j < length xs → x < get_or xs j 0
first_least x [] a j l = absurd (omega arith)
first_least x (y ∷ ys) a zero l = ascends_next x y ys a
first_least x (y ∷ ys) a (suc j) l =
    omega (arith, ascends_next x y ys a, first_least y ys (ascends_rest x (y ∷ ys) a) j (omega arith))

pub ascends_at : (xs : List ℕ) → ascends xs ≡ true → (i j : ℕ) → i < j → j < length xs → get_or xs i 0 < get_or xs j 0
ascends_at [] a i j l m = absurd (omega arith)
ascends_at (x ∷ xs) a i zero l m = absurd (omega arith)
ascends_at (x ∷ xs) a zero (suc j) l m = first_least x xs a j (omega arith)
ascends_at (x ∷ xs) a (suc i) (suc j) l m = ascends_at xs (ascends_rest x xs a) i j (omega arith) (omega arith)

-- numbers each below the next ascend
pub ascends_of : (xs : List ℕ) → ((i : ℕ) → i + 1 < length xs → get_or xs i 0 < get_or xs (i + 1) 0) → ascends xs ≡ true
unfolding ascends
ascends_of [] h = refl
ascends_of (x ∷ []) h = refl
ascends_of (x ∷ y ∷ ys) h =
    and_both (lt-ltb x y (h 0 (omega arith))) (ascends_of (y ∷ ys) (λ i l. rw suc-add at (h (suc i) (omega arith))))
