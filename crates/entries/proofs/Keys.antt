-- Ascending keys: each is below all behind it, a key that is among them stands at its place, which is how many are below it, and the place
-- right behind that is how many aren't above it.
-- Assumes nothing.
use mathlib.Core.Path.{◌≡◌, refl, sym, ap, ◌∙◌}
use mathlib.Core.Logic.{⊎_elim}
use mathlib.Core.Bool.{true, false}
use mathlib.Core.List.{List, [], ◌∷◌}
use Prim.Native.Nat.{ℕ, zero, suc, ◌+◌, ◌≤◌, ◌<◌}
use native.Mathlib.Omega.{arith}
use lib.ListN.{length, get_or}
use lib.Dec.{ltb, eqb}
use lib.Arith.{lt_of_le-ne}
use borrow.Author.Tests.{ltb-true, ltb-false, eqb-true, eqb-false, lt-ltb, le-ltb, eq-eqb, ne_eqb}
use Rattle.ground.specs.Column.{below, ascends, is_in, lower}
use Rattle.ground.specs.Stretch.{among}
use Rattle.entries.proofs.Decided.{decided, never_both, and_left, and_right}

-- where a key stands to another
pub data Order (k x : ℕ) : Type 0 where
  before : k < x → Order k x
  same : k ≡ x → Order k x
  after : x < k → Order k x

pub order : (k x : ℕ) → Order k x
order k x = ⊎_elim
    (λ e. before (ltb-true k x e))
    (λ e. ⊎_elim
    (λ q. same (eqb-true k x q))
    (λ q. after (lt_of_le-ne (ltb-false k x e) (λ o. eqb-false k x q (sym o))))
    (decided (eqb k x)))
    (decided (ltb k x))

module _ (x : ℕ) (xs : List ℕ) where
  pub ascends_rest : ascends (x ∷ xs) ≡ true → ascends xs ≡ true
  unfolding ascends
  ascends_rest a = and_right (below x xs) (ascends xs) a

  pub ascends_next : (y : ℕ) (ys : List ℕ) → ascends (x ∷ y ∷ ys) ≡ true → x < y
  unfolding ascends
  ascends_next y ys a = ltb-true x y (and_left (below x (y ∷ ys)) (ascends (y ∷ ys)) a)

first_least : (x : ℕ) (xs : List ℕ) → ascends (x ∷ xs) ≡ true → (j : ℕ) → j < length xs → x < get_or xs j 0
first_least x [] a j l = absurd (omega arith)
first_least x (y ∷ ys) a zero l = ascends_next x (y ∷ ys) y ys a
first_least x (y ∷ ys) a (suc j) l =
    omega (arith, ascends_next x (y ∷ ys) y ys a, first_least y ys (ascends_rest x (y ∷ ys) a) j (omega arith))

pub ascends_at : (xs : List ℕ) → ascends xs ≡ true → (i j : ℕ) → i < j → j < length xs → get_or xs i 0 < get_or xs j 0
ascends_at [] a i j l m = absurd (omega arith)
ascends_at (x ∷ xs) a i zero l m = absurd (omega arith)
ascends_at (x ∷ xs) a zero (suc j) l m = first_least x xs a j (omega arith)
ascends_at (x ∷ xs) a (suc i) (suc j) l m = ascends_at xs (ascends_rest x xs a) i j (omega arith) (omega arith)

module _ (k : ℕ) where
  pub lower_nil : lower k [] ≡ 0
  unfolding lower among
  lower_nil = refl

  pub lower_past : (x : ℕ) (xs : List ℕ) → x < k → lower k (x ∷ xs) ≡ suc (lower k xs)
  unfolding lower among
  lower_past x xs l = rw (lt-ltb x k l)

  lower_skip : (x : ℕ) (xs : List ℕ) → k ≤ x → lower k (x ∷ xs) ≡ lower k xs
  unfolding lower among
  lower_skip x xs l = rw (le-ltb x k l)

  pub lower_none : (x : ℕ) (xs : List ℕ) → ascends (x ∷ xs) ≡ true → k ≤ x → lower k (x ∷ xs) ≡ 0
  unfolding lower among
  lower_none x [] a l = lower_skip x [] l
  lower_none x (y ∷ ys) a l =
      lower_skip x (y ∷ ys) l ∙ lower_none y ys (ascends_rest x (y ∷ ys) a) (omega (arith, ascends_next x (y ∷ ys) y ys a))

  pub in_past : (x : ℕ) (xs : List ℕ) → x < k → is_in k (x ∷ xs) ≡ is_in k xs
  unfolding is_in
  in_past x xs l = rw (ne_eqb k x (λ e. omega arith))

  pub in_here : (x : ℕ) (xs : List ℕ) → k ≡ x → is_in k (x ∷ xs) ≡ true
  unfolding is_in
  in_here x xs e = rw (eq-eqb k x e)

  pub in_none : (x : ℕ) (xs : List ℕ) → ascends (x ∷ xs) ≡ true → k < x → is_in k (x ∷ xs) ≡ false
  unfolding is_in
  in_none x [] a l = rw (ne_eqb k x (λ e. omega arith))
  in_none x (y ∷ ys) a l =
      rw (ne_eqb k x (λ e. omega arith)) (in_none y ys (ascends_rest x (y ∷ ys) a) (omega (arith, ascends_next x (y ∷ ys) y ys a)))

  -- a key that is among the others stands at its place
  pub at_place : (xs : List ℕ) → ascends xs ≡ true → is_in k xs ≡ true → (lower k xs < length xs) × (get_or xs (lower k xs) 0 ≡ k)
  unfolding is_in
  at_place [] a e = never_both e refl
  at_place (x ∷ xs) a e = go (order k x) (at_place xs (ascends_rest x xs a))
    where
      go : Order k x → (is_in k xs ≡ true → (lower k xs < length xs) × (get_or xs (lower k xs) 0 ≡ k))
          → (lower k (x ∷ xs) < suc (length xs)) × (get_or (x ∷ xs) (lower k (x ∷ xs)) 0 ≡ k)
      go (before l) rec = never_both e (in_none x xs a l)
      go (same q) rec = rw (lower_none x xs a (omega arith)) (omega arith, sym q)
      go (after l) rec = let w = rec (sym (in_past x xs l) ∙ e) in rw (lower_past x xs l) (omega (arith, w.0), w.1)

  -- what stands at a place is a key that is among them
  pub placed_in : (xs : List ℕ) (i : ℕ) → i < length xs → get_or xs i 0 ≡ k → is_in k xs ≡ true
  unfolding is_in
  placed_in [] i l e = absurd (omega arith)
  placed_in (x ∷ xs) zero l e = in_here x xs (sym e)
  placed_in (x ∷ xs) (suc i) l e = rw (placed_in xs i (omega arith) e) (⊎_elim (λ q. rw q) (λ q. rw q) (decided (eqb k x)))

-- how many keys aren't above k
module _ (k : ℕ) where
  alone : (x : ℕ) (xs : List ℕ) → ascends (x ∷ xs) ≡ true → k ≡ x → lower (suc k) xs ≡ 0
  unfolding lower among
  alone x [] a q = refl
  alone x (y ∷ ys) a q = lower_none (suc k) y ys (ascends_rest x (y ∷ ys) a) (omega (arith, ascends_next x (y ∷ ys) y ys a))

  pub behind_at : (xs : List ℕ) → ascends xs ≡ true → is_in k xs ≡ true → lower k xs + 1 ≡ lower (suc k) xs
  unfolding is_in
  behind_at [] a e = never_both e refl
  behind_at (x ∷ xs) a e = go (order k x) (behind_at xs (ascends_rest x xs a))
    where
      go : Order k x → (is_in k xs ≡ true → lower k xs + 1 ≡ lower (suc k) xs) → lower k (x ∷ xs) + 1 ≡ lower (suc k) (x ∷ xs)
      go (before l) rec = never_both e (in_none k x xs a l)
      go (same q) rec = rw (lower_none k x xs a (omega arith), lower_past (suc k) x xs (omega arith), alone x xs a q)
      go (after l) rec =
          let w = rec (sym (in_past k x xs l) ∙ e) in
          rw (lower_past k x xs l, lower_past (suc k) x xs (omega arith)) (omega arith)

  pub behind_missing : (xs : List ℕ) → ascends xs ≡ true → is_in k xs ≡ false → lower k xs ≡ lower (suc k) xs
  unfolding lower among
  behind_missing [] a e = refl
  behind_missing (x ∷ xs) a e = go (order k x) (behind_missing xs (ascends_rest x xs a))
    where
      go : Order k x → (is_in k xs ≡ false → lower k xs ≡ lower (suc k) xs) → lower k (x ∷ xs) ≡ lower (suc k) (x ∷ xs)
      go (before l) rec = lower_none k x xs a (omega arith) ∙ sym (lower_none (suc k) x xs a l)
      go (same q) rec = never_both (in_here k x xs q) e
      go (after l) rec =
          lower_past k x xs l ∙ ap suc (rec (sym (in_past k x xs l) ∙ e)) ∙ sym (lower_past (suc k) x xs (omega arith))
