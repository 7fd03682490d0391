-- The laws by which `counted` is read: number by number, in two parts, against other counts, and as a number's place among the picked ones.
-- Assumes nothing.
use Rattle.std.specs.Prelude.{◌≡◌, refl, Bool, true, false, cond, ◌⊎◌, ◌∷◌, ◌++◌, ℕ, zero, suc, ◌+◌, ◌-◌, ◌≤◌, ◌<◌, length, get_or, eqb}
use Rattle.std.proofs.Common.{ap, ◌∙◌, inl, ⊎_elim, arith, length-append, eqb-true, ne_eqb}
use Rattle.std.proofs.Math.Seq.{get_or-append_seam}
use Rattle.ground.specs.Stretch.{picked, counted, keep}
use Rattle.ground.specs.Stretch.Laws.{picked_none, picked_suc, picked_cut, picked_agree}

pub counted_is : (p : ℕ → Bool) (lo n : ℕ) → counted p lo n ≡ length (picked p lo n)
unfolding counted
counted_is p lo n = refl

-- one number at the front
pub counted_suc : (p : ℕ → Bool) (lo n : ℕ) → counted p lo (suc n) ≡ cond (p lo) 1 0 + counted p (suc lo) n
counted_suc p lo n = simp (counted_is, picked_suc) (go (p lo))
  where
    go : (b : Bool) → length (keep b lo (picked p (suc lo) n)) ≡ cond b 1 0 + length (picked p (suc lo) n)
    go true = omega arith
    go false = omega arith

-- the first m numbers, and the n after them
pub counted_cut : (p : ℕ → Bool) (lo m n : ℕ) → counted p lo (m + n) ≡ counted p lo m + counted p (lo + m) n
counted_cut p lo m n = simp (counted_is, picked_cut, length-append)

pub counted_agree : (p q : ℕ → Bool) (lo n : ℕ) → ((a : ℕ) → lo ≤ a → a < lo + n → p a ≡ q a) → counted p lo n ≡ counted q lo n
counted_agree p q lo n h = simp counted_is (rw (picked_agree p q lo n h))

pub counted_none : (p : ℕ → Bool) (lo n : ℕ) → ((a : ℕ) → lo ≤ a → a < lo + n → p a ≡ false) → counted p lo n ≡ 0
counted_none p lo zero h = simp (counted_is, picked_none)
counted_none p lo (suc n) h =
    let rest = counted_none p (suc lo) n (λ a ge lt. h a (omega arith) (omega arith)) in
    rw (counted_suc, h lo (omega arith) (omega arith), rest)

pub counted_all : (p : ℕ → Bool) (lo n : ℕ) → ((a : ℕ) → lo ≤ a → a < lo + n → p a ≡ true) → counted p lo n ≡ n
counted_all p lo zero h = simp (counted_is, picked_none)
counted_all p lo (suc n) h =
    let rest = counted_all p (suc lo) n (λ a ge lt. h a (omega arith) (omega arith)) in
    rw (counted_suc, h lo (omega arith) (omega arith), rest) (omega arith)

-- a test that passes only where one of two others passes counts at most what those two count
pub counted_or_le : (p q r : ℕ → Bool) (lo n : ℕ) → ((a : ℕ) → lo ≤ a → a < lo + n → p a ≡ true → (q a ≡ true) ⊎ (r a ≡ true))
    → counted p lo n ≤ counted q lo n + counted r lo n
counted_or_le p q r lo zero h = simp (counted_is, picked_none) (omega arith)
counted_or_le p q r lo (suc n) h =
    let rest = counted_or_le p q r (suc lo) n (λ a ge lt. h a (omega arith) (omega arith)) in
    simp counted_suc (omega (arith, go (p lo) (q lo) (r lo) (h lo (omega arith) (omega arith))))
  where
    go : (x y z : Bool) → (x ≡ true → (y ≡ true) ⊎ (z ≡ true)) → cond x 1 0 ≤ cond y 1 0 + cond z 1 0
    go false y z k = omega arith
    go true y z k = ⊎_elim (λ (e : y ≡ true). rw e (omega arith)) (λ (e : z ≡ true). rw e (omega arith)) (k refl)

pub counted_le : (p q : ℕ → Bool) (lo n : ℕ) → ((a : ℕ) → lo ≤ a → a < lo + n → p a ≡ true → q a ≡ true) → counted p lo n ≤ counted q lo n
counted_le p q lo n h =
    let never = counted_none (λ a. false) lo n (λ a ge lt. refl) in
    omega (arith, counted_or_le p q (λ a. false) lo n (λ a ge lt e. inl (h a ge lt e)))

-- no more pass than there are
pub counted_at_most : (p : ℕ → Bool) (lo n : ℕ) → counted p lo n ≤ n
counted_at_most p lo n =
    omega (arith, counted_le p (λ a. true) lo n (λ a ge lt e. refl), counted_all (λ a. true) lo n (λ a ge lt. refl))

-- at most one number is x
pub counted_point_le : (x lo n : ℕ) → counted (λ a. eqb a x) lo n ≤ 1
counted_point_le x lo zero = simp (counted_is, picked_none) (omega arith)
counted_point_le x lo (suc n) = simp counted_suc (go (eqb lo x) refl (counted_point_le x (suc lo) n))
  where
    go : (b : Bool) → eqb lo x ≡ b → counted (λ a. eqb a x) (suc lo) n ≤ 1 → cond b 1 0 + counted (λ a. eqb a x) (suc lo) n ≤ 1
    go false e rest = omega arith
    go true e rest =
        rw (counted_none (λ a. eqb a x) (suc lo) n (λ a ge lt. ne_eqb a x (λ q. omega (arith, eqb-true lo x e)))) (omega arith)

-- a number that passes stands among the picked ones behind those that pass before it
pub picked_at : (p : ℕ → Bool) (lo n m a : ℕ) → a ≡ lo + m → m < n → p a ≡ true
    → (counted p lo m < length (picked p lo n)) × (get_or (picked p lo n) (counted p lo m) 0 ≡ a)
picked_at p lo n m a is lt e = rw (parts, counted_is) (rw length-append (omega arith), rw get_or-append_seam)
  where
    parts : picked p lo n ≡ picked p lo m ++ a ∷ picked p (suc a) (n - suc m)
    parts =
        let whole : n ≡ m + suc (n - suc m) = omega arith in
        ap (picked p lo) whole ∙ picked_cut p lo m (suc (n - suc m)) ∙ rw (← is, picked_suc, e)
