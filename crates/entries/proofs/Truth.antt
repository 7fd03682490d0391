-- Tests that are one, and what a choice by a test gives.
-- Assumes nothing.
use mathlib.Core.Path.{◌≡◌, refl, sym}
use mathlib.Core.Bool.{Bool, true, false, cond}

-- tests of which each makes the other true are one
pub same_test : (a b : Bool) → (a ≡ true → b ≡ true) → (b ≡ true → a ≡ true) → a ≡ b
same_test true b to from = sym (to refl)
same_test false true to from = from refl
same_test false false to from = refl

module _ {ℓ} {A : Type ℓ} {b : Bool} (x y : A) where
  pub cond_true : b ≡ true → cond b x y ≡ x
  cond_true e = rw e

  pub cond_false : b ≡ false → cond b x y ≡ y
  cond_false e = rw e
