-- The laws by which `picked` is read: number by number, and in two parts.
-- Assumes nothing.
use Rattle.std.specs.Prelude.{◌≡◌, refl, Bool, true, false, List, [], ◌++◌, ℕ, zero, suc, ◌+◌, ◌≤◌, ◌<◌}
use Rattle.std.proofs.Common.{zero-add, add-zero, suc-add, add-suc, arith}
use Rattle.ground.specs.Stretch.{stretch, among, picked, keep}

pub picked_is : (p : ℕ → Bool) (lo n : ℕ) → picked p lo n ≡ among p (stretch lo n)
unfolding picked
picked_is p lo n = refl

pub picked_none : (p : ℕ → Bool) (lo : ℕ) → picked p lo zero ≡ []
unfolding picked among stretch
picked_none p lo = refl

-- one number at the front
pub picked_suc : (p : ℕ → Bool) (lo n : ℕ) → picked p lo (suc n) ≡ keep (p lo) lo (picked p (suc lo) n)
unfolding picked among stretch
picked_suc p lo n = refl

-- the first m numbers, and the n after them
pub picked_cut : (p : ℕ → Bool) (lo m n : ℕ) → picked p lo (m + n) ≡ picked p lo m ++ picked p (lo + m) n
picked_cut p lo zero n = rw (zero-add, add-zero, picked_none)
picked_cut p lo (suc m) n = simp (suc-add, add-suc, picked_suc, picked_cut p (suc lo) m n) (go (p lo) (picked p (suc lo) m))
  where
    go : (b : Bool) (xs : List ℕ) → keep b lo (xs ++ picked p (suc (lo + m)) n) ≡ keep b lo xs ++ picked p (suc (lo + m)) n
    go true xs = refl
    go false xs = refl

-- tests that agree on the stretch pick the same numbers
pub picked_agree : (p q : ℕ → Bool) (lo n : ℕ) → ((a : ℕ) → lo ≤ a → a < lo + n → p a ≡ q a) → picked p lo n ≡ picked q lo n
picked_agree p q lo zero h = simp picked_none
picked_agree p q lo (suc n) h =
    let rest = picked_agree p q (suc lo) n (λ a ge lt. h a (omega arith) (omega arith)) in
    simp picked_suc (rw (h lo (omega arith) (omega arith), rest))

-- a stretch of which no number passes has nothing to pick
pub picked_empty : (p : ℕ → Bool) (lo n : ℕ) → ((a : ℕ) → lo ≤ a → a < lo + n → p a ≡ false) → picked p lo n ≡ []
picked_empty p lo zero h = picked_none p lo
picked_empty p lo (suc n) h =
    rw (picked_suc, h lo (omega arith) (omega arith)) (picked_empty p (suc lo) n (λ a ge lt. h a (omega arith) (omega arith)))
