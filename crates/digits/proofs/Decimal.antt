-- The digits of a number in decimal: one below 10, and else those of a tenth of it and its last one. So the smallest number of k digits is
-- a power of 10, and the bound in `decimal_by` plays no part.
-- Assumes nothing.
use mathlib.Core.Path.{◌≡◌, refl, sym, ap, ◌∙◌}
use mathlib.Core.Logic.{⊎_elim}
use mathlib.Core.Bool.{Bool, true, false}
use mathlib.Core.List.{[], ◌∷◌, ◌++◌}
use Prim.Native.Nat.{ℕ, zero, suc, ◌+◌, ◌/◌, ◌%◌, ◌^◌, ◌≤◌, ◌<◌}
use native.Mathlib.Nat.{not-suc-le-zero, pow-suc, one-le-pow}
use native.Mathlib.Omega.{arith}
use lib.ListN.{length, length-append}
use lib.Dec.{ltb}
use borrow.Author.Tests.{ltb-true, ltb-false, lt-ltb, le-ltb}
use Rattle.ground.proofs.Truth.{decided}
use Rattle.digits.specs.Digits.{decimal_by, decimal}

-- a tenth is less, so the bound falls with it
tenth_less : (n f : ℕ) → 10 ≤ n → n ≤ suc f → n / 10 ≤ f
tenth_less n f l h = omega arith

pub by_small : (f n : ℕ) → n < 10 → decimal_by f n ≡ (48 + n) ∷ []
unfolding decimal_by
by_small zero n l = refl
by_small (suc f) n l = rw (lt-ltb n 10 l, decimal_by)

by_step : (f n : ℕ) → 10 ≤ n → decimal_by (suc f) n ≡ decimal_by f (n / 10) ++ (48 + n % 10) ∷ []
unfolding decimal_by
by_step f n l = rw (le-ltb n 10 l, decimal_by)

by_enough : (f g n : ℕ) → n ≤ f → n ≤ g → decimal_by f n ≡ decimal_by g n
unfolding decimal_by
by_enough zero g n hf hg = by_small zero n (omega arith) ∙ sym (by_small g n (omega arith))
by_enough (suc f) zero n hf hg = by_small (suc f) n (omega arith) ∙ sym (by_small zero n (omega arith))
by_enough (suc f) (suc g) n hf hg = go (ltb n 10) refl (λ l. by_enough f g (n / 10) (tenth_less n f l hf) (tenth_less n g l hg))
  where
    go : (b : Bool) → ltb n 10 ≡ b → (10 ≤ n → decimal_by f (n / 10) ≡ decimal_by g (n / 10)) → decimal_by (suc f) n ≡ decimal_by (suc g) n
    go true e rec = rw (e, decimal_by)
    go false e rec = rw (e, decimal_by, rec (ltb-false n 10 e))

pub decimal_small : (n : ℕ) → n < 10 → decimal n ≡ (48 + n) ∷ []
unfolding decimal
decimal_small n l = by_small n n l

pub decimal_step : (n : ℕ) → 10 ≤ n → decimal n ≡ decimal (n / 10) ++ (48 + n % 10) ∷ []
unfolding decimal
decimal_step n l = go n l refl
  where
    go : (m : ℕ) → 10 ≤ m → n ≡ m → decimal_by n n ≡ decimal_by (n / 10) (n / 10) ++ (48 + n % 10) ∷ []
    go zero h e = absurd (not-suc-le-zero h)
    go (suc m) h e =
        ap (λ k. decimal_by k n) e ∙ by_step m n l
        ∙ ap (λ ds. ds ++ (48 + n % 10) ∷ []) (by_enough m (n / 10) (n / 10) (omega arith) (omega arith))

-- how many digits there are
pub digits_small : (n : ℕ) → n < 10 → length (decimal n) ≡ 1
digits_small n l = ap length (decimal_small n l)

pub digits_step : (n : ℕ) → 10 ≤ n → length (decimal n) ≡ length (decimal (n / 10)) + 1
digits_step n l = ap length (decimal_step n l) ∙ length-append (decimal (n / 10)) _

pub one_digit : (n : ℕ) → 1 ≤ length (decimal n)
one_digit n =
    ⊎_elim (λ e. omega (arith, digits_small n (ltb-true n 10 e))) (λ e. omega (arith, digits_step n (ltb-false n 10 e)))
    (decided (ltb n 10))

-- a number that reaches a power of 10 has more digits than that has zeros, and one below a power has at most as many
pub digits_at_least : (k n : ℕ) → 10 ^ k ≤ n → suc k ≤ length (decimal n)
digits_at_least zero n l = one_digit n
digits_at_least (suc k) n l =
    let tens = pow-suc 10 k in
    let some = one-le-pow k 10 (omega arith) in
    omega (arith, digits_step n (omega arith), digits_at_least k (n / 10) (omega arith))

pub digits_at_most : (k n : ℕ) → n < 10 ^ suc k → length (decimal n) ≤ suc k
digits_at_most zero n l = omega (arith, digits_small n l)
digits_at_most (suc k) n l =
    ⊎_elim (λ e. omega (arith, digits_small n (ltb-true n 10 e)))
    (λ e. omega (arith, digits_step n (ltb-false n 10 e), digits_at_most k (n / 10) (omega (arith, pow-suc 10 (suc k)))))
    (decided (ltb n 10))
