-- A number's decimal digits read back: they are digits with no zero in front, they end where no digit follows, and their value is the number.
-- Each fact goes by the number's digits (`by_digits`): it holds of one digit, and with the digits of a tenth for those and one more.
-- Assumes nothing.
use mathlib.Core.Path.{◌≡◌, refl, ◌∙◌}
use mathlib.Core.Logic.{⊎_elim}
use mathlib.Core.Bool.{Bool, true, false, not, and-false}
use mathlib.Core.List.{List, [], ◌∷◌, ◌++◌, append-nil}
use Prim.Native.Nat.{ℕ, zero, suc, ◌+◌, ◌-◌, ◌*◌, ◌/◌, ◌%◌, ◌≤◌, ◌<◌}
use native.Mathlib.Nat.{le_refl}
use native.Mathlib.Omega.{arith}
use lib.ListN.{length}
use lib.Dec.{ltb}
use borrow.Author.Tests.{ltb-true, ltb-false, le-leb, ne_eqb}
use Rattle.ground.proofs.Truth.{decided, and_both, not-true}
use Rattle.rows.specs.Rows.{digit0}
use Rattle.rows.specs.Reading.{is_digit, digits, after_digits, begins, zero_in_front, value_from}
use Rattle.digits.specs.Digits.{decimal}
use Rattle.digits.proofs.Decimal.{decimal_small, decimal_step, one_digit}

-- what holds of one digit, and of one digit more behind those of a tenth, holds of every number's digits
module _ (P : ℕ → List ℕ → Type 0) (one : (n : ℕ) → n < 10 → P n ((48 + n) ∷ []))
    (more : (n : ℕ) → 10 ≤ n → P (n / 10) (decimal (n / 10)) → P n (decimal (n / 10) ++ (48 + n % 10) ∷ [])) where
  up_to : (f n : ℕ) → n ≤ f → P n (decimal n)
  up_to zero n l = rw (decimal_small n (omega arith)) (one n (omega arith))
  up_to (suc f) n l = ⊎_elim
      (λ e. rw (decimal_small n (ltb-true n 10 e)) (one n (ltb-true n 10 e)))
      (λ e. let big = ltb-false n 10 e in rw (decimal_step n big) (more n big (up_to f (n / 10) (omega arith))))
      (decided (ltb n 10))

  by_digits : (n : ℕ) → P n (decimal n)
  by_digits n = up_to n n (le_refl n)

-- every byte is a digit
abbrev pub AllDigits : List ℕ → Type 0
AllDigits [] = Unit {0}
AllDigits (d ∷ ds) = (is_digit d ≡ true) × AllDigits ds

digit_of : (n : ℕ) → n < 10 → is_digit (48 + n) ≡ true
digit_of n l = and_both (le-leb 48 (48 + n) (omega arith)) (le-leb (48 + n) 57 (omega arith))

digits_snoc : (ds : List ℕ) (d : ℕ) → AllDigits ds → is_digit d ≡ true → AllDigits (ds ++ d ∷ [])
digits_snoc [] d a e = (e, tt)
digits_snoc (x ∷ xs) d a e = (a.0, digits_snoc xs d a.1 e)

pub decimal_digits : (n : ℕ) → AllDigits (decimal n)
decimal_digits = by_digits (λ n ds. AllDigits ds) (λ n l. (digit_of n l, tt))
    (λ n l rec. digits_snoc (decimal (n / 10)) (48 + n % 10) rec (digit_of (n % 10) (omega arith)))

-- the digits at the front end where no digit follows
module _ (rest : List ℕ) where
  digits_then : (ds : List ℕ) → AllDigits ds → digits (ds ++ rest) ≡ ds ++ digits rest
  unfolding digits
  digits_then [] a = refl
  digits_then (d ∷ ds) a = rw (a.0, digits_then ds a.1)

  after_then : (ds : List ℕ) → AllDigits ds → after_digits (ds ++ rest) ≡ after_digits rest
  unfolding after_digits
  after_then [] a = refl
  after_then (d ∷ ds) a = rw a.0 (after_then ds a.1)

-- no digit stands at the front
abbrev pub no_digit : List ℕ → Bool
no_digit [] = true
no_digit (b ∷ bs) = not (is_digit b)

none_first : (bs : List ℕ) → no_digit bs ≡ true → (digits bs ≡ []) × (after_digits bs ≡ bs)
unfolding digits after_digits
none_first [] e = (refl, refl)
none_first (b ∷ bs) e = let other = not-true (is_digit b) e in (rw other, rw other)

module _ (n : ℕ) (rest : List ℕ) (e : no_digit rest ≡ true) where
  pub decimal_read : digits (decimal n ++ rest) ≡ decimal n
  decimal_read = digits_then rest (decimal n) (decimal_digits n) ∙ rw ((none_first rest e).0, append-nil)

  pub decimal_after : after_digits (decimal n ++ rest) ≡ rest
  decimal_after = after_then rest (decimal n) (decimal_digits n) ∙ (none_first rest e).1

-- the value
value_snoc : (v d : ℕ) (ds : List ℕ) → value_from v (ds ++ d ∷ []) ≡ value_from v ds * 10 + (d - 48)
unfolding value_from
value_snoc v d [] = refl
value_snoc v d (x ∷ xs) = value_snoc (v * 10 + (x - 48)) d xs

pub decimal_value : (n : ℕ) → value_from 0 (decimal n) ≡ n
unfolding value_from
decimal_value = by_digits (λ n ds. value_from 0 ds ≡ n) (λ n l. omega arith)
    (λ n l rec. value_snoc 0 (48 + n % 10) (decimal (n / 10)) ∙ omega arith)

-- There is no zero in front: of more digits than one, the first is that of a tenth, which isn't 0.
begins_then : (mark : ℕ) (ds rest : List ℕ) → 1 ≤ length ds → begins mark ds ≡ false → begins mark (ds ++ rest) ≡ false
begins_then mark [] rest l e = absurd (omega arith)
begins_then mark (d ∷ ds) rest l e = e

first_not_zero : (n : ℕ) → 1 ≤ n → begins digit0 (decimal n) ≡ false
first_not_zero = by_digits (λ n ds. 1 ≤ n → begins digit0 ds ≡ false)
    (λ n l some. ne_eqb (48 + n) digit0 (λ (e : 48 + n ≡ 48). absurd (omega arith)))
    (λ n l rec some. begins_then digit0 (decimal (n / 10)) _ (one_digit (n / 10)) (rec (omega arith)))

pub decimal_no_zero : (n : ℕ) → zero_in_front (decimal n) ≡ false
decimal_no_zero n = ⊎_elim
    (λ e. rw (decimal_small n (ltb-true n 10 e)))
    (λ e. rw (first_not_zero n (omega (arith, ltb-false n 10 e))) (and-false (ltb 1 (length (decimal n)))))
    (decided (ltb n 10))
