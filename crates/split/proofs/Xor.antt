-- The XOR that makes a label and the XOR that undoes it: digit by digit the first half's hop is put in twice, and so drops out.
-- Assumes nothing.
use mathlib.Core.Path.{◌≡◌, refl, ◌∙◌}
use Prim.Native.Nat.{ℕ, zero, suc, ◌/◌, ◌%◌, ◌<◌}
use native.Mathlib.Omega.{arith}
use lib.Arith.{bin_ind}
use lib.Bits.{bit_xor, differ, xor_step, xor_zero_r, xor_shr, xor_mod, xor_lt}

digit_undone : (x y : ℕ) → x < 2 → y < 2 → differ y (bit_xor x y) ≡ x
digit_undone zero zero l m = refl
digit_undone zero (suc zero) l m = refl
digit_undone zero (suc (suc y)) l m = absurd (omega arith)
digit_undone (suc zero) zero l m = refl
digit_undone (suc zero) (suc zero) l m = refl
digit_undone (suc zero) (suc (suc y)) l m = absurd (omega arith)
digit_undone (suc (suc x)) y l m = absurd (omega arith)

pub xor_undone : (h r : ℕ) → bit_xor h (bit_xor r h) ≡ r
xor_undone = bin_ind (λ (h : ℕ). (r : ℕ) → bit_xor h (bit_xor r h) ≡ r) xor_zero_r step
  where
    step : (h : ℕ) → ((r : ℕ) → bit_xor (h / 2) (bit_xor r (h / 2)) ≡ r) → (r : ℕ) → bit_xor h (bit_xor r h) ≡ r
    step h rec r =
        xor_step h (bit_xor r h)
        ∙ rw (xor_shr r h 1, xor_mod r h 1, rec (r / 2), digit_undone (r % 2) (h % 2) (omega arith) (omega arith)) (omega arith)

-- a label is a number of 16 bits, as hops are
pub label_small : (a b : ℕ) → a < 65536 → b < 65536 → bit_xor a b < 65536
label_small = xor_lt 16
