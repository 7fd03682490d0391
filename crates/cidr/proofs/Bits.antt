-- A number with its low bits set to 0, as the code shifts it and as the definitions subtract it.
-- Assumes nothing.
use mathlib.Core.Path.{◌≡◌, sym, ap, ◌∙◌}
use mathlib.Core.Bool.{false}
use mathlib.Core.Logic.{⊎_elim}
use Prim.Native.Nat.{ℕ, ◌+◌, ◌-◌, ◌*◌, ◌/◌, ◌%◌, ◌^◌, ◌≤◌, ◌<◌}
use native.Mathlib.Nat.{div-add-mod', div-mul-le_self, mod-eq_of_lt, lt_of_le_of_lt, one-mul}
use native.Mathlib.Omega.{arith}
use lib.Dec.{eqb}
use lib.Pow.{pow-lt, shl_exact}
use borrow.Author.Tests.{eqb-true, eqb-false, eq-eqb, ne_eqb}
use borrow.Author.Tests.{lt-leb, le-leb, le-ltb, lt-ltb}
use Rattle.ground.proofs.Truth.{decided}
use Rattle.cidr.specs.Prefix.{network, length_of, size, host_bits, is_prefix, holds}

-- a shift there and back loses nothing but the low bits
pub shifted_back : (x b : ℕ) → x < 2 ^ 64 → (x / 2 ^ b * 2 ^ b) % 2 ^ 64 ≡ x / 2 ^ b * 2 ^ b
shifted_back x b h = mod-eq_of_lt (lt_of_le_of_lt (div-mul-le_self x (2 ^ b)) h)

pub cleared_is : (x b : ℕ) → x / 2 ^ b * 2 ^ b ≡ x - x % 2 ^ b
cleared_is x b = omega (arith, div-add-mod' x (2 ^ b))

-- an address shifted there and back has lost its host bits
pub shifted_host_bits : (a len : ℕ) → a < 2 ^ 64 → (a / 2 ^ (32 - len) * 2 ^ (32 - len)) % 2 ^ 64 ≡ a - host_bits len a
unfolding host_bits size
shifted_host_bits a len h = shifted_back a (32 - len) h ∙ cleared_is a (32 - len)

-- the cleared number is the number itself where the low bits are 0
pub cleared_same : (x b : ℕ) → eqb (x / 2 ^ b * 2 ^ b) x ≡ eqb (x % 2 ^ b) 0
cleared_same x b = ⊎_elim
    (λ e. eq-eqb (x / 2 ^ b * 2 ^ b) x (omega (arith, div-add-mod' x (2 ^ b), eqb-true (x % 2 ^ b) 0 e)) ∙ sym e)
    (λ e. ne_eqb (x / 2 ^ b * 2 ^ b) x (λ q. eqb-false (x % 2 ^ b) 0 e (omega (arith, div-add-mod' x (2 ^ b)))) ∙ sym e)
    (decided (eqb (x % 2 ^ b) 0))

-- the tests of a prefix as the code makes them: each answer is what the definition says
module _ (key : ℕ) where
  pub too_long : 32 < length_of key → false ≡ is_prefix key
  unfolding is_prefix
  too_long h = rw (lt-leb (length_of key) 32 h)

  module _ (short : length_of key ≤ 32) where
    pub outside : 4294967295 < network key → false ≡ is_prefix key
    unfolding is_prefix
    outside h = rw (le-leb (length_of key) 32 short, le-ltb (network key) 4294967296 (omega arith))

    pub aligned : network key ≤ 4294967295
        → eqb (network key / 2 ^ (32 - length_of key) * 2 ^ (32 - length_of key)) (network key) ≡ is_prefix key
    unfolding is_prefix host_bits size
    aligned h =
        rw (le-leb (length_of key) 32 short, lt-ltb (network key) 4294967296 (omega arith))
        (cleared_same (network key) (32 - length_of key))

pub matched : (key a : ℕ) → eqb (a / 2 ^ (32 - length_of key) * 2 ^ (32 - length_of key)) (network key) ≡ holds key a
unfolding holds host_bits size
matched key a = ap (λ x. eqb x (network key)) (cleared_is a (32 - length_of key))

-- one past the last address as the code shifts it
pub shifted_size : (key : ℕ) → (1 * 2 ^ (32 - length_of key)) % 2 ^ 64 ≡ size (length_of key)
unfolding size
shifted_size key = shl_exact 1 (32 - length_of key) 64 (omega arith) (omega arith) ∙ one-mul (2 ^ (32 - length_of key))

size_below : (len : ℕ) → size len < 2 ^ 33
unfolding size
size_below len = pow-lt {i = 32 - len} {j = 33} (omega arith)

pub end_fits : (key : ℕ) → key < 2 ^ 64 → network key + (1 * 2 ^ (32 - length_of key)) % 2 ^ 64 < 2 ^ 64
end_fits key h = rw shifted_size (omega (arith, size_below (length_of key)))
