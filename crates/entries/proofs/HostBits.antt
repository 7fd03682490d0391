-- An address without its host bits. What is cut to some bits and then to fewer is as if cut to the fewer at once; where no bit beyond a
-- length is 1, none is beyond a greater one.
-- Assumes nothing.
use mathlib.Core.Path.{◌≡◌, ◌∙◌}
use Prim.Native.Nat.{ℕ, ◌+◌, ◌-◌, ◌*◌, ◌/◌, ◌%◌, ◌^◌, ◌≤◌, ◌<◌}
use native.Mathlib.Nat.{add-zero, mod-lt, mod-le, div-add-mod'}
use native.Mathlib.Omega.{arith}
use lib.Pow.{pow_pos, shl-shr, low, mod-pow-add}
use Rattle.cidr.specs.Prefix.{size, host_bits}

pub size_pos : (len : ℕ) → 0 < size len
unfolding size
size_pos len = pow_pos (32 - len)

pub host_bits_lt : (len a : ℕ) → host_bits len a < size len
unfolding host_bits
host_bits_lt len a = mod-lt a (size_pos len)

pub host_bits_le : (len a : ℕ) → host_bits len a ≤ a
unfolding host_bits
host_bits_le len a = mod-le a (size len)

module _ (a j n : ℕ) where
  high : a - a % 2 ^ n ≡ a / 2 ^ n * 2 ^ n
  high = omega (arith, div-add-mod' a (2 ^ n))

  -- with its last n bits cut off, a number has lost those and no other of its last j + n
  high_mod : (a - a % 2 ^ n) % 2 ^ (j + n) ≡ (a / 2 ^ n % 2 ^ j) * 2 ^ n
  high_mod =
      rw high (mod-pow-add (a / 2 ^ n * 2 ^ n) j n
      ∙ rw (shl-shr (a / 2 ^ n) n, rw add-zero at (low (a / 2 ^ n) n {lo = 0} (pow_pos n)), add-zero))

  twice : (a - a % 2 ^ n) - (a - a % 2 ^ n) % 2 ^ (j + n) ≡ a - a % 2 ^ (j + n)
  twice = omega (arith, high_mod, mod-pow-add a j n)

module _ (len l a : ℕ) (le : l ≤ len) where
  apart : 32 - l ≡ (32 - l) - (32 - len) + (32 - len)
  apart = omega arith

  pub cut_twice : (a - host_bits len a) - host_bits l (a - host_bits len a) ≡ a - host_bits l a
  unfolding host_bits size
  cut_twice = rw apart (twice a ((32 - l) - (32 - len)) (32 - len))

  pub host_bits_fall : host_bits len a ≤ host_bits l a
  unfolding host_bits size
  host_bits_fall = rw apart (omega (arith, mod-pow-add a ((32 - l) - (32 - len)) (32 - len)))
