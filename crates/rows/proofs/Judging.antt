-- A row of the form, judged as the code does it: zeros in front, then the range, then host bits by the prefix test on the key.
-- Assumes nothing.
use mathlib.Core.Path.{◌≡◌, ap, subst}
use mathlib.Core.Logic.{⊎_elim, ◌⊎◌, inl, inr}
use mathlib.Core.Bool.{Bool, true, false, not}
use Prim.Native.Nat.{◌≤◌, ◌<◌}
use borrow.Author.Tests.{eq-eqb}
use native.Mathlib.Omega.{arith}
use Rattle.ground.specs.Numbers.{first_fault}
use Rattle.ground.proofs.Truth.{decided, never_both, not-true, not-false}
use Rattle.cidr.specs.Prefix.{key_of, length_of, host_bits, is_prefix}
use Rattle.cidr.proofs.Prefix.{Prefix, prefix_parts, length_key, network_key}
use Rattle.rows.specs.declared.parse.Values.{Values}
use Rattle.rows.specs.RowNumber.{row_zeros, row_range, row_host_bits}
use Rattle.rows.specs.Reading.{good, bad, address_of, out_of_range, has_host_bits, numbers_fault, judged_numbers}
use Rattle.rows.proofs.Reading.{in_range, good_prefix}

no_bits : (v : Values) → host_bits v.len (address_of v) ≡ 0 → has_host_bits v ≡ false
unfolding has_host_bits
no_bits v e = ap not (eq-eqb (host_bits v.len (address_of v)) 0 e)

module _ (v : Values) (e : out_of_range v ≡ false) where
  -- in range, the key is a prefix exactly where no host bit is set
  host_bits_no_prefix : has_host_bits v ≡ true → is_prefix (key_of (address_of v) v.len) ≡ false
  host_bits_no_prefix f =
      ⊎_elim (λ p. never_both f (none_set (prefix_parts _ p))) (λ p. p) (decided (is_prefix (key_of (address_of v) v.len)))
    where
      small : v.len < 64
      small = omega (arith, (in_range v e).len)

      none_set : Prefix (key_of (address_of v) v.len) → has_host_bits v ≡ false
      none_set p =
          no_bits v
          (subst (λ x. host_bits x (address_of v) ≡ 0) (length_key (address_of v) v.len small)
          (subst (λ x. host_bits (length_of (key_of (address_of v) v.len)) x ≡ 0) (network_key (address_of v) v.len small) p.aligned))

  -- so host bits are set exactly where the key is no prefix
  prefix_decides : not (is_prefix (key_of (address_of v) v.len)) ≡ has_host_bits v
  prefix_decides = go (decided (has_host_bits v))
    where
      go : (has_host_bits v ≡ true) ⊎ (has_host_bits v ≡ false) → not (is_prefix (key_of (address_of v) v.len)) ≡ has_host_bits v
      go (inl f) = rw (host_bits_no_prefix f, f)
      go (inr f) = rw (good_prefix v (in_range v e) f, f)

-- the four readings of a row of the form
module _ (zeros : Bool) (v : Values) where
  pub judged_zeros : zeros ≡ true → judged_numbers zeros v ≡ bad row_zeros
  unfolding judged_numbers numbers_fault first_fault
  judged_zeros z = rw z

  module _ (z : zeros ≡ false) where
    pub judged_range : not (out_of_range v) ≡ false → judged_numbers zeros v ≡ bad row_range
    unfolding judged_numbers numbers_fault first_fault
    judged_range n = let o = not-false (out_of_range v) n in rw (z, o)

    module _ (n : not (out_of_range v) ≡ true) where
      o : out_of_range v ≡ false
      o = not-true (out_of_range v) n

      pub judged_host_bits : is_prefix (key_of (address_of v) v.len) ≡ false → judged_numbers zeros v ≡ bad row_host_bits
      unfolding judged_numbers numbers_fault first_fault
      judged_host_bits p = rw (z, o, ← prefix_decides v o, p)

      pub judged_good : is_prefix (key_of (address_of v) v.len) ≡ true → judged_numbers zeros v ≡ good (key_of (address_of v) v.len) v.hop
      unfolding judged_numbers numbers_fault first_fault
      judged_good p = rw (z, o, ← prefix_decides v o, p)

-- in range, the hop is a u16
pub hop_fits : (v : Values) → not (out_of_range v) ≡ true → v.hop ≤ 65535
hop_fits v n = (in_range v (not-true (out_of_range v) n)).hop_fits

-- what the readings and the fit of the hop need
pub ruleset judgements = (judged_zeros, judged_range, judged_host_bits, judged_good, hop_fits)
