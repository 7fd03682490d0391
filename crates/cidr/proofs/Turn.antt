-- Whether a prefix holds an address changes, from one address to the next, only at the prefix's network and one past the prefix's end.
-- Assumes nothing.
use mathlib.Core.Path.{◌≡◌, refl, sym, ◌∙◌}
use mathlib.Core.Logic.{⊎_elim}
use Prim.Native.Nat.{ℕ, zero, suc, ◌+◌, ◌-◌, ◌%◌, ◌<◌}
use native.Mathlib.Nat.{suc-sub-suc, suc-mod, mod-lt, mod-le, mod-eq_of_lt, mod_self, eq-or-lt_of_le}
use native.Mathlib.Omega.{arith}
use lib.Dec.{eqb}
use lib.Pow.{pow_pos}
use borrow.Author.Tests.{ne_eqb}
use Rattle.cidr.specs.Prefix.{network, length_of, size, end_of, host_bits, holds}

-- from b to the number after it, the beginning of the number's block of s numbers changes only if a block begins with that number
base_stays : (s b net : ℕ) → 0 < s → (suc b ≡ net → ⊥) → (suc b ≡ net + s → ⊥) → eqb (suc b - suc b % s) net ≡ eqb (b - b % s) net
base_stays s b net pos start end = ⊎_elim begins stays (eq-or-lt_of_le (mod-lt b pos))
  where
    begins : suc (b % s) ≡ s → eqb (suc b - suc b % s) net ≡ eqb (b - b % s) net
    begins q =
        let host : suc b % s ≡ 0 = suc-mod b s ∙ rw q (mod_self s) in
        ne_eqb (suc b - suc b % s) net (λ e. start (omega arith)) ∙ sym (ne_eqb (b - b % s) net (λ e. end (omega (arith, mod-le b s))))

    stays : suc (b % s) < s → eqb (suc b - suc b % s) net ≡ eqb (b - b % s) net
    stays lt = rw (suc-mod, mod-eq_of_lt, suc-sub-suc)

pub holds_stays : (key a : ℕ) → (a ≡ network key → ⊥) → (a ≡ end_of key → ⊥) → holds key a ≡ holds key (a - 1)
unfolding holds host_bits size
holds_stays key zero start end = refl
holds_stays key (suc a) start end =
    let before : suc a - 1 ≡ a = omega arith in
    rw before (base_stays (size (length_of key)) a (network key) (pow_pos (32 - length_of key)) start end)
