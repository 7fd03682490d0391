-- What a reading says holds: a good row has a prefix and a hop of 1 to 65,535, and a bad row's number is 1, 6, 2 or 3.
-- Assumes nothing.
use mathlib.Core.Path.{◌≡◌, refl, sym, subst}
use mathlib.Core.Bool.{Bool, true, false, cond, ◌||◌}
use mathlib.Core.List.{List}
use mathlib.Core.Option.{Option, none, some}
use Prim.Native.Nat.{ℕ, ◌≤◌, ◌<◌}
use native.Mathlib.Omega.{arith}
use borrow.Author.Tests.{ltb-false, eqb-false, eqb-true}
use lib.Dec.{ltb, eqb, lit<}
use lib.ListN.{length}
use Rattle.ground.specs.Numbers.{first_fault}
use Rattle.ground.proofs.Truth.{or_neither, not-false}
use Rattle.cidr.specs.Prefix.{addresses, key_of, network, length_of, host_bits, is_prefix}
use Rattle.cidr.proofs.Prefix.{parts_prefix, network_key, length_key}
use Rattle.rows.specs.declared.parse.Values.{Values}
use Rattle.rows.specs.RowNumber.{row_taken, row_shape, row_zeros, row_range, row_host_bits, row_replaced, row_no_room, row_names}
use Rattle.rows.specs.Reading.{Reading, good, bad, address_of, out_of_range, has_host_bits, numbers_fault, judged_numbers}
use Rattle.rows.specs.Reading.{has_zero_in_front, values_of, judged, read_row, fields_of, form}

-- the numbers of a row are in range
pub record InRange (v : Values) : Type 0 where
  pub first : v.a ≤ 255
  pub second : v.b ≤ 255
  pub third : v.c ≤ 255
  pub fourth : v.d ≤ 255
  pub len : v.len ≤ 32
  pub hop_given : v.hop ≡ 0 → ⊥
  pub hop_fits : v.hop ≤ 65535

module _ (v : Values) (e : out_of_range v ≡ false) where
  octets : Bool
  octets = ltb 255 v.a || ltb 255 v.b || ltb 255 v.c || ltb 255 v.d

  hops : Bool
  hops = eqb v.hop 0 || ltb 65535 v.hop

  outer : ((octets || ltb 32 v.len) ≡ false) × (hops ≡ false)
  unfolding out_of_range octets hops
  outer = or_neither (octets || ltb 32 v.len) hops e

  inner : (octets ≡ false) × (ltb 32 v.len ≡ false)
  inner = or_neither octets (ltb 32 v.len) outer.0

  three : ((ltb 255 v.a || ltb 255 v.b || ltb 255 v.c) ≡ false) × (ltb 255 v.d ≡ false)
  unfolding octets
  three = or_neither (ltb 255 v.a || ltb 255 v.b || ltb 255 v.c) (ltb 255 v.d) inner.0

  two : ((ltb 255 v.a || ltb 255 v.b) ≡ false) × (ltb 255 v.c ≡ false)
  two = or_neither (ltb 255 v.a || ltb 255 v.b) (ltb 255 v.c) three.0

  one : (ltb 255 v.a ≡ false) × (ltb 255 v.b ≡ false)
  one = or_neither (ltb 255 v.a) (ltb 255 v.b) two.0

  hop_parts : (eqb v.hop 0 ≡ false) × (ltb 65535 v.hop ≡ false)
  unfolding hops
  hop_parts = or_neither (eqb v.hop 0) (ltb 65535 v.hop) outer.1

  pub in_range : InRange v
  in_range = record {
    first = ltb-false _ _ one.0;
    second = ltb-false _ _ one.1;
    third = ltb-false _ _ two.1;
    fourth = ltb-false _ _ three.1;
    len = ltb-false _ _ inner.1;
    hop_given = eqb-false _ _ hop_parts.0;
    hop_fits = ltb-false _ _ hop_parts.1;
  }

-- the numbers that a row can get by itself
pub data OwnFault : ℕ → Type 0 where
  shape : OwnFault row_shape
  zeros : OwnFault row_zeros
  range : OwnFault row_range
  host_bits_lem : OwnFault row_host_bits

-- they are in the table, and none is a number that the list decides
pub record Own (n : ℕ) : Type 0 where
  pub not_taken : n ≡ row_taken → ⊥
  pub in_table : n < length row_names
  pub not_replaced : n ≡ row_replaced → ⊥
  pub not_no_room : n ≡ row_no_room → ⊥

pub own : {n : ℕ} → OwnFault n → Own n
own shape = record { not_taken = λ e. omega arith; in_table = lit< tt; not_replaced = λ e. omega arith; not_no_room = λ e. omega arith }
own zeros = record { not_taken = λ e. omega arith; in_table = lit< tt; not_replaced = λ e. omega arith; not_no_room = λ e. omega arith }
own range = record { not_taken = λ e. omega arith; in_table = lit< tt; not_replaced = λ e. omega arith; not_no_room = λ e. omega arith }
own host_bits_lem = record { not_taken = λ e. omega arith; in_table = lit< tt; not_replaced = λ e. omega arith; not_no_room = λ e. omega arith }

-- what a reading says
abbrev pub Sound : Reading → Type 0
Sound (good k h) = (is_prefix k ≡ true) × (h ≡ 0 → ⊥) × (h ≤ 65535)
Sound (bad n) = OwnFault n

no_host_bits : (v : Values) → has_host_bits v ≡ false → host_bits v.len (address_of v) ≡ 0
unfolding has_host_bits
no_host_bits v e = eqb-true _ _ (not-false (eqb (host_bits v.len (address_of v)) 0) e)

pub good_prefix : (v : Values) → InRange v → has_host_bits v ≡ false → is_prefix (key_of (address_of v) v.len) ≡ true
good_prefix v i e = parts_prefix (key_of (address_of v) v.len) (record {
  short = subst (λ x. x ≤ 32) (sym l) i.len;
  within = subst (λ x. x < addresses) (sym n) fits;
  aligned = subst (λ x. host_bits x (network (key_of (address_of v) v.len)) ≡ 0) (sym l)
      (subst (λ x. host_bits v.len x ≡ 0) (sym n) (no_host_bits v e));
})
  where
    small : v.len < 64
    small = omega (arith, i.len)

    l : length_of (key_of (address_of v) v.len) ≡ v.len
    l = length_key (address_of v) v.len small

    n : network (key_of (address_of v) v.len) ≡ address_of v
    n = network_key (address_of v) v.len small

    fits : address_of v < addresses
    fits = omega (arith, i.first, i.second, i.third, i.fourth)

-- the first of the three faults
abbrev first_of : Bool → Bool → Bool → ℕ
first_of a b c = cond a row_zeros (cond b row_range (cond c row_host_bits row_taken))

judged_sound : (z : Bool) (v : Values) → Sound (judged_numbers z v)
unfolding judged_numbers numbers_fault first_fault
judged_sound z v = go z (out_of_range v) (has_host_bits v) refl refl
  where
    go : (a b c : Bool) → out_of_range v ≡ b → has_host_bits v ≡ c
        → Sound (cond (eqb (first_of a b c) row_taken) (good (key_of (address_of v) v.len) v.hop) (bad (first_of a b c)))
    go true b c e f = zeros
    go false true c e f = range
    go false false true e f = host_bits_lem
    go false false false e f = (good_prefix v (in_range v e) f, (in_range v e).hop_given, (in_range v e).hop_fits)

pub read_row_sound : (bytes : List ℕ) → Sound (read_row bytes)
unfolding read_row judged
read_row_sound bytes = go (fields_of form bytes)
  where
    go : (o : Option (List (List ℕ))) → Sound (judged o)
    go none = shape
    go (some ns) = judged_sound (has_zero_in_front ns) (values_of ns)
