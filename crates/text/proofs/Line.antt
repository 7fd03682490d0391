-- A row's line, its text without the LF, reads back: its six numbers have the digits that the form allows, no zero in front and their marks
-- after them, and their values are the row's octets, length and hop, so the row is good with its own key and hop.
-- Assumes nothing.
use mathlib.Core.Path.{◌≡◌, refl, ap, ◌∙◌}
use mathlib.Core.Bool.{true, false, not, ◌&&◌}
use mathlib.Core.List.{List, [], ◌∷◌, ◌++◌, map, append-nil, append_assoc}
use mathlib.Core.Option.{some}
use Prim.Native.Nat.{ℕ, suc, ◌/◌, ◌%◌, ◌^◌, ◌≤◌, ◌<◌}
use native.Mathlib.Omega.{arith}
use lib.ListN.{length}
use borrow.Author.Tests.{le-leb, le-ltb, ne_eqb, eq-eqb}
use Rattle.ground.specs.Numbers.{first_fault}
use Rattle.ground.proofs.Truth.{and_both}
use Rattle.cidr.specs.Prefix.{dotted, network, length_of, is_prefix}
use Rattle.cidr.proofs.Prefix.{Prefix, prefix_parts, key_split}
use Rattle.routes.specs.Row.{Row}
use Rattle.rows.specs.Rows.{LF, dot, slash, space}
use Rattle.rows.specs.Reading.{is_digit, digits, after_digits, is_number, begins, Field, field, form, before, fields_of}
use Rattle.rows.specs.Reading.{has_zero_in_front, value_from, in_places, values_of, out_of_range, has_host_bits, good, numbers_fault, judged_numbers, judged, read_row}
use Rattle.digits.specs.Digits.{decimal, dotted_text, row_text}
use Rattle.digits.proofs.Decimal.{one_digit, digits_at_most}
use Rattle.text.proofs.DecimalReads.{decimal_read, decimal_after, decimal_value, decimal_no_zero}

-- a number with the mark after it
abbrev marked : ℕ → ℕ → List ℕ → List ℕ
marked n mark rest = decimal n ++ mark ∷ rest

-- a row's line, `a.b.c.d/len hop`
unfoldable pub line : Row → List ℕ
line r =
    let net = network r.key in
    marked (net / 16777216) dot
    (marked (net / 65536 % 256) dot
    (marked (net / 256 % 256) dot
    (marked (net % 256) slash
    (marked (length_of r.key) space (decimal r.hop)))))

-- its six numbers
abbrev numbers_in : Row → List ℕ
numbers_in r =
    let net = network r.key in
    net / 16777216 ∷ net / 65536 % 256 ∷ net / 256 % 256 ∷ net % 256 ∷ length_of r.key ∷ r.hop ∷ []

past_mark : (xs ys zs : List ℕ) (m : ℕ) → (xs ++ m ∷ ys) ++ zs ≡ xs ++ m ∷ (ys ++ zs)
past_mark xs ys zs m = append_assoc xs (m ∷ ys) zs

pub row_text_lem : (r : Row) → row_text r ≡ line r ++ LF ∷ []
unfolding row_text dotted_text line
row_text_lem r = simp past_mark

-- one number of the form
module _ (m mark n : ℕ) (fs : List Field) (rest : List ℕ) (e : is_digit mark ≡ false) (l : n < 10 ^ suc m) where
  of_form : (is_number (suc m) (digits (marked n mark rest)) && begins mark (after_digits (marked n mark rest))) ≡ true
  of_form =
      rw (decimal_read n (mark ∷ rest) (ap not e), decimal_after n (mark ∷ rest) (ap not e))
      (and_both (and_both (le-leb 1 (length (decimal n)) (one_digit n)) (le-leb (length (decimal n)) (suc m) (digits_at_most m n l)))
      (eq-eqb mark mark refl))

  field_read : fields_of (field (suc m) mark ∷ fs) (marked n mark rest) ≡ before (decimal n) (fields_of fs rest)
  unfolding fields_of
  field_read = rw (of_form, fields_of, decimal_read n (mark ∷ rest) (ap not e), decimal_after n (mark ∷ rest) (ap not e))

-- the hop
hop_read : (n : ℕ) → n < 100000 → fields_of [] (decimal n) ≡ some (decimal n ∷ [])
unfolding fields_of
hop_read n l =
    let read : digits (decimal n) ≡ decimal n = rw append-nil at (decimal_read n [] refl) in
    let after : after_digits (decimal n) ≡ [] = rw append-nil at (decimal_after n [] refl) in
    rw (read, after, le-leb 1 (length (decimal n)) (one_digit n), le-leb (length (decimal n)) 5 (digits_at_most 4 n (omega arith)))

-- the values of the numbers' digits are the numbers
values_back : (ns : List ℕ) → map (value_from 0) (map decimal ns) ≡ ns
values_back [] = refl
values_back (n ∷ ns) = rw (decimal_value n, values_back ns)

-- none of them has a zero in front
no_zeros : (ns : List ℕ) → has_zero_in_front (map decimal ns) ≡ false
unfolding has_zero_in_front
no_zeros [] = refl
no_zeros (n ∷ ns) = rw (decimal_no_zero n) (no_zeros ns)

address_is : (net : ℕ) → dotted (net / 16777216) (net / 65536 % 256) (net / 256 % 256) (net % 256) ≡ net
address_is net = omega arith

module _ (r : Row) (e : is_prefix r.key ≡ true) (given : r.hop ≡ 0 → ⊥) (small : r.hop < 65536) where
  parts : Prefix r.key
  parts = prefix_parts r.key e

  top : network r.key / 16777216 ≤ 255
  top = omega (arith, parts.within)

  fields_are : fields_of form (line r) ≡ some (map decimal (numbers_in r))
  unfolding line
  fields_are =
      let net = network r.key in
      rw (
        field_read 2 dot (net / 16777216) _ _ refl (omega (arith, top)),
        field_read 2 dot (net / 65536 % 256) _ _ refl (omega arith),
        field_read 2 dot (net / 256 % 256) _ _ refl (omega arith),
        field_read 2 slash (net % 256) _ _ refl (omega arith),
        field_read 1 space (length_of r.key) _ _ refl (omega arith),
        hop_read r.hop (omega arith),
      )

  in_range : out_of_range (in_places (numbers_in r)) ≡ false
  unfolding out_of_range in_places
  in_range =
      let net = network r.key in
      rw (
        le-ltb 255 (net / 16777216) top,
        le-ltb 255 (net / 65536 % 256) (omega arith),
        le-ltb 255 (net / 256 % 256) (omega arith),
        le-ltb 255 (net % 256) (omega arith),
        le-ltb 32 (length_of r.key) parts.short,
        ne_eqb r.hop 0 given,
        le-ltb 65535 r.hop (omega arith),
      )

  no_host_bits : has_host_bits (in_places (numbers_in r)) ≡ false
  unfolding has_host_bits in_places
  no_host_bits = rw (address_is (network r.key), eq-eqb _ 0 parts.aligned)

  values_good : judged_numbers false (in_places (numbers_in r)) ≡ good r.key r.hop
  unfolding judged_numbers numbers_fault first_fault in_places
  values_good = rw (in_range, no_host_bits, address_is (network r.key), key_split r.key)

  pub line_read : read_row (line r) ≡ good r.key r.hop
  unfolding read_row judged values_of
  line_read = ap judged fields_are ∙ rw (no_zeros (numbers_in r), values_back (numbers_in r)) values_good
