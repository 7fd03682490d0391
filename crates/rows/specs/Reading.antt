-- Rules 3.3 to 3.7: what one row says by itself. Its form is six numbers with five marks between them (3.3), and the whole form is judged
-- before anything else (3.6). A number of more than one digit may not begin with 0 (3.4). Then come the values. So a row gets the first of
-- the numbers 1, 6, 2 and 3 that fits it (3.7).
-- Assumes nothing.
use Rattle.std.specs.Prelude.{Bool, true, false, not, cond, ◌&&◌, ◌||◌, List, [], ◌∷◌, map, ℕ, ◌+◌, ◌-◌, ◌*◌, length, get_or, drop, leb, ltb, eqb, Result, Ok, Err}
use Rattle.std.proofs.Math.Option.{Option, none, some}
use Rattle.cidr.specs.Prefix.{dotted, key_of, host_bits}
use Rattle.ground.specs.Numbers.{check, first_fault}
use Rattle.rows.specs.declared.parse.Values.{Values}
use Rattle.rows.specs.declared.Row.{Row}
use Rattle.rows.specs.declared.RowFault.{RowFault}
use Rattle.rows.specs.declared.RowFault.TheVariants.{Shape, Zeros, Range, HostBits}
use Rattle.rows.specs.Rows.{dot, slash, space, digit0, digit9}
use Rattle.rows.specs.RowNumber.{row_taken, row_shape, row_zeros, row_range, row_host_bits}

-- a digit is a byte from '0' to '9'
abbrev pub is_digit : ℕ → Bool
is_digit b = leb digit0 b && leb b digit9

abbrev pub digit_if : Bool → ℕ → List ℕ → List ℕ
digit_if true b ds = b ∷ ds
digit_if false b ds = []

-- the digits at the front of some bytes, as many as there are, and the bytes after them
unfoldable pub digits : List ℕ → List ℕ
digits [] = []
digits (b ∷ bs) = digit_if (is_digit b) b (digits bs)

unfoldable pub after_digits : List ℕ → List ℕ
after_digits [] = []
after_digits (b ∷ bs) = cond (is_digit b) (after_digits bs) (b ∷ bs)

-- a number of the form is 1 to `most` digits
abbrev pub is_number : ℕ → List ℕ → Bool
is_number most ds = leb 1 (length ds) && leb (length ds) most

-- a number of the form and the byte that stands after it
pub record Field : Type 0 where
  pub most : ℕ
  pub mark : ℕ

abbrev pub field : ℕ → ℕ → Field
field m b = record { most = m; mark = b }

-- the form `a.b.c.d/len hop`: four octets, three with '.' and one with '/' after it, and the length with a space after it;
-- then the hop, after which the row ends
abbrev pub form : List Field
form = field 3 dot ∷ field 3 dot ∷ field 3 dot ∷ field 3 slash ∷ field 2 space ∷ []

abbrev pub hop_digits : ℕ
hop_digits = 5

-- the bytes begin with the mark; the bytes have ended
abbrev pub begins : ℕ → List ℕ → Bool
begins mark [] = false
begins mark (b ∷ bs) = eqb b mark

abbrev pub is_end : List ℕ → Bool
is_end [] = true
is_end (b ∷ bs) = false

-- one number's digits in front of those of the numbers after it, where these are as they must be
abbrev pub before : List ℕ → Option (List (List ℕ)) → Option (List (List ℕ))
before ds none = none
before ds (some more) = some (ds ∷ more)

-- The digits of each number of a row, where the whole row is of the form: a number, then its mark, then what follows the mark is of the
-- rest of the form; and at last the hop, with nothing after it.
unfoldable pub fields_of : List Field → List ℕ → Option (List (List ℕ))
fields_of [] bs = cond (is_number hop_digits (digits bs) && is_end (after_digits bs)) (some (digits bs ∷ [])) none
fields_of (f ∷ fs) bs =
    elim (is_number f.most (digits bs) && begins f.mark (after_digits bs)) [
      | true ↦ before (digits bs) (fields_of fs (drop 1 (after_digits bs)))
      | false ↦ none
    ]

-- Rule 3.4: the digits have a zero in front: there is more than one, and the first is '0'.
abbrev pub zero_in_front : List ℕ → Bool
zero_in_front ds = ltb 1 (length ds) && begins digit0 ds

-- Rule 3.7, number 6: one of the numbers has a zero in front.
unfoldable pub has_zero_in_front : List (List ℕ) → Bool
has_zero_in_front [] = false
has_zero_in_front (ds ∷ more) = zero_in_front ds || has_zero_in_front more

-- the value of digits, read as decimal from the first on
unfoldable pub value_from : ℕ → List ℕ → ℕ
value_from v [] = v
value_from v (d ∷ ds) = value_from (v * 10 + (d - digit0)) ds

-- the values of the six numbers of a row of the form, by their places
unfoldable pub in_places : List ℕ → Values
in_places vs = record { a = get_or vs 0 0; b = get_or vs 1 0; c = get_or vs 2 0; d = get_or vs 3 0; len = get_or vs 4 0; hop = get_or vs 5 0 }

unfoldable pub values_of : List (List ℕ) → Values
values_of ns = in_places (map (value_from 0) ns)

abbrev pub address_of : Values → ℕ
address_of v = dotted v.a v.b v.c v.d

-- Rule 3.7, number 2: an octet is above 255, the length is above 32, or the hop is 0 or above 65,535.
unfoldable pub out_of_range : Values → Bool
out_of_range v =
    (ltb 255 v.a || ltb 255 v.b || ltb 255 v.c || ltb 255 v.d) || ltb 32 v.len || (eqb v.hop 0 || ltb 65535 v.hop)

-- Rule 3.7, number 3: the address has a host bit that is 1.
unfoldable pub has_host_bits : Values → Bool
has_host_bits v = not (eqb (host_bits v.len (address_of v)) 0)

-- what a row says by itself: a prefix, as its key, with a hop, or its number 1, 6, 2 or 3
pub data Reading : Type 0 where
  good : ℕ → ℕ → Reading
  bad : ℕ → Reading

-- the number of the first fault of a row's six numbers, by whether one of them has a zero in front and by their values; 0, as of a row that
-- is taken, where there is none
unfoldable pub numbers_fault : Bool → Values → ℕ
numbers_fault zeros v = first_fault (check zeros row_zeros ∷ check (out_of_range v) row_range ∷ check (has_host_bits v) row_host_bits ∷ [])

unfoldable pub judged_numbers : Bool → Values → Reading
judged_numbers zeros v =
    cond (eqb (numbers_fault zeros v) row_taken) (good (key_of (address_of v) v.len) v.hop) (bad (numbers_fault zeros v))

unfoldable pub judged : Option (List (List ℕ)) → Reading
judged none = bad row_shape
judged (some ns) = judged_numbers (has_zero_in_front ns) (values_of ns)

-- the reading of a row: the whole row's shape first, then zeros in front, then its values
unfoldable pub read_row : List ℕ → Reading
read_row bytes = judged (fields_of form bytes)

-- the number of what is wrong with a row by itself
abbrev pub number_of_fault : RowFault → ℕ
number_of_fault Shape = row_shape
number_of_fault Zeros = row_zeros
number_of_fault Range = row_range
number_of_fault HostBits = row_host_bits

-- what the code's answer says
abbrev pub reading_of : Result Row RowFault → Reading
reading_of (Ok r) = good r.key r.hop
reading_of (Err e) = bad (number_of_fault e)
