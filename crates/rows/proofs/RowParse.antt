-- How a row is read: five numbers with their marks, one after the other, then the hop, after which the row ends.
-- Assumes nothing.
use mathlib.Core.Path.{◌≡◌, refl, sym, ap, ◌∙◌}
use mathlib.Core.Logic.{◌⊎◌, inl, inr}
use mathlib.Core.Bool.{Bool, true, false, cond, ◌&&◌, ◌||◌, or-false, or_assoc}
use mathlib.Core.List.{List, [], ◌∷◌, ◌++◌, append_assoc}
use mathlib.Core.Option.{Option, none, some}
use Prim.Native.Nat.{ℕ, zero, suc, ◌+◌, ◌≤◌, ◌<◌}
use native.Mathlib.Nat.{pos_of_ne-zero}
use native.Mathlib.Numerals.{add-one}
use native.Mathlib.Omega.{arith}
use lib.ListN.{length, get_or, take, drop, set, length-drop, length-set, get_or-append, drop_of_length-le}
use lib.Seq.{drop-cons, drop-drop, take_all, take-suc-set, get_or_at}
use lib.Dec.{leb}
use borrow.Author.Tests.{leb-true, le-leb, lt-leb}
use Rattle.ground.proofs.Truth.{decided, never_both, cond_true, cond_false, and_right}
use Rattle.rows.specs.declared.parse.Values.{Values}
use Rattle.rows.specs.declared.parse.NumberAt.{NumberAt}
use Rattle.std.specs.Prelude.{Some, None}
use Rattle.std.specs.Prelude as code
use Rattle.rows.specs.RowNumber.{row_shape}
use Rattle.rows.specs.Reading.{bad, digits, after_digits, is_number, begins, is_end, before, zero_in_front, Field, field}
use Rattle.rows.specs.Reading.{form, fields_of, has_zero_in_front, value_from, in_places, judged_numbers, values_of, judged, read_row}
use Rattle.rows.specs.Inside.Fields.{digits_from, field_from, read_from}
use Rattle.rows.proofs.Fields.{read, after_is, digits_within, digits_next, digits_value, zero_seen, zero_seen_lem}

-- five values and the hop, in their places
abbrev filled : List ℕ → ℕ → Values
filled v hop = record { a = get_or v 0 0; b = get_or v 1 0; c = get_or v 2 0; d = get_or v 3 0; len = get_or v 4 0; hop = hop }

in_places_lem : (v : List ℕ) (hop : ℕ) → length v ≡ 5 → in_places (v ++ hop ∷ []) ≡ filled v hop
unfolding in_places
in_places_lem v hop five =
    rw (
      get_or-append v (hop ∷ []) 0 0 (omega arith),
      get_or-append v (hop ∷ []) 0 1 (omega arith),
      get_or-append v (hop ∷ []) 0 2 (omega arith),
      get_or-append v (hop ∷ []) 0 3 (omega arith),
      get_or-append v (hop ∷ []) 0 4 (omega arith),
      get_or_at v hop [] 0 5 five,
    )

-- The hop: 1 to 5 digits, after which the row ends.
module _ (row : List ℕ) (at : ℕ) (h : at ≤ length row) (zeros : Bool) (v : List ℕ) where
  abbrev ds : List ℕ
  ds = digits (drop at row)

  within : at + length ds ≤ length row
  within = omega (arith, digits_within (drop at row), length-drop at row)

  not_a_hop : (is_number 5 ds && is_end (after_digits (drop at row))) ≡ false → read_from zeros v (fields_of [] (drop at row)) ≡ bad row_shape
  unfolding read_from fields_of
  not_a_hop f = rw f

  pub hop_none : (digits_from row at 5).next ≡ at → read_from zeros v (fields_of [] (drop at row)) ≡ bad row_shape
  hop_none q = not_a_hop (rw (lt-leb 1 (length ds) (omega (arith, digits_next row at 5))))

  pub hop_more : (digits_from row at 5).next < length row → read_from zeros v (fields_of [] (drop at row)) ≡ bad row_shape
  hop_more q = not_a_hop (go (decided (is_number 5 ds)))
    where
      go : (is_number 5 ds ≡ true) ⊎ (is_number 5 ds ≡ false) → (is_number 5 ds && is_end (after_digits (drop at row))) ≡ false
      go (inl n) =
          let few : length ds ≤ 5 = leb-true (length ds) 5 (and_right (leb 1 (length ds)) (leb (length ds) 5) n) in
          rw (
            n,
            after_is (drop at row),
            drop-drop (length ds) at row,
            drop-cons row (at + length ds) 0 (omega (arith, digits_next row at 5)),
          )
      go (inr n) = rw n

  pub hop_last : ((digits_from row at 5).next ≡ at → ⊥) → length row ≤ (digits_from row at 5).next → length v ≡ 5
      → read_from zeros v (fields_of [] (drop at row))
      ≡ judged_numbers (zeros || zero_seen row at (digits_from row at 5).next) (filled v (digits_from row at 5).value)
  unfolding read_from fields_of has_zero_in_front
  hop_last moved end five =
      rw (
        le-leb 1 (length ds) one,
        le-leb (length ds) 5 few,
        after_is (drop at row),
        drop-drop (length ds) at row,
        drop_all,
        or-false,
        zero_seen_lem row at (digits_from row at 5).next one (omega (arith, few, digits_next row at 5)),
      )
      (ap (judged_numbers (zeros || zero_in_front ds)) (in_places_lem v (value_from 0 ds) five ∙ ap (filled v) value))
    where
      few : length ds ≤ 5
      few = omega (arith, digits_next row at 5, within)

      one : 1 ≤ length ds
      one = pos_of_ne-zero (λ z. moved (omega (arith, digits_next row at 5)))

      drop_all : drop (at + length ds) row ≡ []
      drop_all = drop_of_length-le row {i = at + length ds} (omega (arith, digits_next row at 5))

      value : value_from 0 ds ≡ (digits_from row at 5).value
      value = sym (digits_value row at 5 ∙ ap (value_from 0) (take_all 5 ds few))

-- what a row says whose first five numbers are read needs them
pub ruleset hop_answers = (hop_none, hop_more, hop_last)

fields_step : (m k : ℕ) (fs : List Field) (bs : List ℕ)
    → fields_of (field m k ∷ fs) bs
    ≡ cond (is_number m (digits bs) && begins k (after_digits bs)) (before (digits bs) (fields_of fs (drop 1 (after_digits bs)))) none
unfolding fields_of
fields_step m k fs bs = go (is_number m (digits bs) && begins k (after_digits bs))
  where
    go : (t : Bool)
        → elim t [ true ↦ before (digits bs) (fields_of fs (drop 1 (after_digits bs))) | false ↦ none ]
        ≡ cond t (before (digits bs) (fields_of fs (drop 1 (after_digits bs)))) none
    go true = refl
    go false = refl

-- One number of the form with its mark: what is left of the form is read from the place after the mark.
module _ (row : List ℕ) (at m k : ℕ) (h : at ≤ length row) (fs : List Field) where
  abbrev front : List ℕ
  front = digits (drop at row)

  abbrev behind : List ℕ
  behind = after_digits (drop at row)

  abbrev test : Bool
  test = is_number m front && begins k behind

  begins_some : (bs : List ℕ) → begins k bs ≡ true → 1 ≤ length bs
  begins_some [] e = never_both e refl
  begins_some (b ∷ bs) e = omega arith

  pub record FieldRead (value : ℕ) (z : Bool) (next : ℕ) : Type 0 where
    pub rest : fields_of (field m k ∷ fs) (drop at row) ≡ before (digits (drop at row)) (fields_of fs (drop next row))
    pub value_is : value ≡ value_from 0 (digits (drop at row))
    pub zero_is : z ≡ zero_in_front (digits (drop at row))
    pub next_in : next ≤ length row

  pub not_of_form_none : field_from row at m k ≡ None → fields_of (field m k ∷ fs) (drop at row) ≡ none
  unfolding field_from
  not_of_form_none e = go (decided test)
    where
      go : (test ≡ true) ⊎ (test ≡ false) → fields_of (field m k ∷ fs) (drop at row) ≡ none
      go (inl t) =
          let z : ◌≡◌ {A = code.Option NumberAt} (read (value_from 0 front) (zero_in_front front) (at + length front + 1)) None = sym (cond_true _ _ t) ∙ e in
          absurd (let o : ◌≡◌ {A = ℕ} 0 1 = cc in omega arith)
      go (inr t) = fields_step m k fs (drop at row) ∙ cond_false _ _ t

  pub read_steps : (value : ℕ) (z : Bool) (next : ℕ) → field_from row at m k ≡ read value z next → FieldRead value z next
  unfolding field_from
  read_steps value z next e = go (decided test)
    where
      go : (test ≡ true) ⊎ (test ≡ false) → FieldRead value z next
      go (inl t) =
          let same : ◌≡◌ {A = code.Option NumberAt} (read (value_from 0 front) (zero_in_front front) (at + length front + 1)) (read value z next) =
          sym (cond_true _ _ t) ∙ e in
          let r : ◌≡◌ {A = NumberAt} (record { value = value_from 0 front; zero = zero_in_front front; next = at + length front + 1 })
          (record { value = value; zero = z; next = next }) = cc in
          let v : value_from 0 front ≡ value = ap (λ x. x.value) r in
          let f : zero_in_front front ≡ z = ap (λ x. x.zero) r in
          let n : at + length front + 1 ≡ next = ap (λ x. x.next) r in
          let there : drop 1 behind ≡ drop next row = rw (after_is (drop at row), drop-drop (length front), drop-drop 1, n) in
          let more = begins_some behind (and_right (is_number m front) _ t) in
          record {
            rest = fields_step m k fs (drop at row) ∙ (cond_true _ _ t ∙ rw there);
            value_is = sym v;
            zero_is = sym f;
            next_in = omega (arith, ap length (after_is (drop at row)), length-drop (length front) (drop at row), length-drop at row);
          }
      go (inr t) =
          let never : ◌≡◌ {A = code.Option NumberAt} None (read value z next) = sym (cond_false _ _ t) ∙ e in
          absurd (let o : ◌≡◌ {A = ℕ} 0 1 = cc in omega arith)

-- Where the loop over the five numbers stands: the row says what the numbers so far and the rest of the row say.
pub record Rowing (row v : List ℕ) (zeros : Bool) (at i : ℕ) : Type 0 where
  pub within : at ≤ length row
  pub five : length v ≡ 5
  pub goes_on : read_row row ≡ read_from zeros (take i v) (fields_of (drop i form) (drop at row))

pub rowing_start : (row v : List ℕ) → length v ≡ 5 → Rowing row v false 0 0
unfolding read_row read_from judged values_of
rowing_start row v e = record {
  within = omega arith;
  five = e;
  goes_on = go (fields_of form row);
}
  where
    go : (o : Option (List (List ℕ))) → judged o ≡ read_from false [] o
    go none = refl
    go (some ns) = refl

-- the numbers of the form by their places, as the code has them
abbrev pub parts : List (ℕ × ℕ)
parts = (3, 46) ∷ (3, 46) ∷ (3, 46) ∷ (3, 47) ∷ (2, 32) ∷ []

abbrev pub part_at : ℕ → ℕ × ℕ
part_at i = get_or parts i (0, 0)

form_at : (i : ℕ) → i < 5 → drop i form ≡ field (part_at i).0 (part_at i).1 ∷ drop (i + 1) form
form_at zero l = refl
form_at (suc zero) l = refl
form_at (suc (suc zero)) l = refl
form_at (suc (suc (suc zero))) l = refl
form_at (suc (suc (suc (suc zero)))) l = refl
form_at (suc (suc (suc (suc (suc i))))) l = absurd (omega arith)

read_more : (z : Bool) (vs : List ℕ) (ds : List ℕ) (o : Option (List (List ℕ)))
    → read_from z vs (before ds o) ≡ read_from (z || zero_in_front ds) (vs ++ value_from 0 ds ∷ []) o
unfolding read_from has_zero_in_front
read_more z vs ds none = refl
read_more z vs ds (some ns) = rw (append_assoc, or_assoc z (zero_in_front ds) (has_zero_in_front ns))

module _ {row v : List ℕ} {zeros : Bool} {at i : ℕ} (s : Rowing row v zeros at i) (l : i < 5) where
  abbrev most : ℕ
  most = (part_at i).0

  abbrev mark : ℕ
  mark = (part_at i).1

  pub rowing_not_of_form : field_from row at (part_at i).0 (part_at i).1 ≡ None → read_row row ≡ bad row_shape
  unfolding read_from
  rowing_not_of_form e = s.goes_on ∙ rw (form_at i l, not_of_form_none row at most mark s.within (drop (i + 1) form) e)

  pub rowing_more : {n : NumberAt} → field_from row at (part_at i).0 (part_at i).1 ≡ Some n
      → Rowing row (set v i n.value) (zeros || n.zero) n.next (i + 1)
  rowing_more {n} e =
      let t = read_steps row at most mark s.within (drop (i + 1) form) n.value n.zero n.next e in
      record {
        within = t.next_in;
        five = length-set v i n.value ∙ s.five;
        goes_on =
            s.goes_on
            ∙ rw (form_at i l, t.rest, read_more, ← t.value_is, ← t.zero_is, add-one, take-suc-set v i n.value (omega (arith, s.five)));
      }
