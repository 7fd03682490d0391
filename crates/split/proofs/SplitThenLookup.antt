-- Rule 11.9, from the contracts alone: where a split was accepted, half lookup in the list's first k rows and half lookup in what the split
-- left both answer, and their labels XOR to what plain lookup in the list gives.
-- Assumes nothing.
use mathlib.Core.Path.{◌≡◌, refl, sym, ap, ◌∙◌}
use mathlib.Core.Bool.{true, not, ◌||◌}
use mathlib.Core.List.{List}
use Prim.Native.Nat.{ℕ, ◌+◌, ◌-◌, ◌≤◌}
use native.Mathlib.Omega.{arith}
use lib.ListN.{length, length-map}
use lib.Bits.{bit_xor}
use lib.Dec.{leb, ltb, eqb}
use borrow.Author.Tests.{leb-true, le-leb, ltb-false, eqb-false}
use Rattle.ground.specs.Numbers.{first_fault, done}
use Rattle.ground.specs.Slots.{written}
use Rattle.ground.proofs.Truth.{and_left, and_right, and_both, or_neither, not-false}
use Rattle.ground.proofs.Numbers.{no_fault, accepted_fault, accepted_is}
use Rattle.ground.proofs.Slots.{length_written}
use Rattle.routes.specs.Row.{Row, ListLent, list_lent, rows_of, rows_lent, keys_of, hops_of, list_room}
use Rattle.routes.specs.WellFormed.{hops_given, good_rows, well_formed, half_formed}
use Rattle.routes.specs.Plain.{plain}
use Rattle.routes.specs.Lookup.{LookupOutcome, looked_up, plain_lookup, half_lookup}
use Rattle.routes.specs.Change.{listed}
use Rattle.routes.proofs.RowsOf.{rows_front}
use Rattle.routes.proofs.WellFormed.{HalfGood, half_parts}
use Rattle.routes.proofs.Columns.{length_rows, rows_of_columns}
use Rattle.routes.proofs.LookupOutcome.{plain_accepted, half_accepted}
use Rattle.split.specs.Split.{default_key, first_half, second_half, SplitLent, SplitOutcome, split_into, split_checks, split}
use Rattle.split.proofs.Halves.{second_half_length, first_half_good, second_half_good}
use Rattle.split.proofs.HalvesXor.{halves_xor}

-- what three lookups give at an address: in the list, in its first k rows, and in the n rows of a second half
pub record Rejoined (l : ListLent) (k n : ℕ) (keys labels : List ℕ) (a : ℕ) : Type 0 where
  pub plain_done : (plain_lookup l a).number ≡ done
  pub first_done : (half_lookup (list_lent k l.keys l.hops) a).number ≡ done
  pub second_done : (half_lookup (list_lent n keys labels) a).number ≡ done
  pub xor : bit_xor (half_lookup (list_lent k l.keys l.hops) a).hop (half_lookup (list_lent n keys labels) a).hop ≡ (plain_lookup l a).hop

-- what the checks of an accepted split say: they are those for 11, 17, 18 and 13
record Passed (k : ℕ) (l : ListLent) (out : SplitLent) : Type 0 where
  well : well_formed l.count l.keys l.hops ≡ true
  some : 1 ≤ k
  upto : k ≤ l.count
  room : length (second_half k (rows_lent l)) ≤ list_room out.keys out.labels

passed : (k : ℕ) (l : ListLent) (out : SplitLent) → first_fault (split_checks k l out) ≡ done → Passed k l out
unfolding split_checks
passed k l out e =
    let ill = no_fault (not (well_formed l.count l.keys l.hops)) 10 _ e in
    let size = no_fault (eqb k 0 || ltb l.count k) 16 _ ill.1 in
    let default = no_fault (not (listed default_key (rows_lent l))) 17 _ size.1 in
    let full = no_fault (ltb (list_room out.keys out.labels) (length (second_half k (rows_lent l)))) 12 _ default.1 in
    let within = or_neither (eqb k 0) (ltb l.count k) size.0 in
    let no_zero = eqb-false k 0 within.0 in
    record {
      well = not-false _ ill.0;
      some = omega arith;
      upto = ltb-false _ _ within.1;
      room = ltb-false _ _ full.0;
    }

module _ (k : ℕ) (l : ListLent) (out : SplitLent) {n : ℕ} {keys labels : List ℕ} (e : split_into done n keys labels ≡ split k l out) where
  abbrev second : List Row
  second = second_half k (rows_lent l)

  accepted : (split k l out).number ≡ done
  accepted = sym (ap (λ (o : SplitOutcome). o.number) e)

  checked : Passed k l out
  unfolding split
  checked = passed k l out (accepted_fault (λ (o : SplitOutcome). o.number) (split_checks k l out) _ _ (λ m. refl) accepted)

  left : split_into done n keys labels
      ≡ split_into done (length second) (written (keys_of second) out.keys) (written (hops_of second) out.labels)
  unfolding split
  left = e ∙ accepted_is (λ (o : SplitOutcome). o.number) (split_checks k l out) _ _ (λ m. refl) accepted

  count_is : n ≡ length second
  count_is = ap (λ (o : SplitOutcome). o.count) left

  in_room : l.count ≤ list_room l.keys l.hops
  unfolding well_formed
  in_room = leb-true _ _ (and_left (leb l.count (list_room l.keys l.hops)) _ checked.well)

  good : HalfGood (rows_lent l)
  unfolding well_formed good_rows
  good =
      half_parts (rows_lent l)
      (and_right (hops_given (rows_lent l)) _ (and_right (leb l.count (list_room l.keys l.hops)) _ checked.well))

  -- the first half: the list's slices with count k
  first_rows : rows_of k l.keys l.hops ≡ first_half k (rows_lent l)
  unfolding first_half
  first_rows = sym (rows_front k l.count l.keys l.hops checked.upto)

  first_formed : half_formed k l.keys l.hops ≡ true
  unfolding half_formed
  first_formed = and_both (le-leb k _ (omega (arith, in_room, checked.upto))) (rw first_rows (first_half_good k (rows_lent l) good))

  pub first_is : (a : ℕ) → half_lookup (list_lent k l.keys l.hops) a ≡ looked_up done (plain (first_half k (rows_lent l)) a)
  first_is a = half_accepted (list_lent k l.keys l.hops) a first_formed ∙ rw first_rows

  -- the second half: what the split left
  keys_are : keys ≡ written (keys_of second) out.keys
  keys_are = ap (λ (o : SplitOutcome). o.keys) left

  labels_are : labels ≡ written (hops_of second) out.labels
  labels_are = ap (λ (o : SplitOutcome). o.labels) left

  second_rows : rows_of n keys labels ≡ second
  unfolding written
  second_rows = rw (count_is, keys_are, labels_are) (rows_of_columns second _ _)

  second_room : list_room keys labels ≡ list_room out.keys out.labels
  unfolding list_room
  second_room =
      let enough = checked.room in
      let long = length_written (keys_of second) out.keys (omega (arith, length-map second (λ r. r.key))) in
      let long' = length_written (hops_of second) out.labels (omega (arith, length-map second (λ r. r.hop))) in
      rw (keys_are, labels_are, long, long')

  second_formed : half_formed n keys labels ≡ true
  unfolding half_formed
  second_formed =
      and_both (le-leb n _ (rw (second_room, count_is) checked.room))
      (rw second_rows (second_half_good k (rows_lent l) good checked.some))

  pub second_is : (a : ℕ) → half_lookup (list_lent n keys labels) a ≡ looked_up done (plain second a)
  second_is a = half_accepted (list_lent n keys labels) a second_formed ∙ rw second_rows

  -- Rule 11.6
  pub split_count : n ≡ l.count - k + 1
  unfolding list_room
  split_count =
      count_is ∙ second_half_length k (rows_lent l)
      ∙ rw (length_rows l.count l.keys l.hops (omega (arith, in_room)) (omega (arith, in_room)))

  -- Rule 11.9
  pub split_then_lookup : (a : ℕ) → Rejoined l k n keys labels a
  split_then_lookup a = record {
    plain_done = ap (λ (o : LookupOutcome). o.number) (plain_accepted l a checked.well);
    first_done = ap (λ (o : LookupOutcome). o.number) (first_is a);
    second_done = ap (λ (o : LookupOutcome). o.number) (second_is a);
    xor = rw (first_is a, second_is a, plain_accepted l a checked.well) (halves_xor k (rows_lent l) good a checked.some);
  }
