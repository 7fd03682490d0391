-- What a split returns and leaves, check by check: 11, 17, 18, 13, and else the second half in the two slices. In a well-formed list
-- 0.0.0.0/0 is listed exactly if the first key is 0.
-- Assumes nothing.
use mathlib.Core.Path.{◌≡◌, refl, sym, ap, ◌∙◌}
use mathlib.Core.Bool.{true, false}
use mathlib.Core.List.{List, [], ◌∷◌, map}
use Prim.Native.Nat.{ℕ, zero, suc, ◌+◌, ◌-◌, ◌≤◌, ◌<◌}
use native.Mathlib.Omega.{arith}
use lib.ListN.{length, get_or, take, drop, length-take}
use lib.Seq.{get_or-take}
use lib.Dec.{ltb, eqb}
use borrow.Author.Tests.{ltb-true, lt-ltb, le-ltb, eq-eqb, ne_eqb}
use Rattle.ground.specs.Numbers.{first_fault, outcome, done, ill_formed, bad_size, no_default, no_room}
use Rattle.ground.specs.Slots.{written}
use Rattle.ground.proofs.Truth.{and_left, and_right}
use Rattle.ground.specs.Column.{is_in, ascends}
use Rattle.routes.specs.Row.{Row, list_lent, rows_of, keys_of, hops_of, list_room, top_room}
use Rattle.routes.specs.WellFormed.{well_formed, half_formed, formed, ascending}
use Rattle.routes.specs.Change.{listed}
use Rattle.routes.proofs.Columns.{length_rows, keys_of_rows}
use Rattle.routes.proofs.ListTest.{well_half, half_room, formed_half}
use Rattle.runs.proofs.WholeList.{in_keys, in_hops, slices_rows, slices_sorted, list_test, sliced}
use Rattle.sweep.specs.Sweep.{all_rows}
use Rattle.sweep.proofs.Sorted.{in_order}
use Rattle.split.specs.Split.{default_key, relabelled, first_half, second_half, split_lent, SplitOutcome, split_into, split_checks, split}
use Rattle.split.specs.Inside.Labels.{labels_from}
use Rattle.split.proofs.Halves.{second_half_length}

-- behind the first of ascending keys none is 0
no_zero : (x : ℕ) (xs : List ℕ) → ascends (x ∷ xs) ≡ true → is_in 0 xs ≡ false
unfolding ascends is_in
no_zero x [] e = refl
no_zero x (y ∷ ys) e =
    let above = ltb-true x y (and_left (ltb x y) (ascends (y ∷ ys)) e) in
    rw (ne_eqb 0 y (λ z. omega arith)) (no_zero y ys (and_right (ltb x y) (ascends (y ∷ ys)) e))

zero_first : (keys : List ℕ) → ascends keys ≡ true → 0 < length keys → is_in 0 keys ≡ eqb (get_or keys 0 0) 0
unfolding is_in
zero_first [] e l = absurd (omega arith)
zero_first (zero ∷ xs) e l = refl
zero_first (suc x ∷ xs) e l = rw (ne_eqb 0 (suc x) (λ z. omega arith), ne_eqb (suc x) 0 (λ z. omega arith)) (no_zero (suc x) xs e)

-- the keys of the second half are 0 and the list's from place k on
kept_keys : (first rows : List Row) → keys_of (map (relabelled first) rows) ≡ keys_of rows
unfolding relabelled
kept_keys first [] = refl
kept_keys first (r ∷ rs) = ap (r.key ∷◌) (kept_keys first rs)

keys_from : (k : ℕ) (rows : List Row) → keys_of (drop k rows) ≡ drop k (keys_of rows)
keys_from zero rows = refl
keys_from (suc k) [] = refl
keys_from (suc k) (r ∷ rs) = keys_from k rs

pub second_keys : (k : ℕ) (rows : List Row) → keys_of (second_half k rows) ≡ 0 ∷ drop k (keys_of rows)
unfolding second_half
second_keys k rows = ap (0 ∷◌) (kept_keys (first_half k rows) (drop k rows) ∙ keys_from k rows)

pub second_labels : (k : ℕ) (rows : List Row) → hops_of (second_half k rows) ≡ 0 ∷ labels_from k rows
unfolding second_half labels_from
second_labels k rows = refl

module _ (k count : ℕ) (keys hops out labels : List ℕ) where
  abbrev parted : SplitOutcome
  parted = split k (list_lent count keys hops) (split_lent out labels)

  abbrev halves : List Row
  halves = second_half k (rows_of count keys hops)

  pub split_ill : formed false count keys hops ≡ false → parted ≡ split_into ill_formed 0 out labels
  unfolding split split_checks first_fault outcome formed
  split_ill e = rw e

  module _ (passed : formed false count keys hops ≡ true) where
    well : well_formed count keys hops ≡ true
    well = list_test count keys hops (sym passed)

    half : half_formed count keys hops ≡ true
    half = well_half count keys hops well

    keys_are : keys_of (rows_of count keys hops) ≡ take count keys
    keys_are = keys_of_rows count keys hops (in_keys count keys hops half) (in_hops count keys hops half)

    pub split_no_size : k ≡ 0 → parted ≡ split_into bad_size 0 out labels
    unfolding split split_checks first_fault outcome
    split_no_size e = rw (well, eq-eqb k 0 e)

    pub split_big_size : count < k → parted ≡ split_into bad_size 0 out labels
    unfolding split split_checks first_fault outcome
    split_big_size e = rw (well, ne_eqb k 0 (λ z. omega arith), lt-ltb count k e)

    module _ (some : 0 < k) (upto : k ≤ count) where
      pub first_key : 0 < length keys
      first_key = omega (arith, in_keys count keys hops half)

      -- 0.0.0.0/0 is listed exactly if the first key is 0
      default_first : listed default_key (rows_of count keys hops) ≡ eqb (get_or keys 0 0) 0
      unfolding ascending
      default_first =
          ap (is_in 0) keys_are
          ∙ zero_first (take count keys) (rw keys_are at sorted) (simp length-take (omega (arith, in_keys count keys hops half)))
          ∙ ap (λ n. eqb n 0) (get_or-take count keys 0 0 (omega arith))
        where
          sorted : ascends (keys_of (rows_of count keys hops)) ≡ true
          sorted = rw (slices_rows count keys hops half) at (in_order (slices_sorted count keys hops half))

      pub split_no_default : ¬ (get_or keys 0 0 ≡ 0) → parted ≡ split_into no_default 0 out labels
      unfolding split split_checks first_fault outcome
      split_no_default e = rw (well, ne_eqb k 0 (λ z. omega arith), le-ltb count k upto, default_first, ne_eqb (get_or keys 0 0) 0 e)

      module _ (zero : get_or keys 0 0 ≡ 0) where
        default : listed default_key (rows_of count keys hops) ≡ true
        default = default_first ∙ eq-eqb (get_or keys 0 0) 0 zero

        -- the second half has at most as many rows as the top room, so its room is what is lent
        counted : (length halves ≡ count - k + 1) × (count - k + 1 ≤ top_room)
        unfolding list_room
        counted =
            let long = length_rows count keys hops (in_keys count keys hops half) (in_hops count keys hops half) in
            (second_half_length k (rows_of count keys hops) ∙ ap (λ n. n - k + 1) long, omega (arith, half_room count keys hops half))

        short : list_room out labels < length halves → parted ≡ split_into no_room 0 out labels
        unfolding split split_checks first_fault outcome
        short e =
            rw (well, ne_eqb k 0 (λ z. omega arith), le-ltb count k upto, default, lt-ltb (list_room out labels) (length halves) e)

        pub split_short_keys : length out < count - k + 1 → parted ≡ split_into no_room 0 out labels
        unfolding list_room
        split_short_keys e = short (omega (arith, counted))

        pub split_short_labels : length labels < count - k + 1 → parted ≡ split_into no_room 0 out labels
        unfolding list_room
        split_short_labels e = short (omega (arith, counted))

        module _ (room : count - k + 1 ≤ length out) (room' : count - k + 1 ≤ length labels) where
          enough : length halves ≤ list_room out labels
          unfolding list_room
          enough = omega (arith, counted)

          pub split_done : parted
              ≡ split_into done (count - k + 1) (written (0 ∷ drop k (take count keys)) out)
              (written (0 ∷ labels_from k (all_rows (take count keys) (take count hops))) labels)
          unfolding split split_checks first_fault outcome
          split_done = rw (
            well,
            ne_eqb k 0 (λ z. omega arith),
            le-ltb count k upto,
            default,
            le-ltb (list_room out labels) (length halves) enough,
            counted.0,
            second_keys k (rows_of count keys hops),
            second_labels k (rows_of count keys hops),
            keys_are,
            slices_rows count keys hops half,
          )

-- what a split goes by
pub ruleset split_tests = (
  formed_half,
  sliced,
  split_ill,
  split_no_size,
  split_big_size,
  first_key,
  split_no_default,
  split_short_keys,
  split_short_labels,
  split_done,
)
