-- The places of the rows that hold an address, among the first i rows of a well-formed list: they ascend, each later one's row is longer,
-- and so there are at most 33. The rows at these places are the matching ones, and over all rows these are the places listed.
-- Assumes nothing.
use mathlib.Core.Path.{◌≡◌, refl, sym, ap, ◌∙◌}
use mathlib.Core.Logic.{⊎_elim}
use mathlib.Core.Bool.{Bool, true, false}
use mathlib.Core.List.{List, [], ◌∷◌, ◌++◌, map, map-append, append-nil}
use Prim.Native.Nat.{ℕ, zero, suc, ◌-◌, ◌≤◌, ◌<◌, zero-le}
use native.Mathlib.Nat.{zero-add, eq-or-lt_of_le}
use native.Mathlib.Numerals.{add-one}
use native.Mathlib.Omega.{arith}
use lib.ListN.{length, get_or, take, length-append}
use lib.Seq.{get_or-take, length-take-le}
use Rattle.ground.specs.Column.{ascends}
use Rattle.ground.specs.Stretch.{picked}
use Rattle.ground.specs.Stretch.Laws.{picked_is, picked_none, picked_suc, picked_cut, picked_agree}
use Rattle.ground.specs.Stretch.Picks.{Picks, picks}
use Rattle.ground.proofs.Ascends.{ascends_of, ascends_at}
use Rattle.cidr.specs.Prefix.{length_of, holds}
use Rattle.cidr.proofs.Prefix.{Prefix, longer_later}
use Rattle.routes.specs.Row.{rows_of, keys_of, those, list_room}
use Rattle.routes.specs.WellFormed.{well_formed, half_formed}
use Rattle.routes.specs.Plain.{matching}
use Rattle.routes.proofs.Row.{those_one, those_none}
use Rattle.routes.proofs.RowsOf.{row_at, rows_suc}
use Rattle.routes.proofs.Columns.{keys_of_rows, length_rows}
use Rattle.routes.proofs.ListTest.{well_half, half_room}
use Rattle.sweep.specs.Sweep.{Sorted}
use Rattle.sweep.proofs.Sorted.{prefix_there, keys_ascend, climbs}
use Rattle.runs.proofs.WholeList.{in_keys, in_hops, slices_sorted}
use Rattle.why.specs.Why.{places_of}

-- the places of the rows that hold the address, among the first i
abbrev pub places_to : List ℕ → ℕ → ℕ → List ℕ
places_to keys a i = picked (λ x. holds (get_or keys x 0) a) 0 i

module _ (keys : List ℕ) (a i : ℕ) where
  -- one row more, which holds the address or doesn't
  pub place_in : holds (get_or keys i 0) a ≡ true → places_to keys a (suc i) ≡ places_to keys a i ++ i ∷ []
  place_in e =
      rw add-one at (picked_cut (λ x. holds (get_or keys x 0) a) 0 i 1)
      ∙ rw (zero-add, picked_suc, picked_none, e)

  pub place_out : holds (get_or keys i 0) a ≡ false → places_to keys a (suc i) ≡ places_to keys a i
  place_out e =
      rw add-one at (picked_cut (λ x. holds (get_or keys x 0) a) 0 i 1)
      ∙ rw (zero-add, picked_suc, picked_none, e, append-nil)

module _ (count : ℕ) (keys hops : List ℕ) (well : well_formed count keys hops ≡ true) where
  half : half_formed count keys hops ≡ true
  half = well_half count keys hops well

  pub rows_few : count ≤ 1048576
  unfolding list_room
  rows_few = omega (arith, half_room count keys hops half)

  pub keys_there : count ≤ length keys
  keys_there = in_keys count keys hops half

  pub hops_there : count ≤ length hops
  hops_there = in_hops count keys hops half

  pub keys_long : length (take count keys) ≡ count
  keys_long = length-take-le count keys keys_there

  sorted : Sorted (take count keys) (take count hops)
  sorted = slices_sorted count keys hops half

  pub keys_ascending : ascends (take count keys) ≡ true
  keys_ascending = keys_ascend sorted

  pub key_climbs : (i j : ℕ) → i < j → j < count → get_or keys i 0 < get_or keys j 0
  key_climbs i j l m =
      let long : length (take count keys) ≡ count = length-take-le count keys keys_there in
      rw (get_or-take count keys i 0 (omega arith), get_or-take count keys j 0 m) at (climbs sorted i j l (omega arith))

  pub key_prefix : (i : ℕ) → i < count → Prefix (get_or keys i 0)
  key_prefix i l =
      let long : length (take count keys) ≡ count = length-take-le count keys keys_there in
      rw (get_or-take count keys i 0 l) at (prefix_there sorted i (omega arith))

  module _ (a : ℕ) where
    -- over all rows they are the places listed
    pub places_are : places_of a (rows_of count keys hops) ≡ places_to keys a count
    unfolding places_of
    places_are =
        let rows = rows_of count keys hops in
        let long : length rows ≡ count = length_rows count keys hops keys_there hops_there in
        sym (picked_is (λ i. holds (get_or (keys_of rows) i 0) a) 0 (length rows))
        ∙ picked_agree (λ i. holds (get_or (keys_of rows) i 0) a) (λ i. holds (get_or keys i 0) a) 0 (length rows)
        (λ i ge lt. ap (λ xs. holds (get_or xs i 0) a) (keys_of_rows count keys hops keys_there hops_there)
        ∙ ap (λ k. holds k a) (get_or-take count keys i 0 (omega arith)))
        ∙ ap (places_to keys a) long

    -- the rows at these places are those that hold the address
    pub rows_at_places : (i : ℕ) → i ≤ count → matching a (rows_of i keys hops) ≡ map (row_at keys hops) (places_to keys a i)
    unfolding matching rows_of those
    rows_at_places zero l = rw picked_none
    rows_at_places (suc i) l = go (holds (get_or keys i 0) a) refl (rows_at_places i (omega arith))
      where
        one : rows_of (suc i) keys hops ≡ rows_of i keys hops ++ row_at keys hops i ∷ []
        one = rows_suc i keys hops (omega (arith, keys_there)) (omega (arith, hops_there))

        go : (b : Bool) → holds (get_or keys i 0) a ≡ b → matching a (rows_of i keys hops) ≡ map (row_at keys hops) (places_to keys a i)
            → matching a (rows_of (suc i) keys hops) ≡ map (row_at keys hops) (places_to keys a (suc i))
        go true e rec =
            rw (one, place_in keys a i e, map-append (row_at keys hops) (places_to keys a i) (i ∷ []))
            (those_one (λ r. holds r.key a) (rows_of i keys hops) _ e ∙ ap (◌++ row_at keys hops i ∷ []) rec)
        go false e rec = rw (one, place_out keys a i e) (those_none (λ r. holds r.key a) (rows_of i keys hops) _ e ∙ rec)

    module _ (i : ℕ) (upto : i ≤ count) where
      held : Picks (λ x. holds (get_or keys x 0) a) 0 i (places_to keys a i)
      held = picks (λ x. holds (get_or keys x 0) a) 0 i

      -- they ascend, and each later one's row is longer
      pub places_climb : (j k : ℕ) → j < k → k < length (places_to keys a i) → get_or (places_to keys a i) j 0 < get_or (places_to keys a i) k 0
      places_climb = ascends_at (places_to keys a i) (ascends_of (places_to keys a i) held.ascend)

      pub longer_behind : (j k : ℕ) → j < k → k < length (places_to keys a i)
          → length_of (get_or keys (get_or (places_to keys a i) j 0) 0) < length_of (get_or keys (get_or (places_to keys a i) k 0) 0)
      longer_behind j k l m =
          longer_later _ _ a (key_climbs _ _ (places_climb j k l m) (omega (arith, held.below k m)))
          (held.pass j (omega arith)) (held.pass k m)

      deep : (k : ℕ) → k < length (places_to keys a i) → k ≤ length_of (get_or keys (get_or (places_to keys a i) k 0) 0)
      deep zero l = zero-le
      deep (suc k) l = omega (arith, deep k (omega arith), longer_behind k (suc k) (omega arith) l)

      -- so they are at most 33
      pub few_places : length (places_to keys a i) ≤ 33
      few_places = ⊎_elim
          (λ (z : 0 ≡ length (places_to keys a i)). omega arith)
          (λ (some : 0 < length (places_to keys a i)).
          let last = length (places_to keys a i) - 1 in
          omega (
            arith,
            deep last (omega arith),
            held.below last (omega arith),
            (key_prefix (get_or (places_to keys a i) last 0) (omega (arith, held.below last (omega arith)))).short,
          ))
          (eq-or-lt_of_le zero-le)

    -- before a row that holds the address there are fewer
    pub room_for_one : (i : ℕ) → i < count → holds (get_or keys i 0) a ≡ true → length (places_to keys a i) < 33
    room_for_one i l e = omega (arith, few_places (suc i) l, simp length-append at (ap length (place_in keys a i e)))
