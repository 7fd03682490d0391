-- What the listing of a well-formed list tells of an address: every place listed is a row's and that row holds the address, every row that
-- holds it is listed, a later place's prefix is longer, and there are at most 33.
-- Assumes nothing.
use mathlib.Core.Path.{◌≡◌, refl}
use mathlib.Core.Bool.{true}
use mathlib.Core.List.{List, [], ◌∷◌, map}
use Prim.Native.Nat.{ℕ, zero, suc, ◌≤◌, ◌<◌}
use native.Mathlib.Nat.{le_refl}
use native.Mathlib.Omega.{arith}
use lib.ListN.{length, get_or}
use lib.Dec.{eqb}
use borrow.Author.Tests.{eq-eqb}
use Rattle.ground.specs.Column.{is_in}
use Rattle.ground.specs.Stretch.{counted}
use Rattle.ground.specs.Stretch.Count.{picked_at}
use Rattle.ground.specs.Stretch.Picks.{picks}
use Rattle.ground.proofs.Truth.{or_left, or_right}
use Rattle.cidr.specs.Prefix.{length_of, holds}
use Rattle.routes.specs.Row.{rows_of}
use Rattle.routes.specs.WellFormed.{well_formed}
use Rattle.routes.specs.Plain.{matching}
use Rattle.routes.proofs.RowsOf.{row_at}
use Rattle.why.specs.Why.{places_of}
use Rattle.why.proofs.Places.{places_are, rows_at_places, longer_behind, few_places}

-- what stands at a place of a column is in it
at_is_in : (xs : List ℕ) (j : ℕ) → j < length xs → is_in (get_or xs j 0) xs ≡ true
unfolding is_in
at_is_in [] j l = absurd (omega arith)
at_is_in (x ∷ xs) zero l = or_left (is_in x xs) (eq-eqb x x refl)
at_is_in (x ∷ xs) (suc j) l = or_right (eqb (get_or xs j 0) x) (at_is_in xs j (omega arith))

module _ (count : ℕ) (keys hops : List ℕ) (well : well_formed count keys hops ≡ true) (a : ℕ) where
  -- Rule 18.1: every place listed is below the count, and its row holds the address.
  pub listed_holds : (j : ℕ) → j < length (places_of a (rows_of count keys hops))
      → (get_or (places_of a (rows_of count keys hops)) j 0 < count)
      × (holds (get_or keys (get_or (places_of a (rows_of count keys hops)) j 0) 0) a ≡ true)
  listed_holds = rw (places_are count keys hops well a) (λ j l. (
    omega (arith, (picks (λ x. holds (get_or keys x 0) a) 0 count).below j l),
    (picks (λ x. holds (get_or keys x 0) a) 0 count).pass j l,
  ))

  -- a row that holds the address has a place among those listed
  pub placed : (i : ℕ) → i < count → holds (get_or keys i 0) a ≡ true
      → (j : ℕ) × (j < length (places_of a (rows_of count keys hops))) × (get_or (places_of a (rows_of count keys hops)) j 0 ≡ i)
  placed i l e =
      let at = picked_at (λ x. holds (get_or keys x 0) a) 0 count i i (omega arith) l e in
      rw (places_are count keys hops well a) (counted (λ x. holds (get_or keys x 0) a) 0 i, at.0, at.1)

  -- Rule 18.1: every row that holds the address is listed.
  pub holds_listed : (i : ℕ) → i < count → holds (get_or keys i 0) a ≡ true → is_in i (places_of a (rows_of count keys hops)) ≡ true
  holds_listed i l e = let at = placed i l e in rw at.2 at (at_is_in (places_of a (rows_of count keys hops)) at.0 at.1)

  -- the rows at the places listed are the matching rows
  pub rows_listed : matching a (rows_of count keys hops) ≡ map (row_at keys hops) (places_of a (rows_of count keys hops))
  rows_listed = rw (places_are count keys hops well a) (rows_at_places count keys hops well a count (le_refl count))

  -- Rule 18.1: the shortest prefix comes first.
  pub lengths_ascend : (j k : ℕ) → j < k → k < length (places_of a (rows_of count keys hops))
      → length_of (get_or keys (get_or (places_of a (rows_of count keys hops)) j 0) 0)
      < length_of (get_or keys (get_or (places_of a (rows_of count keys hops)) k 0) 0)
  lengths_ascend = rw (places_are count keys hops well a) (longer_behind count keys hops well a count (le_refl count))

  -- Rule 18.1: at most 33 rows hold an address, one of each length from 0 to 32.
  pub at_most_33 : length (places_of a (rows_of count keys hops)) ≤ 33
  at_most_33 = rw (places_are count keys hops well a) (few_places count keys hops well a count (le_refl count))
