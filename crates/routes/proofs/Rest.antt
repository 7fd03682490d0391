-- The rows of a list from a place on, as a walk over the list has them before it: at place 0 they are all rows, each step takes the row
-- of that place off, and at the count none are left.
-- Assumes nothing.
use mathlib.Core.Path.{◌≡◌}
use mathlib.Core.List.{List, [], ◌∷◌}
use Prim.Native.Nat.{ℕ, suc, ◌+◌, ◌-◌, ◌≤◌, ◌<◌}
use native.Mathlib.Nat.{sub-zero}
use native.Mathlib.Numerals.{add-one}
use native.Mathlib.Omega.{arith}
use lib.ListN.{drop}
use lib.Seq.{drop-cons}
use Rattle.routes.specs.Row.{Row, rows_of, list_room}
use Rattle.routes.proofs.RowsOf.{row_at}

-- the rows from a place on
pub rest : ℕ → List ℕ → List ℕ → ℕ → List Row
rest count keys hops i = rows_of (count - i) (drop i keys) (drop i hops)

module _ (count : ℕ) (keys hops : List ℕ) where
  pub rest_start : rest count keys hops 0 ≡ rows_of count keys hops
  unfolding rest
  rest_start = rw sub-zero

  module _ (i : ℕ) where
    pub rest_end : count ≤ i → rest count keys hops i ≡ []
    unfolding rest rows_of
    rest_end h = let none : count - i ≡ 0 = omega arith in rw none

    module _ (h : i < count) (room : count ≤ list_room keys hops) where
      pub rest_next : rest count keys hops i ≡ row_at keys hops i ∷ rest count keys hops (i + 1)
      unfolding rest rows_of list_room
      rest_next =
          let one : count - i ≡ suc (count - (i + 1)) = omega arith in
          rw (one, drop-cons keys i 0 (omega arith), drop-cons hops i 0 (omega arith), add-one)
