-- A list's slices cut to its count: they are the same list, and well-formed if it is.
-- Assumes nothing.
use mathlib.Core.Path.{◌≡◌, refl, sym, ap}
use mathlib.Core.Bool.{Bool, true, false}
use mathlib.Core.List.{List, [], ◌∷◌}
use Prim.Native.Nat.{ℕ, zero, suc, ◌≤◌}
use native.Mathlib.Omega.{arith}
use lib.ListN.{length, take}
use lib.Seq.{length-take-le}
use lib.Dec.{leb}
use borrow.Author.Tests.{leb-true, le-leb}
use Rattle.routes.specs.Row.{row, rows_of, list_room}
use Rattle.routes.specs.WellFormed.{good_rows, well_formed, formed}
use Rattle.entries.proofs.Decided.{and_left, and_right, and_both}

cut_rows : (n : ℕ) (keys hops : List ℕ) → rows_of n (take n keys) (take n hops) ≡ rows_of n keys hops
unfolding rows_of
cut_rows zero keys hops = refl
cut_rows (suc n) [] hops = refl
cut_rows (suc n) (k ∷ keys) [] = refl
cut_rows (suc n) (k ∷ keys) (h ∷ hops) = ap (λ rows. row k h ∷ rows) (cut_rows n keys hops)

-- the code's list test, for a list that is no half
pub list_test : (b : Bool) (count : ℕ) (keys hops : List ℕ) → b ≡ formed false count keys hops → well_formed count keys hops ≡ b
unfolding formed
list_test b count keys hops e = sym e

module _ (count : ℕ) (keys hops : List ℕ) (well : well_formed count keys hops ≡ true) where
  in_room : count ≤ list_room keys hops
  unfolding well_formed
  in_room = leb-true count (list_room keys hops) (and_left _ (good_rows (rows_of count keys hops)) well)

  pub cut_keys : count ≡ length (take count keys)
  unfolding list_room
  cut_keys = sym (length-take-le count keys (omega (arith, in_room)))

  pub cut_hops : count ≡ length (take count hops)
  unfolding list_room
  cut_hops = sym (length-take-le count hops (omega (arith, in_room)))

  pub cut_list : rows_of (length (take count keys)) (take count keys) (take count hops) ≡ rows_of count keys hops
  cut_list = rw (← cut_keys) (cut_rows count keys hops)

  pub cut_well : well_formed (length (take count keys)) (take count keys) (take count hops) ≡ true
  unfolding well_formed list_room
  cut_well =
      and_both
      (le-leb (length (take count keys)) (list_room (take count keys) (take count hops)) (omega (arith, in_room, cut_keys, cut_hops)))
      (rw cut_list (and_right (leb count (list_room keys hops)) (good_rows (rows_of count keys hops)) well))
