-- The rows of two whole slices that are a well-formed list: their keys are the first slice, in order, and their hops the second's.
-- Assumes nothing.
use mathlib.Core.Path.{◌≡◌, refl, ap, ◌∙◌}
use mathlib.Core.Bool.{true}
use mathlib.Core.List.{List, [], ◌∷◌}
use Prim.Native.Nat.{ℕ, zero, suc, ◌≤◌, ◌<◌}
use native.Mathlib.Omega.{arith}
use lib.ListN.{length, get_or, take}
use lib.Seq.{take-length, get_or-take}
use lib.Dec.{leb}
use borrow.Author.Tests.{leb-true}
use Rattle.ground.specs.Column.{ascends}
use Rattle.routes.specs.Row.{Row, rows_of, keys_of, hops_of, list_room}
use Rattle.routes.specs.WellFormed.{prefixes, hops_given, ascending, half_rows, good_rows, well_formed}
use Rattle.entries.proofs.Decided.{and_left, and_right}

pub keys_of_rows : (n : ℕ) (keys hops : List ℕ) → n ≤ length keys → n ≤ length hops → keys_of (rows_of n keys hops) ≡ take n keys
unfolding rows_of
keys_of_rows zero keys hops l m = refl
keys_of_rows (suc n) [] hops l m = absurd (omega arith)
keys_of_rows (suc n) (k ∷ keys) [] l m = absurd (omega arith)
keys_of_rows (suc n) (k ∷ keys) (h ∷ hops) l m = ap (k ∷◌) (keys_of_rows n keys hops (omega arith) (omega arith))

pub hops_of_rows : (n : ℕ) (keys hops : List ℕ) → n ≤ length keys → n ≤ length hops → hops_of (rows_of n keys hops) ≡ take n hops
unfolding rows_of
hops_of_rows zero keys hops l m = refl
hops_of_rows (suc n) [] hops l m = absurd (omega arith)
hops_of_rows (suc n) (k ∷ keys) [] l m = absurd (omega arith)
hops_of_rows (suc n) (k ∷ keys) (h ∷ hops) l m = ap (h ∷◌) (hops_of_rows n keys hops (omega arith) (omega arith))

-- the rows of all keys
abbrev pub all_rows : List ℕ → List ℕ → List Row
all_rows keys hops = rows_of (length keys) keys hops

module _ (n : ℕ) (keys hops : List ℕ) (w : well_formed n keys hops ≡ true) where
  good : good_rows (rows_of n keys hops) ≡ true
  unfolding well_formed
  good = and_right (leb n (list_room keys hops)) _ w

  half : half_rows (rows_of n keys hops) ≡ true
  unfolding good_rows
  half = and_right (hops_given (rows_of n keys hops)) _ good

  pub well_room : n ≤ list_room keys hops
  unfolding well_formed
  well_room = leb-true n (list_room keys hops) (and_left (leb n (list_room keys hops)) _ w)

  pub well_prefixes : prefixes (rows_of n keys hops) ≡ true
  unfolding half_rows
  well_prefixes = and_left (prefixes (rows_of n keys hops)) _ half

  pub well_ascends : ascends (keys_of (rows_of n keys hops)) ≡ true
  unfolding half_rows ascending
  well_ascends = and_right (prefixes (rows_of n keys hops)) _ half

module _ (keys hops : List ℕ) (w : well_formed (length keys) keys hops ≡ true) where
  pub paired : length keys ≤ length hops
  unfolding list_room
  paired = omega (arith, well_room (length keys) keys hops w)

  pub keys_are : keys_of (all_rows keys hops) ≡ keys
  keys_are = keys_of_rows (length keys) keys hops (omega arith) paired ∙ take-length keys

  pub hop_at_lem : (i : ℕ) → i < length keys → get_or (hops_of (all_rows keys hops)) i 0 ≡ get_or hops i 0
  hop_at_lem i l = rw (hops_of_rows (length keys) keys hops (omega arith) paired) (get_or-take (length keys) hops i 0 l)

  pub keys_ascend : ascends keys ≡ true
  keys_ascend = rw keys_are at (well_ascends (length keys) keys hops w)
