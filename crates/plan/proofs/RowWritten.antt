-- A list in lent slices, after an edit. In either column the number at the place of the prefix's key goes out, is set or goes in, and the
-- slots are then those of the list after the edit. Where a listed prefix gets another hop, the keys stay as they are.
-- Assumes nothing.
use mathlib.Core.Path.{◌≡◌, sym, ap, ◌∙◌}
use mathlib.Core.Bool.{true, false}
use mathlib.Core.List.{List, map}
use Prim.Native.Nat.{ℕ, ◌-◌, ◌≤◌, ◌<◌, max}
use native.Mathlib.Omega.{arith}
use lib.ListN.{length, take, set, length-map}
use lib.Seq.{set-get_or}
use Rattle.ground.specs.Column.{is_in, inserted_at, removed_at, lower}
use Rattle.ground.specs.Slots.{written, rewritten}
use Rattle.ground.proofs.Slots.{rewritten_same}
use Rattle.routes.specs.Row.{Row, row, rows_of, keys_of, hops_of, list_room}
use Rattle.routes.specs.WellFormed.{ascending, half_formed}
use Rattle.routes.specs.Change.{listed, announced, withdrawn}
use Rattle.routes.proofs.ListTest.{half_ascends}
use Rattle.routes.proofs.Change.{announced_length_new, announced_length_listed}
use Rattle.routes.proofs.Columns.{slots_new, slots_listed, slots_withdrawn, announced_column_listed, listed_place_key}
use Rattle.routes.proofs.Columns.{keys_of_rows, hops_of_rows, length_rows}
use Rattle.runs.proofs.WholeList.{in_keys, in_hops}
use Rattle.std.specs.Prelude.{Result, Ok, Err}
use Rattle.plan.specs.Edited.{edited_rows}
use Rattle.plan.specs.Found.{FoundIn, place_of, stands}
use Rattle.plan.proofs.Edited.{edited_withdrawn, edited_announced}

-- where nothing is left to clear, rewriting is writing
rewritten_long : (new : List ℕ) (count : ℕ) (old : List ℕ) → count ≤ length new → rewritten new count old ≡ written new old
unfolding rewritten written
rewritten_long new count old l =
    let none : count - length new ≡ 0 = omega arith in
    let top : max (length new) count ≡ length new = omega arith in
    rw (none, top)

-- a hop that is set leaves the keys
keys_kept : (k h : ℕ) (rows : List Row) → ascending rows ≡ true → listed k rows ≡ true → keys_of (announced k h rows) ≡ keys_of rows
keys_kept k h rows asc t =
    announced_column_listed k rows asc (λ r. r.key) h t
    ∙ ap (set (keys_of rows) (lower k (keys_of rows))) (sym (listed_place_key k rows asc t))
    ∙ set-get_or (keys_of rows) (lower k (keys_of rows)) 0

-- one column of the rows, in a slice whose first slots hold it
module _ (k h : ℕ) (rows : List Row) (asc : ascending rows ≡ true) (count at : ℕ) (as_many : count ≡ length rows)
    (placed : at ≡ lower k (keys_of rows)) (f : Row → ℕ) (col : List ℕ) (held : take count col ≡ map f rows) where
  column_out : listed k rows ≡ true → removed_at count at col ≡ rewritten (map f (withdrawn k rows)) count col
  column_out t = rw (as_many, placed) (slots_withdrawn k rows asc f col (rw as_many at held) t)

  column_set : listed k rows ≡ true → set col at (f (row k h)) ≡ rewritten (map f (announced k h rows)) count col
  column_set t =
      rw placed (slots_listed k rows asc f col (rw as_many at held) h t)
      ∙ sym (rewritten_long (map f (announced k h rows)) count col
      (omega (arith, length-map (announced k h rows) f, announced_length_listed k h rows asc t)))

  column_in : listed k rows ≡ false → count < length col
      → inserted_at count at (f (row k h)) col ≡ rewritten (map f (announced k h rows)) count col
  column_in t l =
      rw (as_many, placed) (slots_new k rows asc f col (rw as_many at held) h t (omega arith))
      ∙ sym (rewritten_long (map f (announced k h rows)) count col
      (omega (arith, length-map (announced k h rows) f, announced_length_new k h rows t)))

-- both columns of a list
module _ (count : ℕ) (keys hops : List ℕ) (e : half_formed count keys hops ≡ true) (k h : ℕ) (found : Result ℕ ℕ)
    (w : FoundIn (take count keys) k found) where
  abbrev rows : List Row
  rows = rows_of count keys hops

  asc : ascending rows ≡ true
  asc = half_ascends count keys hops e

  keys_are : keys_of rows ≡ take count keys
  keys_are = keys_of_rows count keys hops (in_keys count keys hops e) (in_hops count keys hops e)

  hops_are : hops_of rows ≡ take count hops
  hops_are = hops_of_rows count keys hops (in_keys count keys hops e) (in_hops count keys hops e)

  as_many : count ≡ length rows
  as_many = sym (length_rows count keys hops (in_keys count keys hops e) (in_hops count keys hops e))

  is_listed : listed k rows ≡ stands found
  is_listed = ap (is_in k) keys_are ∙ sym w.listed_is

  placed : place_of found ≡ lower k (keys_of rows)
  placed = w.at_is ∙ ap (lower k) (sym keys_are)

  -- the slots of the list after the edit
  abbrev Left : List ℕ → List ℕ → Type 0
  Left keys' hops' =
      (keys' ≡ rewritten (keys_of (edited_rows k h rows)) count keys) × (hops' ≡ rewritten (hops_of (edited_rows k h rows)) count hops)

  module _ {at : ℕ} where
    pub row_out : h ≡ 0 → found ≡ Ok at → Left (removed_at count at keys) (removed_at count at hops)
    row_out z is = rw (edited_withdrawn k h rows z) (
      column_out k h rows asc count at as_many (at_is is) (λ r. r.key) keys (sym keys_are) (is_listed ∙ ap stands is),
      column_out k h rows asc count at as_many (at_is is) (λ r. r.hop) hops (sym hops_are) (is_listed ∙ ap stands is),
    )
      where
        at_is : found ≡ Ok at → at ≡ lower k (keys_of rows)
        at_is e = sym (ap place_of e) ∙ placed

    module _ (some : h ≡ 0 → ⊥) where
      pub row_set : found ≡ Ok at → Left keys (set hops at h)
      row_set is = let t = is_listed ∙ ap stands is in rw (edited_announced k h rows some) (
        sym (rewritten_same (keys_of (announced k h rows)) count keys (sym (keys_kept k h rows asc t ∙ keys_are))
            (omega (arith, length-map (announced k h rows) (λ r. r.key), as_many, announced_length_listed k h rows asc t))),
        column_set k h rows asc count at as_many (sym (ap place_of is) ∙ placed) (λ r. r.hop) hops (sym hops_are) t,
      )

      pub row_in : found ≡ Err at → length (edited_rows k h rows) ≤ list_room keys hops
          → Left (inserted_at count at k keys) (inserted_at count at h hops)
      unfolding list_room
      row_in is room =
          let new = is_listed ∙ ap stands is in
          let at_is = sym (ap place_of is) ∙ placed in
          let more = ap length (edited_announced k h rows some) ∙ announced_length_new k h rows new in
          rw (edited_announced k h rows some) (
            column_in k h rows asc count at as_many at_is (λ r. r.key) keys (sym keys_are) new (omega (arith, as_many)),
            column_in k h rows asc count at as_many at_is (λ r. r.hop) hops (sym hops_are) new (omega (arith, as_many)),
          )
