-- The rows inside a prefix, as the part of two slices between two places. They are a slice of the rows, and a slice of the rows is the rows
-- of the same part of both slices. So that part's rows are `inner`, and are in key order as those are.
-- Assumes nothing.
use mathlib.Core.Path.{◌≡◌, sym, ap, ◌∙◌}
use mathlib.Core.Bool.{true}
use mathlib.Core.List.{List, [], ◌∷◌}
use Prim.Native.Nat.{ℕ, zero, suc, ◌+◌, ◌-◌, ◌*◌, ◌≤◌}
use native.Mathlib.Nat.{sub-zero}
use native.Mathlib.Omega.{arith}
use lib.ListN.{length, take, drop, length-drop}
use lib.Seq.{take-length, length-take-le}
use Rattle.ground.specs.Column.{ascends, lower}
use Rattle.ground.proofs.Lower.{lower_le, lower_mono}
use Rattle.cidr.specs.Prefix.{length_of, end_of, is_prefix}
use Rattle.cidr.proofs.Prefix.{size_pos}
use Rattle.routes.specs.Row.{keys_of, rows_of}
use Rattle.routes.specs.WellFormed.{ascending}
use Rattle.routes.proofs.RowsOf.{rows_taken, rows_front}
use Rattle.routes.proofs.Columns.{keys_of_rows}
use Rattle.routes.proofs.WellFormed.{half_parts, parts_half}
use Rattle.sweep.specs.Sweep.{all_rows, Sorted}
use Rattle.sweep.proofs.Sorted.{in_order}
use Rattle.within.specs.Own.{inner}
use Rattle.within.proofs.Inner.{inner_half}
use Rattle.within.proofs.Slice.{inner_slice}

-- the rows from a place on are those of the slices from there on
rows_back : (f n : ℕ) (keys hops : List ℕ) → f ≤ n → n ≤ length keys → n ≤ length hops
    → drop f (rows_of n keys hops) ≡ rows_of (n - f) (drop f keys) (drop f hops)
unfolding rows_of
rows_back zero n keys hops l m h = rw sub-zero
rows_back (suc f) zero keys hops l m h = absurd (omega arith)
rows_back (suc f) (suc n) [] hops l m h = absurd (omega arith)
rows_back (suc f) (suc n) (k ∷ keys) [] l m h = absurd (omega arith)
rows_back (suc f) (suc n) (k ∷ keys) (h ∷ hops) l m o =
    let less : suc n - suc f ≡ n - f = omega arith in
    rw less (rows_back f n keys hops (omega arith) (omega arith) (omega arith))

-- and those of a part
part_rows : (f m n : ℕ) (keys hops : List ℕ) → f + m ≤ n → n ≤ length keys → n ≤ length hops
    → take m (drop f (rows_of n keys hops)) ≡ all_rows (take m (drop f keys)) (take m (drop f hops))
part_rows f m n keys hops l in_keys in_hops =
    let long : length (take m (drop f keys)) ≡ m = length-take-le m (drop f keys) (omega (arith, length-drop f keys)) in
    ap (take m) (rows_back f n keys hops (omega arith) in_keys in_hops)
    ∙ rows_front m (n - f) (drop f keys) (drop f hops) (omega arith)
    ∙ rw long (sym (rows_taken m (drop f keys) (drop f hops)))

module _ {keys hops : List ℕ} (s : Sorted keys hops) where
  keys_are : keys_of (all_rows keys hops) ≡ keys
  keys_are = keys_of_rows (length keys) keys hops (omega arith) (omega (arith, s.paired)) ∙ take-length keys

  pub keys_ascend : ascends keys ≡ true
  unfolding ascending
  keys_ascend = rw keys_are at (in_order s)

  module _ (k : ℕ) {f u : ℕ} (pre : is_prefix k ≡ true) (from : f ≡ lower (k + 1) keys) (upto : u ≡ lower (end_of k * 64) keys) where
    pub inner_places : (f ≤ u) × (u ≤ length keys)
    inner_places = (
      omega (arith, from, upto, lower_mono (k + 1) (end_of k * 64) (omega (arith, size_pos (length_of k))) keys),
      omega (arith, upto, lower_le (end_of k * 64) keys),
    )

    pub inner_part : inner k (all_rows keys hops) ≡ all_rows (take (u - f) (drop f keys)) (take (u - f) (drop f hops))
    inner_part =
        let slice = rw (keys_are, ← from, ← upto) at (inner_slice k pre (all_rows keys hops) (half_parts (all_rows keys hops) s.half)) in
        slice ∙ part_rows f (u - f) (length keys) keys hops (omega (arith, inner_places)) (omega arith) (omega (arith, s.paired))

    pub inner_sorted : Sorted (take (u - f) (drop f keys)) (take (u - f) (drop f hops))
    inner_sorted = record {
      paired =
          length-take-le (u - f) (drop f hops) (omega (arith, s.paired, length-drop f hops, inner_places))
          ∙ sym (length-take-le (u - f) (drop f keys) (omega (arith, length-drop f keys, inner_places)));
      half = rw inner_part at (parts_half _ (inner_half k (all_rows keys hops) (half_parts (all_rows keys hops) s.half)));
    }
