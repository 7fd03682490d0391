-- A walk along rows in key order, that sums what the outermost of them hold. It has the rows from its place on before it: what those hold,
-- from the end of the last outermost row on, completes the sum. Each such row begins where the last one ended or later, so the sum is at
-- most what lies before that end.
-- Assumes nothing.
use mathlib.Core.Path.{◌≡◌, ap}
use mathlib.Core.List.{List, ◌∷◌}
use Prim.Native.Nat.{ℕ, ◌+◌, ◌-◌, ◌≤◌, ◌<◌}
use native.Mathlib.Numerals.{add-one}
use native.Mathlib.Omega.{arith}
use lib.ListN.{length, get_or, drop, drop_of_length-le}
use lib.Seq.{drop-cons}
use borrow.Author.Tests.{le-leb, lt-leb}
use Rattle.cidr.specs.Prefix.{network, length_of, size, end_of}
use Rattle.cidr.proofs.Prefix.{end_within}
use Rattle.routes.specs.Row.{Row, row}
use Rattle.routes.proofs.RowsOf.{row_at, row_there}
use Rattle.routes.proofs.Columns.{length_rows}
use Rattle.sweep.specs.Sweep.{all_rows, Sorted}
use Rattle.sweep.proofs.Sorted.{hop_there, prefix_there}
use Rattle.within.specs.Own.{outer_size}

-- one row more at the front: it counts if it begins at e or later
module _ (e : ℕ) (r : Row) (rs : List Row) where
  outer_counts : e ≤ network r.key → outer_size e (r ∷ rs) ≡ size (length_of r.key) + outer_size (end_of r.key) rs
  unfolding outer_size
  outer_counts l = rw (le-leb e (network r.key) l)

  inner_skips : network r.key < e → outer_size e (r ∷ rs) ≡ outer_size e rs
  unfolding outer_size
  inner_skips l = rw (lt-leb e (network r.key) l)

module _ {keys hops : List ℕ} (s : Sorted keys hops) where
  as_many : length (all_rows keys hops) ≡ length keys
  as_many = length_rows (length keys) keys hops (omega arith) (omega (arith, s.paired))

  ahead_next : (i : ℕ) → i < length keys → drop i (all_rows keys hops) ≡ row_at keys hops i ∷ drop (i + 1) (all_rows keys hops)
  ahead_next i l =
      let first = row_there (length keys) keys hops i (row 0 0) l l (hop_there s i l) in
      rw (add-one, ← first) (drop-cons (all_rows keys hops) i (row 0 0) (omega (arith, as_many)))

-- what was summed and what the outermost rows ahead hold make the whole
pub record Summing (keys hops : List ℕ) (from end sum i : ℕ) : Type 0 where
  pub whole : sum + outer_size end (drop i (all_rows keys hops)) ≡ outer_size from (all_rows keys hops)
  pub few : from + sum ≤ end
  pub fits : end ≤ 4294967296

pub summing_start : {keys hops : List ℕ} {from : ℕ} → from ≤ 4294967296 → Summing keys hops from from 0 0
summing_start l = record { whole = omega arith; few = omega arith; fits = l }

module _ {keys hops : List ℕ} (sorted : Sorted keys hops) {from end sum i : ℕ} (s : Summing keys hops from end sum i) where
  module _ (l : i < length keys) where
    pub end_fits : end_of (get_or keys i 0) ≤ 4294967296
    end_fits = end_within (get_or keys i 0) (prefix_there sorted i l)

    one_ahead : outer_size end (drop i (all_rows keys hops)) ≡ outer_size end (row_at keys hops i ∷ drop (i + 1) (all_rows keys hops))
    one_ahead = ap (outer_size end) (ahead_next sorted i l)

    pub summing_outer : {net to : ℕ} → net ≡ network (get_or keys i 0) → to ≡ end_of (get_or keys i 0) → end ≤ net
        → Summing keys hops from to (sum + (to - net)) (i + 1)
    summing_outer {net} {to} n t first =
        let counts = outer_counts end (row_at keys hops i) (drop (i + 1) (all_rows keys hops)) (omega arith) in
        record {
          whole = rw t (omega (arith, s.whole, one_ahead, counts));
          few = omega (arith, s.few);
          fits = omega (arith, end_fits);
        }

    pub summing_inner : {net : ℕ} → net ≡ network (get_or keys i 0) → net < end → Summing keys hops from end sum (i + 1)
    summing_inner n inside =
        let skips = inner_skips end (row_at keys hops i) (drop (i + 1) (all_rows keys hops)) (omega arith) in
        record { whole = omega (arith, s.whole, one_ahead, skips); few = s.few; fits = s.fits }

  pub summing_end : length keys ≤ i → sum ≡ outer_size from (all_rows keys hops)
  unfolding outer_size
  summing_end l =
      let none = ap (outer_size end) (drop_of_length-le (all_rows keys hops) {i = i} (omega (arith, as_many sorted))) in
      omega (arith, s.whole, none)
