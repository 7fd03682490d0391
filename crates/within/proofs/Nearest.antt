-- The rows around a prefix, by their lengths. The prefix of a length that holds an address is the only one of that length, so a row around
-- has the key that the code makes of the network and the row's length. A key that isn't at the place that halving finds is no row's. Tried
-- from the longest length down, the first row found is the longest of those around that aren't the prefix's own.
-- Assumes nothing.
use mathlib.Core.Path.{◌≡◌, sym, ap, ◌∙◌, subst}
use mathlib.Core.Bool.{true, not}
use mathlib.Core.List.{List}
use Prim.Native.Nat.{ℕ, ◌-◌, ◌≤◌, ◌<◌}
use native.Mathlib.Omega.{arith}
use lib.ListN.{length, get_or}
use lib.Arith.{lt_of_le-ne}
use lib.Dec.{eqb}
use borrow.Author.Tests.{le-leb}
use Rattle.ground.specs.Column.{lower}
use Rattle.ground.proofs.Truth.{and_both}
use Rattle.cidr.specs.Prefix.{key_of, network, length_of, holds, is_prefix, covers}
use Rattle.cidr.proofs.Prefix.{prefix_parts, network_key, length_key, key_around, key_around_holds, only_key_around, same_key}
use Rattle.cidr.proofs.Covers.{own_network, covers_holds, covers_shorter}
use Rattle.routes.specs.Row.{Row, row}
use Rattle.routes.specs.WellFormed.{ascending}
use Rattle.routes.specs.Change.{listed, withdrawn}
use Rattle.routes.proofs.Row.{Has, has_at, those_has, has_those}
use Rattle.routes.proofs.RowsOf.{row_at, row_there}
use Rattle.routes.proofs.Plain.{plain_longest, plain_no_match}
use Rattle.routes.proofs.Change.{has_listed, withdrawn_has, has_withdrawn, those_ascending}
use Rattle.routes.proofs.Columns.{length_rows, listed_place_lt, listed_place_key}
use Rattle.sweep.specs.Sweep.{all_rows, Sorted}
use Rattle.sweep.proofs.Sorted.{hop_there, in_order, keys_are}
use Rattle.within.specs.Own.{enclosing, enclosing_hop}
use Rattle.within.proofs.Own.{enclosing_plain}

-- the rows that hold prefix k and aren't its own are shorter than l
pub record Shorter (keys hops : List ℕ) (k l : ℕ) : Type 0 where
  pub upto : l ≤ length_of k
  pub shorter : (r : Row) → Has r (all_rows keys hops) → covers r.key k ≡ true → (r.key ≡ k → ⊥) → length_of r.key < l

-- a key around a prefix's network, by the key or by its network
pub around_network : (net len l : ℕ) → len ≤ 32 → key_around net l ≡ key_around (network (key_of net len)) l
around_network net len l short = ap (λ a. key_around a l) (sym (network_key net len (omega arith)))

module _ {keys hops : List ℕ} (s : Sorted keys hops) where
  rows_count : length (all_rows keys hops) ≡ length keys
  rows_count = length_rows (length keys) keys hops (omega arith) (omega (arith, s.paired))

  -- the row at a place is one
  pub row_listed : (i : ℕ) → i < length keys → Has (row_at keys hops i) (all_rows keys hops)
  row_listed i l =
      subst (λ r. Has r (all_rows keys hops)) (row_there (length keys) keys hops i (row 0 0) l l (hop_there s i l))
      (has_at (all_rows keys hops) i (row 0 0) (omega (arith, rows_count)))

  -- a key that isn't at its place is no row's
  no_row : (key place : ℕ) → place ≡ lower key keys → (place < length keys → get_or keys place 0 ≡ key → ⊥)
      → (r : Row) → Has r (all_rows keys hops) → r.key ≡ key → ⊥
  no_row key place is not_there r m e =
      not_there
      (rw (keys_are s, ← is, rows_count) at (listed_place_lt key (all_rows keys hops) (in_order s) listed_key))
      (rw (keys_are s, ← is) at (listed_place_key key (all_rows keys hops) (in_order s) listed_key))
    where
      listed_key : listed key (all_rows keys hops) ≡ true
      listed_key = has_listed key (all_rows keys hops) r m e

  module _ (k : ℕ) (pre : is_prefix k ≡ true) where
    pub shorter_start : Shorter keys hops k (length_of k)
    shorter_start = record {
      upto = omega arith;
      shorter = λ r m e other. lt_of_le-ne (covers_shorter r.key k e)
          (λ q. other (same_key r.key k (network k) q (covers_holds r.key k e) (own_network k (prefix_parts k pre))));
    }

    module _ (l : ℕ) (w : Shorter keys hops k l) (some : 0 < l) (key : ℕ) (is : key ≡ key_around (network k) (l - 1)) where
      short : l - 1 ≤ 32
      short = omega (arith, w.upto, (prefix_parts k pre).short)

      pub shorter_next : (place : ℕ) → place ≡ lower key keys → (place < length keys → get_or keys place 0 ≡ key → ⊥)
          → Shorter keys hops k (l - 1)
      shorter_next place placed not_there = record {
        upto = omega (arith, w.upto);
        shorter = λ r m e other. lt_of_le-ne (omega (arith, w.shorter r m e other)) (λ q. no_row key place placed not_there r m
            (only_key_around r.key (network k) (covers_holds r.key k e) ∙ ap (key_around (network k)) q ∙ sym is));
      }

      key_length : length_of key ≡ l - 1
      key_length = ap length_of is ∙ length_key _ (l - 1) (omega (arith, short))

      key_holds : holds key (network k) ≡ true
      key_holds = ap (λ x. holds x (network k)) is ∙ key_around_holds (network k) (l - 1) (omega (arith, short))

      key_covers : covers key k ≡ true
      unfolding covers
      key_covers = and_both (le-leb (length_of key) (length_of k) (omega (arith, key_length, w.upto))) key_holds

      pub found_parent : (i : ℕ) → i < length keys → get_or keys i 0 ≡ key → get_or hops i 0 ≡ enclosing_hop k (withdrawn k (all_rows keys hops))
      unfolding enclosing withdrawn
      found_parent i there e = sym (enclosing_plain k pre rest ∙ plain_longest (enclosing k rest) (network k) ascend found (record {
        listed = has_those (λ r. covers r.key k) rest found
            (has_withdrawn k rows found (row_listed i there) other)
            (ap (λ x. covers x k) e ∙ key_covers);
        matches = ap (λ x. holds x (network k)) e ∙ key_holds;
        longest = λ r m h. as_long r m;
      }))
        where
          rows : List Row
          rows = all_rows keys hops

          rest : List Row
          rest = withdrawn k rows

          found : Row
          found = row_at keys hops i

          ascend : ascending (enclosing k rest) ≡ true
          ascend = those_ascending (λ r. covers r.key k) rest (those_ascending (λ r. not (eqb k r.key)) rows (in_order s))

          other : get_or keys i 0 ≡ k → ⊥
          other q = omega (arith, key_length, ap length_of (sym e ∙ q), w.upto)

          as_long : (r : Row) → Has r (enclosing k rest) → length_of r.key ≤ length_of (get_or keys i 0)
          as_long r m =
              let in_rest = those_has (λ r. covers r.key k) rest r m in
              let in_rows = withdrawn_has k rows r in_rest.0 in
              omega (arith, w.shorter r in_rows.0 in_rest.1 in_rows.1, key_length, ap length_of e)

    pub no_parent : Shorter keys hops k 0 → 0 ≡ enclosing_hop k (withdrawn k (all_rows keys hops))
    unfolding enclosing
    no_parent w = sym (enclosing_plain k pre rest ∙ plain_no_match (enclosing k rest) (network k) (λ r m. absurd (none_in r m)))
      where
        rest : List Row
        rest = withdrawn k (all_rows keys hops)

        none_in : (r : Row) → Has r (enclosing k rest) → ⊥
        none_in r m =
            let in_rest = those_has (λ r. covers r.key k) rest r m in
            let in_rows = withdrawn_has k (all_rows keys hops) r in_rest.0 in
            omega (arith, w.shorter r in_rows.0 in_rest.1 in_rows.1)
