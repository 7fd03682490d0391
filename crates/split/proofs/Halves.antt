-- Rule 11.6: the count of the second half is n - k + 1. And which rows the halves have: rows of the list, and each key of the first half is
-- below all of the rest. So both halves are what half lookup asks, the second one since 0.0.0.0/0 is before all that isn't first.
-- Assumes nothing.
use mathlib.Core.Path.{◌≡◌, refl, sym, ap, ◌∙◌}
use mathlib.Core.Logic.{◌⊎◌, inl, inr, ⊎_elim}
use mathlib.Core.Bool.{true}
use mathlib.Core.List.Memᴰ
use mathlib.Core.List.{List, [], ◌∷◌, map}
use Prim.Native.Nat.{ℕ, zero, suc, ◌+◌, ◌-◌, ◌≤◌, ◌<◌}
use native.Mathlib.Omega.{arith}
use lib.ListN.{length, take, drop, length-map, length-drop, take-append-drop}
use Rattle.cidr.specs.Prefix.{size, host_bits, is_prefix}
use Rattle.routes.specs.Row.{Row, row, keys_of}
use Rattle.routes.specs.WellFormed.{ascending, half_rows}
use Rattle.routes.proofs.Row.{Has}
use Rattle.routes.proofs.WellFormed.{first_below, ascending_cons, ascending_front, ascending_back, front_below, HalfGood, parts_half}
use Rattle.split.specs.Split.{default_key, relabelled, first_half, second_half}

pub second_half_length : (k : ℕ) (rows : List Row) → length (second_half k rows) ≡ length rows - k + 1
unfolding second_half
second_half_length k rows = omega (arith, length-map (drop k rows) (relabelled (first_half k rows)), length-drop k rows)

-- a label changes no key
pub same_key : (first : List Row) (r : Row) → (relabelled first r).key ≡ r.key
unfolding relabelled
same_key first r = refl

pub labelled_key : (first : List Row) (r s : Row) → relabelled first r ≡ s → s.key ≡ r.key
labelled_key first r s q = ap (λ x. x.key) (sym q) ∙ same_key first r

same_keys : (first rows : List Row) → keys_of (map (relabelled first) rows) ≡ keys_of rows
same_keys first [] = refl
same_keys first (r ∷ rs) = rw (same_key first r, same_keys first rs)

module _ (k : ℕ) (rows : List Row) where
  pub first_has : (r : Row) → Has r (first_half k rows) → Has r rows
  unfolding first_half
  first_has r m = rw take-append-drop at (Memᴰ.append_left (drop k rows) m)

  pub rest_has : (r : Row) → Has r (drop k rows) → Has r rows
  rest_has r m = rw take-append-drop at (Memᴰ.append_right (take k rows) m)

  pub has_either : (r : Row) → Has r rows → Has r (first_half k rows) ⊎ Has r (drop k rows)
  unfolding first_half
  has_either r m = Memᴰ.append_cases (take k rows) (rw take-append-drop m)

  -- the second half's rows are its default row, and those of the rest with their labels
  pub second_has : (s : Row) → Has s (second_half k rows)
      → (s ≡ row default_key 0) ⊎ ((r : Row) × Has r (drop k rows) × (relabelled (first_half k rows) r ≡ s))
  unfolding second_half
  second_has s m = ⊎_elim inl (λ n. inr (Memᴰ.of_map (relabelled (first_half k rows)) (drop k rows) n)) (Memᴰ.cases_cons m)

  pub second_lists : (r : Row) → Has r (drop k rows) → Has (relabelled (first_half k rows) r) (second_half k rows)
  unfolding second_half
  second_lists r m = Memᴰ.tail (Memᴰ.map (relabelled (first_half k rows)) m)

  pub first_before : ascending rows ≡ true → (r s : Row) → Has r (first_half k rows) → Has s (drop k rows) → r.key < s.key
  unfolding first_half
  first_before asc = front_below (drop k rows) (take k rows) (rw take-append-drop asc)

-- only the first key can be 0
rest_above : (k : ℕ) (rows : List Row) → 1 ≤ k → ascending rows ≡ true → (r : Row) → Has r (drop k rows) → default_key < r.key
rest_above zero rows l asc r m = absurd (omega arith)
rest_above (suc k) [] l asc r m = absurd (Memᴰ.not-nil m)
rest_above (suc k) (t ∷ ts) l asc r m = omega (arith, first_below t ts asc r (rest_has k ts r m))

default_prefix : is_prefix default_key ≡ true
unfolding is_prefix host_bits size
default_prefix = refl

module _ (k : ℕ) (rows : List Row) (g : HalfGood rows) where
  pub first_parts : HalfGood (first_half k rows)
  unfolding first_half
  first_parts = record {
    prefixed = λ r m. g.prefixed r (first_has k rows r m);
    ascends = ascending_front (drop k rows) (take k rows) (rw take-append-drop g.ascends);
  }

  pub first_half_good : half_rows (first_half k rows) ≡ true
  first_half_good = parts_half (first_half k rows) first_parts

  module _ (some : 1 ≤ k) where
    default_below : (s : Row) → Has s (map (relabelled (first_half k rows)) (drop k rows)) → default_key < s.key
    default_below s m =
        let w = Memᴰ.of_map (relabelled (first_half k rows)) (drop k rows) m in
        rw (labelled_key (first_half k rows) w.0 s w.2) (rest_above k rows some g.ascends w.0 w.1)

    rest_ascends : ascending (map (relabelled (first_half k rows)) (drop k rows)) ≡ true
    unfolding ascending
    rest_ascends = rw same_keys (ascending_back (drop k rows) (take k rows) (rw take-append-drop g.ascends))

    pub second_parts : HalfGood (second_half k rows)
    unfolding second_half
    second_parts = record {
      prefixed = λ s m. ⊎_elim
          (λ q. ap (λ r. is_prefix r.key) q ∙ default_prefix)
          (λ w. rw (labelled_key (first_half k rows) w.0 s w.2) (g.prefixed w.0 (rest_has k rows w.0 w.1)))
          (second_has k rows s m);
      ascends = ascending_cons (row default_key 0) _ default_below rest_ascends;
    }

    pub second_half_good : half_rows (second_half k rows) ≡ true
    second_half_good = parts_half (second_half k rows) second_parts
