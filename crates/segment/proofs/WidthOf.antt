-- Rule 9.2: the width of a segment, from a list's keys. A network is in segment q exactly if its key is from q * 4194304 to just before
-- (q + 1) * 4194304, and 4194304 is 65536 * 64. Ascending keys have those of a segment side by side, so the width is the greatest length
-- among them, less 16, and the keys before and behind them add nothing.
-- Assumes nothing.
use mathlib.Core.Path.{◌≡◌, refl, sym, ap, ◌∙◌}
use mathlib.Core.Logic.{⊎_elim}
use mathlib.Core.Bool.{true}
use mathlib.Core.List.{List, [], ◌∷◌, ◌++◌}
use Prim.Native.Nat.{ℕ, zero, suc, ◌+◌, ◌-◌, ◌*◌, ◌/◌, ◌≤◌, ◌<◌, max}
use native.Mathlib.Nat.{add-zero, max-zero, zero-max, lt_of_not-le}
use native.Mathlib.Numerals.{add-one}
use native.Mathlib.Omega.{arith}
use lib.ListN.{length, get_or, take, drop, length-take, length-drop, take-append-drop}
use lib.Seq.{take-suc, get_or-take, get_or-drop}
use lib.Dec.{ltb}
use borrow.Author.Tests.{eq-eqb, ne_eqb, ltb-true, ltb-false}
use Rattle.ground.specs.Column.{ascends, lower}
use Rattle.ground.proofs.Truth.{decided, cond_true, cond_false}
use Rattle.ground.proofs.Ascends.{ascends_rest, ascends_at}
use Rattle.ground.proofs.Lower.{lower_past, lower_none, lower_le}
use Rattle.cidr.specs.Prefix.{network, length_of}
use Rattle.routes.specs.Row.{Row, keys_of}
use Rattle.segment.specs.Packed.{width}
use Rattle.segment.specs.Inside.Width.{width_by, width_in}

module _ (q : ℕ) where
  pub width_keys : (rows : List Row) → width q rows ≡ width_in q (keys_of rows)
  unfolding width width_in
  width_keys [] = refl
  width_keys (r ∷ rs) = ap (max (width_by q r.key)) (width_keys rs)

  pub width_append : (xs ys : List ℕ) → width_in q (xs ++ ys) ≡ max (width_in q xs) (width_in q ys)
  unfolding width_in
  width_append [] ys = sym (zero-max (width_in q ys))
  width_append (x ∷ xs) ys = rw (width_append xs ys) (omega arith)

  -- one key more
  pub width_more : (keys : List ℕ) (i : ℕ) → i < length keys
      → width_in q (take (i + 1) keys) ≡ max (width_in q (take i keys)) (width_by q (get_or keys i 0))
  unfolding width_in
  width_more keys i l =
      rw (add-one, take-suc keys i 0, width_append (take i keys) (get_or keys i 0 ∷ []), max-zero (width_by q (get_or keys i 0)))

  -- a key of the segment, a key before it and a key behind it
  pub by_inside : (k : ℕ) → q * 4194304 ≤ k → k < (q + 1) * 4194304 → width_by q k ≡ length_of k - 16
  by_inside k from to = cond_true _ _ (eq-eqb (network k / 65536) q (omega arith))

  pub by_before : (k : ℕ) → k < q * 4194304 → width_by q k ≡ 0
  by_before k to = cond_false _ _ (ne_eqb (network k / 65536) q (λ e. omega arith))

  pub by_behind : (k : ℕ) → (q + 1) * 4194304 ≤ k → width_by q k ≡ 0
  by_behind k from = cond_false _ _ (ne_eqb (network k / 65536) q (λ e. omega arith))

  none_inside : (keys : List ℕ) → ((j : ℕ) → j < length keys → width_by q (get_or keys j 0) ≡ 0) → width_in q keys ≡ 0
  unfolding width_in
  none_inside [] h = refl
  none_inside (k ∷ ks) h = rw (h 0 (omega arith), none_inside ks (λ j l. h (suc j) (omega arith)))

  -- where all keys before a place are before the segment, they add nothing
  pub width_before : (keys : List ℕ) (i : ℕ) → ((j : ℕ) → j < i → get_or keys j 0 < q * 4194304) → width_in q (take i keys) ≡ 0
  width_before keys i h = none_inside (take i keys) (λ j l. early j (omega (arith, rw length-take at l)))
    where
      early : (j : ℕ) → j < i → width_by q (get_or (take i keys) j 0) ≡ 0
      early j l = rw get_or-take (by_before (get_or keys j 0) (h j l))

  -- from the first key behind the segment on, they add nothing either
  pub width_behind : (keys : List ℕ) (i : ℕ) → ascends keys ≡ true → (q + 1) * 4194304 ≤ get_or keys i 0
      → width_in q keys ≡ width_in q (take i keys)
  width_behind keys i a from =
      ap (width_in q) (sym (take-append-drop i keys)) ∙ width_append (take i keys) (drop i keys)
      ∙ rw (none_inside (drop i keys) (λ j l. late j (omega (arith, rw length-drop at l)))) (max-zero _)
    where
      past : (j : ℕ) → i + j < length keys → get_or keys i 0 ≤ get_or keys (i + j) 0
      past zero l = rw add-zero (omega arith)
      past (suc j) l = omega (arith, ascends_at keys a i (i + suc j) (omega arith) l)

      late : (j : ℕ) → i + j < length keys → width_by q (get_or (drop i keys) j 0) ≡ 0
      late j l = rw get_or-drop (by_behind (get_or keys (i + j) 0) (omega (arith, past j l)))

-- of ascending keys those below k come first, and the others behind them
module _ (k : ℕ) where
  first_below : (x : ℕ) (xs : List ℕ) → ascends (x ∷ xs) ≡ true → 0 < lower k (x ∷ xs) → x < k
  first_below x xs a l = lt_of_not-le (λ from. omega (arith, lower_none k x xs a from))

  pub below_lower : (keys : List ℕ) → ascends keys ≡ true → (i : ℕ) → i < lower k keys → get_or keys i 0 < k
  below_lower [] a i l = absurd (omega (arith, lower_le k []))
  below_lower (x ∷ xs) a zero l = first_below x xs a l
  below_lower (x ∷ xs) a (suc i) l =
      below_lower xs (ascends_rest x xs a) i (omega (arith, lower_past k x xs (first_below x xs a (omega arith))))

  pub from_lower : (keys : List ℕ) → ascends keys ≡ true → (i : ℕ) → lower k keys ≤ i → i < length keys → k ≤ get_or keys i 0
  from_lower [] a i l m = absurd (omega arith)
  from_lower (x ∷ xs) a zero l m =
      let no : ¬ (x < k) = λ b. omega (arith, lower_past k x xs b) in
      omega arith
  from_lower (x ∷ xs) a (suc i) l m = ⊎_elim
      (λ e. from_lower xs (ascends_rest x xs a) i (omega (arith, lower_past k x xs (ltb-true x k e))) (omega arith))
      (λ e. omega (arith, ltb-false x k e, ascends_at (x ∷ xs) a 0 (suc i) (omega arith) m))
      (decided (ltb x k))
