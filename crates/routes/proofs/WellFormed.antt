-- What a well-formed list's rows are, row by row: prefixes, hops that aren't 0, and each key below those after it.
-- Assumes nothing.
use mathlib.Core.Path.{◌≡◌, refl, sym, ap, ◌∙◌, subst}
use mathlib.Core.Logic.{◌⊎◌, inl, inr, ⊎_elim}
use mathlib.Core.Bool.{true, not}
use mathlib.Core.List.Memᴰ
use mathlib.Core.List.{List, [], ◌∷◌, ◌++◌}
use Prim.Native.Nat.{◌<◌}
use native.Mathlib.Nat.{lt_trans, lt_irrefl}
use borrow.Author.Tests.{ltb-true, lt-ltb, eqb-false, ne_eqb}
use lib.Dec.{eqb}
use Rattle.ground.proofs.Truth.{and_left, and_right, and_both, not-true}
use Rattle.ground.specs.Column.{below, ascends}
use Rattle.cidr.specs.Prefix.{is_prefix}
use Rattle.routes.specs.Row.{Row, keys_of}
use Rattle.routes.specs.WellFormed.{prefixes, hops_given, ascending, half_rows, good_rows}
use Rattle.routes.proofs.Row.{Has, every_has, has_every}

-- keys ascend: the first is below every other one
pub first_below : (r : Row) (rows : List Row) → ascending (r ∷ rows) ≡ true → (s : Row) → Has s rows → r.key < s.key
unfolding ascending ascends
first_below r [] e s m = absurd (Memᴰ.not-nil m)
first_below r (t ∷ ts) e s m =
    ⊎_elim (λ q. subst (λ x. r.key < x.key) (sym q) next) (λ n. lt_trans next (first_below t ts rest s n)) (Memᴰ.cases_cons m)
  where
    next : r.key < t.key
    next = ltb-true _ _ (and_left (below r.key (keys_of (t ∷ ts))) (ascends (keys_of (t ∷ ts))) e)

    rest : ascends (keys_of (t ∷ ts)) ≡ true
    rest = and_right (below r.key (keys_of (t ∷ ts))) (ascends (keys_of (t ∷ ts))) e

pub ascending_tail : (r : Row) (rows : List Row) → ascending (r ∷ rows) ≡ true → ascending rows ≡ true
unfolding ascending ascends
ascending_tail r rows e = and_right (below r.key (keys_of rows)) (ascends (keys_of rows)) e

pub ascending_cons : (r : Row) (rows : List Row) → ((s : Row) → Has s rows → r.key < s.key) → ascending rows ≡ true
    → ascending (r ∷ rows) ≡ true
unfolding ascending ascends
ascending_cons r [] h e = refl
ascending_cons r (t ∷ ts) h e = and_both (lt-ltb _ _ (h t (Memᴰ.head refl))) e

-- rows that ascend, one part behind another: both parts ascend, and each key of the first is below each of the second
module _ (ys : List Row) where
  pub ascending_front : (xs : List Row) → ascending (xs ++ ys) ≡ true → ascending xs ≡ true
  unfolding ascending ascends
  ascending_front [] e = refl
  ascending_front (x ∷ xs) e =
      ascending_cons x xs (λ s m. first_below x (xs ++ ys) e s (Memᴰ.append_left ys m))
      (ascending_front xs (ascending_tail x (xs ++ ys) e))

  pub ascending_back : (xs : List Row) → ascending (xs ++ ys) ≡ true → ascending ys ≡ true
  ascending_back [] e = e
  ascending_back (x ∷ xs) e = ascending_back xs (ascending_tail x (xs ++ ys) e)

  pub front_below : (xs : List Row) → ascending (xs ++ ys) ≡ true → (r s : Row) → Has r xs → Has s ys → r.key < s.key
  front_below [] e r s m n = absurd (Memᴰ.not-nil m)
  front_below (x ∷ xs) e r s m n = ⊎_elim
      (λ q. subst (λ z. z.key < s.key) (sym q) (first_below x (xs ++ ys) e s (Memᴰ.append_right xs n)))
      (λ m'. front_below xs (ascending_tail x (xs ++ ys) e) r s m' n)
      (Memᴰ.cases_cons m)

-- so a key stands in one row only
pub one_row : (rows : List Row) → ascending rows ≡ true → (r s : Row) → Has r rows → Has s rows → r.key ≡ s.key → r ≡ s
one_row [] a r s m n e = absurd (Memᴰ.not-nil m)
one_row (t ∷ ts) a r s m n e = go (Memᴰ.cases_cons m) (Memᴰ.cases_cons n) (one_row ts (ascending_tail t ts a) r s)
  where
    go : (r ≡ t) ⊎ Has r ts → (s ≡ t) ⊎ Has s ts → (Has r ts → Has s ts → r.key ≡ s.key → r ≡ s) → r ≡ s
    go (inl q) (inl q') rec = q ∙ sym q'
    go (inl q) (inr n') rec = absurd (lt_irrefl _ (subst (λ x. x < s.key) (ap (λ x. x.key) (sym q) ∙ e) (first_below t ts a s n')))
    go (inr m') (inl q) rec = absurd (lt_irrefl _ (subst (λ x. x < r.key) (ap (λ x. x.key) (sym q) ∙ sym e) (first_below t ts a r m')))
    go (inr m') (inr n') rec = rec m' n' e

-- and two lists that ascend and have the same rows are one
pub same_rows : (xs ys : List Row) → ascending xs ≡ true → ascending ys ≡ true → ((r : Row) → Has r xs → Has r ys)
    → ((r : Row) → Has r ys → Has r xs) → xs ≡ ys
same_rows [] [] a b to from = refl
same_rows [] (y ∷ ys) a b to from = absurd (Memᴰ.not-nil (from y (Memᴰ.head refl)))
same_rows (x ∷ xs) [] a b to from = absurd (Memᴰ.not-nil (to x (Memᴰ.head refl)))
same_rows (x ∷ xs) (y ∷ ys) a b to from =
    ap (◌∷ xs) first
    ∙ ap (y ∷◌) (same_rows xs ys (ascending_tail x xs a) (ascending_tail y ys b)
    (λ r m. later y ys r (subst (λ z. z.key < r.key) first (first_below x xs a r m)) (to r (Memᴰ.tail m)))
    (λ r m. later x xs r (subst (λ z. z.key < r.key) (sym first) (first_below y ys b r m)) (from r (Memᴰ.tail m))))
  where
    later : (t : Row) (ts : List Row) (r : Row) → t.key < r.key → Has r (t ∷ ts) → Has r ts
    later t ts r l m = ⊎_elim (λ q. absurd (lt_irrefl _ (subst (λ z. t.key < z.key) q l))) (λ n. n) (Memᴰ.cases_cons m)

    first : x ≡ y
    first = ⊎_elim
        (λ q. q)
        (λ m. ⊎_elim sym (λ n. absurd (lt_irrefl _ (lt_trans (first_below x xs a y n) (first_below y ys b x m))))
        (Memᴰ.cases_cons (from y (Memᴰ.head refl))))
        (Memᴰ.cases_cons (to x (Memᴰ.head refl)))

-- the parts of a half that 11 lets pass
pub record HalfGood (rows : List Row) : Type 0 where
  pub prefixed : (r : Row) → Has r rows → is_prefix r.key ≡ true
  pub ascends : ascending rows ≡ true

module _ (rows : List Row) where
  pub half_parts : half_rows rows ≡ true → HalfGood rows
  unfolding half_rows prefixes
  half_parts e = record {
    prefixed = every_has (λ r. is_prefix r.key) rows (and_left (prefixes rows) (ascending rows) e);
    ascends = and_right (prefixes rows) (ascending rows) e;
  }

  pub parts_half : HalfGood rows → half_rows rows ≡ true
  unfolding half_rows prefixes
  parts_half g = and_both (has_every (λ r. is_prefix r.key) rows g.prefixed) g.ascends

-- the parts of a list that 11 lets pass
pub record Good (rows : List Row) : Type 0 where
  pub prefixed : (r : Row) → Has r rows → is_prefix r.key ≡ true
  pub given : (r : Row) → Has r rows → r.hop ≡ 0 → ⊥
  pub ascends : ascending rows ≡ true

-- what a half's rows must be, a list's are
pub good_half : {rows : List Row} → Good rows → HalfGood rows
good_half g = record { prefixed = g.prefixed; ascends = g.ascends }

module _ (rows : List Row) (e : good_rows rows ≡ true) where
  rest : half_rows rows ≡ true
  unfolding good_rows
  rest = and_right (hops_given rows) (half_rows rows) e

  hops : hops_given rows ≡ true
  unfolding good_rows
  hops = and_left (hops_given rows) (half_rows rows) e

  pub good_parts : Good rows
  unfolding good_rows half_rows prefixes hops_given
  good_parts = record {
    prefixed = every_has (λ r. is_prefix r.key) rows (and_left (prefixes rows) (ascending rows) rest);
    given = λ r m. eqb-false _ _ (not-true _ (every_has (λ r. not (eqb r.hop 0)) rows hops r m));
    ascends = and_right (prefixes rows) (ascending rows) rest;
  }

pub parts_good : (rows : List Row) → Good rows → good_rows rows ≡ true
unfolding good_rows half_rows prefixes hops_given
parts_good rows g =
    and_both (has_every (λ r. not (eqb r.hop 0)) rows (λ r m. ap not (ne_eqb _ _ (g.given r m))))
    (and_both (has_every (λ r. is_prefix r.key) rows g.prefixed) g.ascends)
