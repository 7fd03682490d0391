-- Which rows are inside a prefix: the listed ones that it holds and that have a greater key. A row that holds an address of the prefix is
-- inside it or holds it. An edit of the prefix leaves the rows inside it as they were.
-- Assumes nothing.
use mathlib.Core.Path.{◌≡◌, sym, ap}
use mathlib.Core.Bool.{true, not, ◌&&◌}
use mathlib.Core.List.{List}
use Prim.Native.Nat.{ℕ, ◌<◌}
use native.Mathlib.Omega.{arith}
use lib.Dec.{eqb}
use borrow.Author.Tests.{eqb-false, ne_eqb}
use Rattle.ground.proofs.Truth.{and_left, and_right, and_both, never_both, not-true}
use Rattle.cidr.specs.Prefix.{network, length_of, holds, covers}
use Rattle.cidr.proofs.Prefix.{Prefix, prefix_parts, longer_later}
use Rattle.cidr.proofs.Covers.{own_network, covers_holds, covers_of_shared, covers_never_earlier}
use Rattle.routes.specs.Row.{Row}
use Rattle.routes.specs.WellFormed.{ascending}
use Rattle.routes.specs.Change.{announced, withdrawn}
use Rattle.routes.proofs.Row.{Has, those_has, has_those}
use Rattle.routes.proofs.WellFormed.{HalfGood, same_rows}
use Rattle.routes.proofs.Change.{ButFor, Order, order, those_ascending, announced_but_for, announced_ascending, withdrawn_but_for}
use Rattle.within.specs.Own.{inner}

-- a listed row inside the prefix
pub record Inner (k : ℕ) (rows : List Row) (r : Row) : Type 0 where
  pub listed : Has r rows
  pub held : covers k r.key ≡ true
  pub other : k ≡ r.key → ⊥

module _ (k : ℕ) (rows : List Row) where
  pub inner_has : (r : Row) → Has r (inner k rows) → Inner k rows r
  unfolding inner
  inner_has r m =
      let w = those_has (λ r. covers k r.key && not (eqb k r.key)) rows r m in
      record {
        listed = w.0;
        held = and_left (covers k r.key) _ w.1;
        other = eqb-false k r.key (not-true _ (and_right (covers k r.key) _ w.1));
      }

  pub has_inner : (r : Row) → Inner k rows r → Has r (inner k rows)
  unfolding inner
  has_inner r i =
      has_those (λ r. covers k r.key && not (eqb k r.key)) rows r i.listed
      (and_both i.held (ap not (ne_eqb k r.key i.other)))

  pub inner_ascends : ascending rows ≡ true → ascending (inner k rows) ≡ true
  unfolding inner
  inner_ascends asc = those_ascending (λ r. covers k r.key && not (eqb k r.key)) rows asc

  pub inner_half : HalfGood rows → HalfGood (inner k rows)
  inner_half g = record { prefixed = λ r m. g.prefixed r (inner_has r m).listed; ascends = inner_ascends g.ascends }

-- An edit of the prefix leaves the rows inside it as they were.
pub inner_same : (k : ℕ) (rows after : List Row) → ButFor k rows after → ascending rows ≡ true → ascending after ≡ true
    → inner k rows ≡ inner k after
inner_same k rows after b asc asc' =
    same_rows (inner k rows) (inner k after) (inner_ascends k rows asc) (inner_ascends k after asc')
    (λ r m. has_inner k after r (moved rows after b.kept r (inner_has k rows r m)))
    (λ r m. has_inner k rows r (moved after rows b.came r (inner_has k after r m)))
  where
    moved : (xs ys : List Row) → ((r : Row) → Has r xs → (r.key ≡ k → ⊥) → Has r ys) → (r : Row) → Inner k xs r → Inner k ys r
    moved xs ys go r i = record { listed = go r i.listed (λ e. i.other (sym e)); held = i.held; other = i.other }

module _ (k : ℕ) (rows : List Row) (asc : ascending rows ≡ true) where
  pub announced_inner : (h : ℕ) → inner k rows ≡ inner k (announced k h rows)
  announced_inner h = inner_same k rows (announced k h rows) (announced_but_for k h rows) asc (announced_ascending k h rows asc)

  pub withdrawn_inner : inner k rows ≡ inner k (withdrawn k rows)
  unfolding withdrawn
  withdrawn_inner =
      inner_same k rows (withdrawn k rows) (withdrawn_but_for k rows) asc (those_ascending (λ r. not (eqb k r.key)) rows asc)

module _ (k : ℕ) (p : Prefix k) (rows : List Row) (g : HalfGood rows) (r : Row) where
  -- a row inside comes later, and is longer
  pub inner_later : Inner k rows r → k < r.key
  inner_later i = go (order k r.key)
    where
      go : Order k r.key → k < r.key
      go (Order.before l) = l
      go (Order.same e) = absurd (i.other e)
      go (Order.after l) = never_both i.held (covers_never_earlier r.key k l (prefix_parts r.key (g.prefixed r i.listed)))

  pub inner_longer : Inner k rows r → length_of k < length_of r.key
  inner_longer i =
      longer_later k r.key (network r.key) (inner_later i) (covers_holds k r.key i.held)
      (own_network r.key (prefix_parts r.key (g.prefixed r i.listed)))

  -- a later row that holds an address of the prefix is inside
  pub later_inner : Has r rows → k < r.key → (a : ℕ) → holds k a ≡ true → holds r.key a ≡ true → Inner k rows r
  later_inner m lt a e e' = record {
    listed = m;
    held = covers_of_shared k r.key lt p (prefix_parts r.key (g.prefixed r m)) a e e';
    other = λ q. omega arith;
  }
