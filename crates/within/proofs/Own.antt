-- The answer at an address of the prefix that no row inside holds. The rows that hold the address then are those that hold the prefix, so
-- the answer is the hop of the longest of them. Where the prefix is listed that is its own row; after a withdrawal, the longest other one.
-- Assumes nothing.
use mathlib.Core.Path.{◌≡◌, sym, ap, ◌∙◌}
use mathlib.Core.Logic.{⊎_elim}
use mathlib.Core.Bool.{true, false, not, ◌&&◌}
use mathlib.Core.List.{List}
use Prim.Native.Nat.{ℕ}
use lib.Dec.{eqb}
use Rattle.ground.proofs.Truth.{decided, never_both}
use Rattle.cidr.specs.Prefix.{network, holds, is_prefix, covers}
use Rattle.cidr.proofs.Prefix.{prefix_parts}
use Rattle.cidr.proofs.Covers.{own_network, covers_self, covers_holds, covers_shorter, covers_later, holds_later, covers_never_earlier}
use Rattle.routes.specs.Row.{Row, row, those}
use Rattle.routes.specs.WellFormed.{ascending}
use Rattle.routes.specs.Plain.{matching, longest, hop_of, plain}
use Rattle.routes.specs.Change.{announced, withdrawn}
use Rattle.routes.proofs.Row.{Has, those_has, has_those, those_same, those_all, those_those}
use Rattle.routes.proofs.WellFormed.{HalfGood}
use Rattle.routes.proofs.Plain.{plain_longest}
use Rattle.routes.proofs.Change.{Order, order, those_ascending, has_announced, announced_ascending}
use Rattle.within.specs.Own.{enclosing, enclosing_hop, inner}
use Rattle.within.proofs.Inner.{has_inner, later_inner}

module _ (k : ℕ) (pre : is_prefix k ≡ true) where
  pub own_answer : (rows : List Row) → HalfGood rows → (a : ℕ) → holds k a ≡ true
      → ((r : Row) → Has r (inner k rows) → holds r.key a ≡ false) → plain rows a ≡ enclosing_hop k rows
  unfolding plain matching enclosing_hop enclosing
  own_answer rows g a held none_in = ap (λ rs. hop_of (longest rs))
      (those_same (λ r. holds r.key a) (λ r. covers r.key k) rows (λ r m. go r m (order k r.key)))
    where
      go : (r : Row) → Has r rows → Order k r.key → holds r.key a ≡ covers r.key k
      go r m (Order.before l) =
          ⊎_elim (λ e. never_both e (none_in r (has_inner k rows r (later_inner k (prefix_parts k pre) rows g r m l a held e))))
          (λ e. e ∙ sym (covers_never_earlier k r.key l (prefix_parts k pre))) (decided (holds r.key a))
      go r m (Order.same e) = rw (← e) (held ∙ sym (covers_self k (prefix_parts k pre)))
      go r m (Order.after l) =
          sym (covers_later r.key k l (prefix_parts k pre)
          ∙ holds_later r.key k l (prefix_parts r.key (g.prefixed r m)) (prefix_parts k pre) a held)

  -- the hop of the longest row around is a plain answer: that of those rows, at the prefix's network
  pub enclosing_plain : (rows : List Row) → enclosing_hop k rows ≡ plain (enclosing k rows) (network k)
  unfolding plain matching enclosing_hop enclosing
  enclosing_plain rows = ap (λ rs. hop_of (longest rs))
      (sym (those_all (λ r. holds r.key (network k)) (enclosing k rows)
      (λ r m. covers_holds r.key k (those_has (λ r. covers r.key k) rows r m).1)))

  pub listed_own : (rows : List Row) → ascending rows ≡ true → (h : ℕ) → Has (row k h) rows → enclosing_hop k rows ≡ h
  unfolding enclosing
  listed_own rows asc h m =
      enclosing_plain rows
      ∙ plain_longest (enclosing k rows) (network k) (those_ascending (λ r. covers r.key k) rows asc) (row k h) (record {
        listed = has_those (λ r. covers r.key k) rows (row k h) m (covers_self k (prefix_parts k pre));
        matches = own_network k (prefix_parts k pre);
        longest = λ s n e. covers_shorter s.key k (those_has (λ r. covers r.key k) rows s n).1;
      })

  pub announced_own : (rows : List Row) → ascending rows ≡ true → (h : ℕ) → enclosing_hop k (announced k h rows) ≡ h
  announced_own rows asc h = listed_own (announced k h rows) (announced_ascending k h rows asc) h (has_announced k h rows)

-- after a withdrawal: the longest row that holds the prefix and isn't the prefix's
pub withdrawn_own : (k : ℕ) (rows : List Row)
    → enclosing_hop k (withdrawn k rows) ≡ hop_of (longest (those (λ r. covers r.key k && not (eqb k r.key)) rows))
unfolding enclosing_hop enclosing withdrawn
withdrawn_own k rows = ap (λ rs. hop_of (longest rs)) (those_those (λ r. covers r.key k) (λ r. not (eqb k r.key)) rows)
