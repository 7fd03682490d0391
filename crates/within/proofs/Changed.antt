-- The changed number of an edit. Outside the prefix and in the rows inside it no answer changes. At the prefix's own addresses the answer
-- is the hop of the longest row around, before and after. So nothing changes where these two hops are equal, and else all own addresses
-- do: as many as the prefix holds, less those of the outermost rows inside it.
-- Assumes nothing.
use mathlib.Core.Path.{◌≡◌, sym, ap, ◌∙◌}
use mathlib.Core.Logic.{◌⊎◌, inl, inr, ⊎_elim}
use mathlib.Core.Bool.{Bool, true, false, not, cond}
use mathlib.Core.List.{List}
use Prim.Native.Nat.{ℕ, ◌+◌, ◌-◌, ◌<◌, ◌≤◌}
use native.Mathlib.Nat.{zero-add}
use native.Mathlib.Omega.{arith}
use lib.Dec.{eqb}
use borrow.Author.Tests.{eqb-true, eqb-false, eq-eqb, ne_eqb}
use Rattle.ground.proofs.Truth.{decided, never_both, cond_true, cond_false}
use Rattle.ground.specs.Stretch.{counted}
use Rattle.ground.specs.Stretch.Count.{counted_cut, counted_agree, counted_none}
use Rattle.cidr.specs.Prefix.{addresses, network, length_of, size, end_of, holds, is_prefix}
use Rattle.cidr.proofs.Prefix.{prefix_parts, within_holds, not_before, not_after, ends_earlier, end_within}
use Rattle.cidr.proofs.Covers.{own_network, covers_holds}
use Rattle.routes.specs.Row.{Row}
use Rattle.routes.specs.Plain.{plain}
use Rattle.routes.specs.Change.{announced, withdrawn, changed_between}
use Rattle.routes.specs.Change.Laws.{changed_is, changed_between_is, changed_same}
use Rattle.routes.proofs.Row.{Has, every_has, has_every}
use Rattle.routes.proofs.WellFormed.{HalfGood, Good, good_half}
use Rattle.routes.proofs.Plain.{NoMatch, plain_cases}
use Rattle.routes.proofs.Change.{ButFor, announced_but_for, announced_good, withdrawn_but_for, withdrawn_good, plain_outside, plain_longer}
use Rattle.within.specs.Own.{enclosing_hop, inner, outer_size}
use Rattle.within.proofs.Inner.{inner_has, inner_half, inner_same, inner_later, inner_longer}
use Rattle.within.proofs.Own.{own_answer, announced_own}
use Rattle.within.proofs.Outer.{free, Ahead, free_counted}

-- the address is held by none of the rows, or by one
free_cases : (rows : List Row) (a : ℕ)
    → (NoMatch rows a × (free rows a ≡ true)) ⊎ ((r : Row) × Has r rows × (holds r.key a ≡ true) × (free rows a ≡ false))
free_cases rows a = ⊎_elim
    (λ w. inl (w.0, has_every (λ r. not (holds r.key a)) rows (λ r m. ap not (w.0 r m))))
    (λ w. inr (w.0, w.1.listed, w.1.matches, taken w.0 w.1.listed w.1.matches))
    (plain_cases rows a)
  where
    taken : (r : Row) → Has r rows → holds r.key a ≡ true → free rows a ≡ false
    taken r m e = ⊎_elim
        (λ q. never_both (every_has (λ r. not (holds r.key a)) rows q r m) (ap not e))
        (λ q. q)
        (decided (free rows a))

module _ (k : ℕ) (pre : is_prefix k ≡ true) (rows : List Row) (g : HalfGood rows) where
  -- the rows inside lie in the prefix
  inner_ahead : Ahead (network k) (end_of k) (inner k rows)
  inner_ahead = record { begins = λ r m. inl (begins r m); ends = ends }
    where
      later : (r : Row) → Has r (inner k rows) → k < r.key
      later r m = inner_later k (prefix_parts k pre) rows g r (inner_has k rows r m)

      begins : (r : Row) → Has r (inner k rows) → network k ≤ network r.key
      begins r m = omega (arith, later r m)

      ends : (r : Row) → Has r (inner k rows) → end_of r.key ≤ end_of k
      ends r m =
          let i = inner_has k rows r m in
          ends_earlier k r.key (network r.key) (later r m) (covers_holds k r.key i.held)
          (own_network r.key (prefix_parts r.key (g.prefixed r i.listed)))

  own_parts : counted (free (inner k rows)) (network k) (size (length_of k)) + outer_size (network k) (inner k rows) ≡ size (length_of k)
  own_parts =
      let all : end_of k - network k ≡ size (length_of k) = omega arith in
      rw all at (free_counted (end_of k) (inner k rows) (inner_half k rows g) (network k) inner_ahead)

  -- the outermost rows inside hold no more than the prefix, and it has as many own addresses as they leave
  pub outer_fits : outer_size (network k) (inner k rows) ≤ size (length_of k)
  outer_fits = omega (arith, own_parts)

  pub own_counted : counted (free (inner k rows)) (network k) (size (length_of k)) ≡ size (length_of k) - outer_size (network k) (inner k rows)
  own_counted = omega (arith, own_parts)

  module _ (after : List Row) (b : ButFor k rows after) (g' : HalfGood after) where
    -- the answers before and after: equal outside and in a row inside; else the two hops
    same_outside : (a : ℕ) → holds k a ≡ false → plain rows a ≡ plain after a
    same_outside a out = sym (plain_outside k rows after b g'.ascends a out)

    same_inner : (a : ℕ) (r : Row) → Has r (inner k rows) → holds r.key a ≡ true → plain rows a ≡ plain after a
    same_inner a r m e =
        let i = inner_has k rows r m in
        sym (plain_longer k rows after b g'.ascends a r i.listed e (inner_longer k (prefix_parts k pre) rows g r i))

    own_before : (a : ℕ) → holds k a ≡ true → NoMatch (inner k rows) a → plain rows a ≡ enclosing_hop k rows
    own_before a held n = own_answer k pre rows g a held n

    own_after : (a : ℕ) → holds k a ≡ true → NoMatch (inner k rows) a → plain after a ≡ enclosing_hop k after
    own_after a held n =
        own_answer k pre after g' a held (rw (inner_same k rows after b g.ascends g'.ascends) at n)

    unchanged : enclosing_hop k rows ≡ enclosing_hop k after → changed_between rows after ≡ 0
    unchanged e = changed_between_is rows after ∙ changed_same (plain rows) (plain after) (λ a lt. same a (decided (holds k a)))
      where
        same : (a : ℕ) → (holds k a ≡ true) ⊎ (holds k a ≡ false) → plain rows a ≡ plain after a
        same a (inl held) = ⊎_elim
            (λ w. own_before a held w.0 ∙ e ∙ sym (own_after a held w.0))
            (λ w. same_inner a w.0 w.1 w.2)
            (free_cases (inner k rows) a)
        same a (inr out) = same_outside a out

    -- the answer differs at the address
    abbrev differs : ℕ → Bool
    differs a = not (eqb (plain rows a) (plain after a))

    differs_not : (a : ℕ) → plain rows a ≡ plain after a → differs a ≡ false
    differs_not a e = ap not (eq-eqb _ _ e)

    differs_own : (enclosing_hop k rows ≡ enclosing_hop k after → ⊥) → (a : ℕ) → holds k a ≡ true → differs a ≡ free (inner k rows) a
    differs_own ne a held = ⊎_elim
        (λ w. ap not (ne_eqb _ _ (λ e. ne (sym (own_before a held w.0) ∙ e ∙ own_after a held w.0))) ∙ sym w.1)
        (λ w. differs_not a (same_inner a w.0 w.1 w.2) ∙ sym w.3)
        (free_cases (inner k rows) a)

    all_own : (enclosing_hop k rows ≡ enclosing_hop k after → ⊥)
        → changed_between rows after ≡ size (length_of k) - outer_size (network k) (inner k rows)
    all_own ne =
        let last = end_within k (prefix_parts k pre) in
        let whole : addresses ≡ network k + (size (length_of k) + (addresses - end_of k)) = omega arith in
        let cut : counted differs 0 addresses ≡ counted differs 0 (network k)
        + (counted differs (network k) (size (length_of k)) + counted differs (end_of k) (addresses - end_of k)) =
        ap (counted differs 0) whole ∙ counted_cut differs 0 (network k) (size (length_of k) + (addresses - end_of k))
        ∙ rw (zero-add, counted_cut differs (network k)) in
        let below = counted_none differs 0 (network k) (λ a ge lt. differs_not a (same_outside a (not_before k a (omega arith)))) in
        let within =
        counted_agree differs (free (inner k rows)) (network k) (size (length_of k))
        (λ a ge lt. differs_own ne a (within_holds k a (prefix_parts k pre) ge lt)) in
        let above =
        counted_none differs (end_of k) (addresses - end_of k) (λ a ge lt. differs_not a (same_outside a (not_after k a ge))) in
        changed_between_is rows after ∙ changed_is (plain rows) (plain after) ∙ cut ∙ omega (arith, own_counted)

    pub changed_own : changed_between rows after
        ≡ cond (eqb (enclosing_hop k rows) (enclosing_hop k after)) 0 (size (length_of k) - outer_size (network k) (inner k rows))
    changed_own = ⊎_elim
        (λ e. unchanged (eqb-true _ _ e) ∙ sym (cond_true _ _ e))
        (λ e. all_own (eqb-false _ _ e) ∙ sym (cond_false _ _ e))
        (decided (eqb (enclosing_hop k rows) (enclosing_hop k after)))

-- Rule 10.9: the changed numbers of the two edits.
module _ (k : ℕ) (pre : is_prefix k ≡ true) (rows : List Row) (g : Good rows) where
  pub announced_changed : (h : ℕ) → (h ≡ 0 → ⊥) → changed_between rows (announced k h rows)
      ≡ cond (eqb (enclosing_hop k rows) h) 0 (size (length_of k) - outer_size (network k) (inner k rows))
  announced_changed h hop =
      changed_own k pre rows (good_half g) (announced k h rows) (announced_but_for k h rows) (good_half (announced_good k h pre hop rows g))
      ∙ rw (announced_own k pre rows g.ascends h)

  pub withdrawn_changed : changed_between rows (withdrawn k rows)
      ≡ cond (eqb (enclosing_hop k rows) (enclosing_hop k (withdrawn k rows))) 0 (size (length_of k) - outer_size (network k) (inner k rows))
  withdrawn_changed =
      changed_own k pre rows (good_half g) (withdrawn k rows) (withdrawn_but_for k rows) (good_half (withdrawn_good k rows g))
