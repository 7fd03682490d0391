-- The answer at any address of the prefix, by the rows inside it. Where one of them holds the address, the longest match is one of them,
-- since they are longer than what else holds it. Where none does, it is the hop of the longest row around. So the answer is what the sweep
-- over the rows inside, with that hop as its base, says.
-- Assumes nothing.
use mathlib.Core.Path.{◌≡◌, sym, ap, ◌∙◌}
use mathlib.Core.Logic.{◌⊎◌, inl, inr, ⊎_elim}
use mathlib.Core.Bool.{true}
use mathlib.Core.List.{List}
use Prim.Native.Nat.{ℕ, ◌<◌}
use native.Mathlib.Omega.{arith}
use Rattle.ground.proofs.Truth.{never_both}
use Rattle.cidr.specs.Prefix.{length_of, holds, is_prefix}
use Rattle.cidr.proofs.Prefix.{prefix_parts, longer_later}
use Rattle.routes.specs.Row.{Row}
use Rattle.routes.specs.Plain.{plain}
use Rattle.routes.proofs.Row.{Has}
use Rattle.routes.proofs.WellFormed.{HalfGood}
use Rattle.routes.proofs.Plain.{NoMatch, Longest, plain_cases, plain_longest}
use Rattle.routes.proofs.LastMatch.{last_none, last_longest}
use Rattle.routes.proofs.Change.{Order, order}
use Rattle.sweep.specs.Sweep.{answer}
use Rattle.runs.proofs.WholeList.{last_is}
use Rattle.within.specs.Own.{enclosing_hop, inner}
use Rattle.within.proofs.Inner.{Inner, inner_has, has_inner, inner_ascends, inner_longer, later_inner}
use Rattle.within.proofs.Own.{own_answer}

module _ (k : ℕ) (pre : is_prefix k ≡ true) (rows : List Row) (g : HalfGood rows) (a : ℕ) (held : holds k a ≡ true) where
  -- a row that holds the address and is longer than the prefix is inside
  longer_inner : (r : Row) → Has r rows → holds r.key a ≡ true → length_of k < length_of r.key → Inner k rows r
  longer_inner r m e long = go (order k r.key)
    where
      go : Order k r.key → Inner k rows r
      go (Order.before l) = later_inner k (prefix_parts k pre) rows g r m l a held e
      go (Order.same q) = absurd (omega (arith, ap length_of q))
      go (Order.after l) = absurd (omega (arith, longer_later r.key k a l e held))

  -- where a row inside holds the address, the longest match is one of them
  longest_inner : (t : Row) → Has t (inner k rows) → holds t.key a ≡ true → (r : Row) → Longest rows a r → Longest (inner k rows) a r
  longest_inner t m e r l =
      let long = inner_longer k (prefix_parts k pre) rows g t (inner_has k rows t m) in
      let top = l.longest t (inner_has k rows t m).listed e in
      record {
        listed = has_inner k rows r (longer_inner r l.listed l.matches (omega arith));
        matches = l.matches;
        longest = λ s n. l.longest s (inner_has k rows s n).listed;
      }

  -- the longest match is inside and the longest there, or nothing inside matches
  inner_cases : NoMatch (inner k rows) a ⊎ ((r : Row) × Longest (inner k rows) a r × (plain rows a ≡ r.hop))
  inner_cases = ⊎_elim (λ w. inl w.0) (λ w. inr (found w.0 w.1)) (plain_cases (inner k rows) a)
    where
      found : (t : Row) → Longest (inner k rows) a t → (r : Row) × Longest (inner k rows) a r × (plain rows a ≡ r.hop)
      found t l = ⊎_elim
          (λ w. never_both l.matches (w.0 t (inner_has k rows t l.listed).listed))
          (λ w. (w.0, longest_inner t l.listed l.matches w.0 w.1, w.2))
          (plain_cases rows a)

  pub inner_answer : (t : Row) → Has t (inner k rows) → holds t.key a ≡ true → plain rows a ≡ plain (inner k rows) a
  inner_answer t m e = ⊎_elim
      (λ none_in. never_both e (none_in t m))
      (λ w. w.2 ∙ sym (plain_longest (inner k rows) a (inner_ascends k rows g.ascends) w.0 w.1))
      inner_cases

  pub inner_sweep : answer (enclosing_hop k rows) (inner k rows) a ≡ plain rows a
  unfolding answer
  inner_sweep = sym (last_is a (enclosing_hop k rows) (inner k rows)) ∙ ⊎_elim
      (λ none_in. last_none a (enclosing_hop k rows) (inner k rows) none_in ∙ sym (own_answer k pre rows g a held none_in))
      (λ w.
      last_longest a (enclosing_hop k rows) (inner k rows) (inner_ascends k rows g.ascends) w.0 w.1 ∙ sym w.2)
      inner_cases
