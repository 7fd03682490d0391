-- How many addresses of a stretch no row of some holds, where the rows are in key order and end within the stretch: as many as it has, less
-- what the outermost rows hold. Before the next row begins no row holds anything; then that row holds all up to its end, and the rows after
-- it that begin before its end lie in it.
-- Assumes nothing.
use mathlib.Core.Path.{◌≡◌, refl, ap, ◌∙◌}
use mathlib.Core.Logic.{◌⊎◌, inl, inr, ⊎_elim}
use mathlib.Core.Bool.{Bool, true, false, not}
use mathlib.Core.List.Memᴰ
use mathlib.Core.List.{List, [], ◌∷◌}
use Prim.Native.Nat.{ℕ, ◌+◌, ◌-◌, ◌≤◌, ◌<◌}
use native.Mathlib.Omega.{arith}
use lib.Dec.{leb}
use borrow.Author.Tests.{leb-true, leb-false, le-leb, lt-leb}
use Rattle.ground.proofs.Truth.{decided}
use Rattle.ground.specs.Stretch.{counted}
use Rattle.ground.specs.Stretch.Count.{counted_cut, counted_agree, counted_none, counted_all}
use Rattle.cidr.specs.Prefix.{network, length_of, size, end_of, holds}
use Rattle.cidr.proofs.Prefix.{Prefix, prefix_parts, within_holds, not_before, not_after, ends_earlier}
use Rattle.cidr.proofs.Covers.{own_network}
use Rattle.routes.specs.Row.{Row, every}
use Rattle.routes.proofs.Row.{Has, has_every}
use Rattle.routes.proofs.WellFormed.{HalfGood, first_below, ascending_tail}
use Rattle.within.specs.Own.{outer_size}

-- no row holds the address
abbrev pub free : List Row → ℕ → Bool
free rows a = every (λ r. not (holds r.key a)) rows

-- each row begins at e or later, or has ended there; and all end by the limit
pub record Ahead (e limit : ℕ) (rows : List Row) : Type 0 where
  pub begins : (r : Row) → Has r rows → (e ≤ network r.key) ⊎ (end_of r.key ≤ e)
  pub ends : (r : Row) → Has r rows → end_of r.key ≤ limit

module _ (r : Row) (rs : List Row) (g : HalfGood (r ∷ rs)) where
  rest_good : HalfGood rs
  rest_good = record { prefixed = λ s m. g.prefixed s (Memᴰ.tail m); ascends = ascending_tail r rs g.ascends }

  prefix : Prefix r.key
  prefix = prefix_parts r.key (g.prefixed r (Memᴰ.head refl))

  -- before the first row begins no row holds anything; up to its end it does; and from then on the others count alone
  free_before : (a : ℕ) → a < network r.key → free (r ∷ rs) a ≡ true
  free_before a lt = has_every (λ s. not (holds s.key a)) (r ∷ rs) (λ s m. ap not (not_before s.key a (omega (arith, least s m))))
    where
      least : (s : Row) → Has s (r ∷ rs) → r.key ≤ s.key
      least s m = ⊎_elim
          (λ q. omega (arith, ap (λ x. x.key) q))
          (λ n. omega (arith, first_below r rs g.ascends s n))
          (Memᴰ.cases_cons m)

  held_within : (a : ℕ) → network r.key ≤ a → a < end_of r.key → free (r ∷ rs) a ≡ false
  unfolding every
  held_within a from to = rw (within_holds r.key a prefix from to)

  free_after : (a : ℕ) → end_of r.key ≤ a → free (r ∷ rs) a ≡ free rs a
  unfolding every
  free_after a from = rw (not_after r.key a from)

  -- a later row begins at the first one's end or later, or lies in it
  ahead_after : (e limit : ℕ) → Ahead e limit (r ∷ rs) → Ahead (end_of r.key) limit rs
  ahead_after e limit h = record {
    begins = λ s m. ⊎_elim
        (λ q. inl (leb-true _ _ q))
        (λ q. inr (inside s m (leb-false _ _ q)))
        (decided (leb (end_of r.key) (network s.key)));
    ends = λ s m. h.ends s (Memᴰ.tail m);
  }
    where
      inside : (s : Row) → Has s rs → network s.key < end_of r.key → end_of s.key ≤ end_of r.key
      inside s m lt =
          let later = first_below r rs g.ascends s m in
          ends_earlier r.key s.key (network s.key) later
          (within_holds r.key (network s.key) prefix (omega arith) lt)
          (own_network s.key (prefix_parts s.key (g.prefixed s (Memᴰ.tail m))))

  ahead_rest : (e limit : ℕ) → Ahead e limit (r ∷ rs) → Ahead e limit rs
  ahead_rest e limit h = record { begins = λ s m. h.begins s (Memᴰ.tail m); ends = λ s m. h.ends s (Memᴰ.tail m) }

  -- the count, with a first row that is outermost, and with one that lies in an earlier row
  module _ (e limit : ℕ) (h : Ahead e limit (r ∷ rs)) where
    count_outermost : e ≤ network r.key
        → counted (free rs) (end_of r.key) (limit - end_of r.key) + outer_size (end_of r.key) rs ≡ limit - end_of r.key
        → counted (free (r ∷ rs)) e (limit - e) + outer_size e (r ∷ rs) ≡ limit - e
    unfolding outer_size
    count_outermost from rec =
        let last : end_of r.key ≤ limit = h.ends r (Memᴰ.head refl) in
        let whole : limit - e ≡ (network r.key - e) + (size (length_of r.key) + (limit - end_of r.key)) = omega arith in
        let there : e + (network r.key - e) ≡ network r.key = omega arith in
        let cut : counted (free (r ∷ rs)) e (limit - e) ≡ counted (free (r ∷ rs)) e (network r.key - e)
        + (counted (free (r ∷ rs)) (network r.key) (size (length_of r.key))
        + counted (free (r ∷ rs)) (end_of r.key) (limit - end_of r.key)) =
        ap (counted (free (r ∷ rs)) e) whole
        ∙ counted_cut (free (r ∷ rs)) e (network r.key - e) (size (length_of r.key) + (limit - end_of r.key))
        ∙ rw (there, counted_cut (free (r ∷ rs)) (network r.key)) in
        let before = counted_all (free (r ∷ rs)) e (network r.key - e) (λ a ge lt. free_before a (omega arith)) in
        let within = counted_none (free (r ∷ rs)) (network r.key) (size (length_of r.key)) held_within in
        let after = counted_agree (free (r ∷ rs)) (free rs) (end_of r.key) (limit - end_of r.key) (λ a ge lt. free_after a ge) in
        rw (le-leb e (network r.key) from) (omega arith)

    count_inside : network r.key < e → counted (free rs) e (limit - e) + outer_size e rs ≡ limit - e
        → counted (free (r ∷ rs)) e (limit - e) + outer_size e (r ∷ rs) ≡ limit - e
    unfolding outer_size
    count_inside lt rec =
        let over : end_of r.key ≤ e = ⊎_elim (λ l. absurd (omega arith)) (λ l. l) (h.begins r (Memᴰ.head refl)) in
        let same = counted_agree (free (r ∷ rs)) (free rs) e (limit - e) (λ a ge to. free_after a (omega arith)) in
        rw (lt-leb e (network r.key) lt) (omega arith)

pub free_counted : (limit : ℕ) (rows : List Row) → HalfGood rows → (e : ℕ) → Ahead e limit rows
    → counted (free rows) e (limit - e) + outer_size e rows ≡ limit - e
unfolding every outer_size
free_counted limit [] g e h = omega (arith, counted_all (free []) e (limit - e) (λ a from to. refl))
free_counted limit (r ∷ rs) g e h = ⊎_elim
    (λ q.
    count_outermost r rs g e limit h (leb-true _ _ q)
    (free_counted limit rs (rest_good r rs g) (end_of r.key) (ahead_after r rs g e limit h)))
    (λ q. count_inside r rs g e limit h (leb-false _ _ q) (free_counted limit rs (rest_good r rs g) e (ahead_rest r rs g e limit h)))
    (decided (leb e (network r.key)))
