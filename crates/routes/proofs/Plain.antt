-- The plain answer is what rule 2.12 says. Where no listed row holds the address it is 0. Where a listed row holds it and no
-- listed row that is longer does, it is that row's hop. On a well-formed list exactly one of the two is the case.
-- Assumes nothing.
use mathlib.Core.Path.{◌≡◌, refl, sym, ap, ◌∙◌, subst}
use mathlib.Core.Logic.{◌⊎◌, inl, inr, ⊎_elim}
use mathlib.Core.Bool.{true, false}
use mathlib.Core.List.Memᴰ
use mathlib.Core.List.{List, [], ◌∷◌}
use mathlib.Core.Option.{none, some}
use Prim.Native.Nat.{ℕ, ◌≤◌, zero-le}
use native.Mathlib.Nat.{le_refl, le_trans, le_of_lt, le_antisymm}
use borrow.Author.Tests.{leb-true, leb-false}
use lib.Dec.{leb}
use Rattle.ground.proofs.Truth.{decided, never_both, cond_true, cond_false}
use Rattle.cidr.specs.Prefix.{length_of, holds}
use Rattle.cidr.proofs.Prefix.{same_key}
use Rattle.routes.specs.Row.{Row}
use Rattle.routes.specs.WellFormed.{ascending}
use Rattle.routes.specs.Plain.{matching, longer, longest, hop_of, plain}
use Rattle.routes.proofs.Row.{Has, those_has, has_those}
use Rattle.routes.proofs.WellFormed.{one_row}

-- no listed row holds the address
abbrev pub NoMatch : List Row → ℕ → Type 0
NoMatch rows a = (r : Row) → Has r rows → holds r.key a ≡ false

-- the row is listed, it holds the address, and no listed row that is longer does
pub record Longest (rows : List Row) (a : ℕ) (r : Row) : Type 0 where
  pub listed : Has r rows
  pub matches : holds r.key a ≡ true
  pub longest : (s : Row) → Has s rows → holds s.key a ≡ true → length_of s.key ≤ length_of r.key

-- a row of some rows that is as long as any of them
record Top (rows : List Row) (r : Row) : Type 0 where
  found : longest rows ≡ some r
  among : Has r rows
  top : (s : Row) → Has s rows → length_of s.key ≤ length_of r.key

module _ (t : Row) (ts : List Row) where
  -- what is at least as long as the first and as each of the others is at least as long as all
  as_long : (n : ℕ) → length_of t.key ≤ n → ((s : Row) → Has s ts → length_of s.key ≤ n)
      → (s : Row) → Has s (t ∷ ts) → length_of s.key ≤ n
  as_long n first others s m = ⊎_elim (λ q. subst (λ x. length_of x.key ≤ n) (sym q) first) (others s) (Memᴰ.cases_cons m)

  top_alone : longest ts ≡ none → ((s : Row) → Has s ts → ⊥) → Top (t ∷ ts) t
  unfolding longest longer
  top_alone e none_in = record {
    found = ap (longer t) e;
    among = Memᴰ.head refl;
    top = as_long _ (le_refl _) (λ s n. absurd (none_in s n));
  }

  module _ (r : Row) (p : Top ts r) where
    top_first : leb (length_of r.key) (length_of t.key) ≡ true → Top (t ∷ ts) t
    unfolding longest longer
    top_first e = record {
      found = ap (longer t) p.found ∙ cond_true (some t) (some r) e;
      among = Memᴰ.head refl;
      top = as_long _ (le_refl _) (λ s n. le_trans (p.top s n) (leb-true _ _ e));
    }

    top_later : leb (length_of r.key) (length_of t.key) ≡ false → Top (t ∷ ts) r
    unfolding longest longer
    top_later e = record {
      found = ap (longer t) p.found ∙ cond_false (some t) (some r) e;
      among = Memᴰ.tail p.among;
      top = as_long _ (le_of_lt (leb-false _ _ e)) p.top;
    }

-- some rows have a longest one, or there are none
longest_cases : (rows : List Row) → ((longest rows ≡ none) × ((s : Row) → Has s rows → ⊥)) ⊎ ((r : Row) × Top rows r)
longest_cases [] = inl (unfold longest in refl, λ s m. Memᴰ.not-nil m)
longest_cases (t ∷ ts) = ⊎_elim (λ w. inr (t, top_alone t ts w.0 w.1)) (λ w. more w.0 w.1) (longest_cases ts)
  where
    more : (r : Row) → Top ts r → ((longest (t ∷ ts) ≡ none) × ((s : Row) → Has s (t ∷ ts) → ⊥)) ⊎ ((r : Row) × Top (t ∷ ts) r)
    more r p =
        ⊎_elim (λ e. inr (t, top_first t ts r p e)) (λ e. inr (r, top_later t ts r p e))
        (decided (leb (length_of r.key) (length_of t.key)))

module _ (rows : List Row) (a : ℕ) where
  has_matching : (r : Row) → Has r rows → holds r.key a ≡ true → Has r (matching a rows)
  unfolding matching
  has_matching r m e = has_those (λ r. holds r.key a) rows r m e

  matching_has : (r : Row) → Has r (matching a rows) → Has r rows × (holds r.key a ≡ true)
  unfolding matching
  matching_has r m = those_has (λ r. holds r.key a) rows r m

  -- the row that the plain answer comes from
  record Answer (r : Row) : Type 0 where
    hop : plain rows a ≡ r.hop
    is : Longest rows a r

  answered : (r : Row) → Top (matching a rows) r → Answer r
  unfolding plain
  answered r p = record {
    hop = ap hop_of p.found;
    is = record {
      listed = (matching_has r p.among).0;
      matches = (matching_has r p.among).1;
      longest = λ s m e. p.top s (has_matching s m e);
    };
  }

  unmatched : ((s : Row) → Has s (matching a rows) → ⊥) → NoMatch rows a
  unmatched none_in r m = ⊎_elim (λ e. absurd (none_in r (has_matching r m e))) (λ e. e) (decided (holds r.key a))

  -- nothing matches and the answer is 0, or a row is the longest match and the answer is its hop
  pub plain_cases : (NoMatch rows a × (plain rows a ≡ 0)) ⊎ ((r : Row) × Longest rows a r × (plain rows a ≡ r.hop))
  unfolding plain
  plain_cases =
      ⊎_elim (λ w. inl (unmatched w.1, ap hop_of w.0)) (λ w. inr (w.0, (answered w.0 w.1).is, (answered w.0 w.1).hop))
      (longest_cases (matching a rows))

  -- both can't be
  pub never_both_cases : NoMatch rows a → (r : Row) → Longest rows a r → ⊥
  never_both_cases n r l = never_both l.matches (n r l.listed)

  -- where nothing matches the answer is 0
  pub plain_no_match : NoMatch rows a → plain rows a ≡ 0
  plain_no_match n = ⊎_elim (λ w. w.1) (λ w. absurd (never_both_cases n w.0 w.1)) plain_cases

  -- two longest matches are one row
  pub one_longest : ascending rows ≡ true → (r s : Row) → Longest rows a r → Longest rows a s → r ≡ s
  one_longest asc r s l k =
      let as_long = le_antisymm (k.longest r l.listed l.matches) (l.longest s k.listed k.matches) in
      one_row rows asc r s l.listed k.listed (same_key r.key s.key a as_long l.matches k.matches)

  -- Rule 2.12: the hop of the longest listed prefix that holds the address.
  pub plain_longest : ascending rows ≡ true → (r : Row) → Longest rows a r → plain rows a ≡ r.hop
  plain_longest asc r l =
      ⊎_elim (λ w. absurd (never_both_cases w.0 r l)) (λ w. w.2 ∙ ap (λ x. x.hop) (one_longest asc w.0 r w.1 l)) plain_cases

  -- Rule 2.6: an answer of 0 means that no listed prefix holds the address, since no listed hop is 0.
  pub plain_zero : ((r : Row) → Has r rows → r.hop ≡ 0 → ⊥) → plain rows a ≡ 0 → NoMatch rows a
  plain_zero given z = ⊎_elim (λ w. w.0) (λ w. absurd (given w.0 w.1.listed (sym w.2 ∙ z))) plain_cases

  -- no answer is greater than every listed hop
  pub plain_at_most : (most : ℕ) → ((r : Row) → Has r rows → r.hop ≤ most) → plain rows a ≤ most
  plain_at_most most h = ⊎_elim (λ w. rw w.1 zero-le) (λ w. rw w.2 (h w.0 w.1.listed)) plain_cases
