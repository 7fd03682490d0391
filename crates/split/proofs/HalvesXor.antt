-- Rule 11.9: at every address the labels that the two halves give XOR to the list's plain answer. If a row of the rest holds the address,
-- the longest such row is the longest match of the whole list and, with its label, of the second half. The first half's answer is the one
-- that this label was made with, and drops out. If no such row holds it, the second half gives 0, its default row's label, and the first
-- half gives the list's answer.
-- Assumes nothing.
use mathlib.Core.Path.{◌≡◌, sym, ap, ◌∙◌, subst}
use mathlib.Core.Logic.{⊎_elim}
use mathlib.Core.Bool.{true}
use mathlib.Core.List.{List}
use Prim.Native.Nat.{ℕ, ◌≤◌, zero-le}
use native.Mathlib.Nat.{le_of_lt}
use lib.Bits.{bit_xor, xor_zero_r}
use lib.ListN.{drop}
use Rattle.ground.proofs.Truth.{never_both}
use Rattle.cidr.specs.Prefix.{length_of, holds}
use Rattle.cidr.proofs.Prefix.{longer_later}
use Rattle.routes.specs.Row.{Row}
use Rattle.routes.specs.Plain.{plain}
use Rattle.routes.proofs.Row.{Has}
use Rattle.routes.proofs.WellFormed.{HalfGood}
use Rattle.routes.proofs.Plain.{NoMatch, Longest, plain_cases, plain_no_match, plain_longest}
use Rattle.split.specs.Split.{relabelled, first_half, second_half}
use Rattle.split.proofs.Halves.{same_key, labelled_key, first_has, rest_has, has_either, second_has, second_lists}
use Rattle.split.proofs.Halves.{first_before, second_parts}
use Rattle.split.proofs.Covering.{label_is, first_answer}
use Rattle.split.proofs.Xor.{xor_undone}

module _ (k : ℕ) (rows : List Row) (g : HalfGood rows) (a : ℕ) where
  -- no row of the rest holds the address
  module _ (n : NoMatch (drop k rows) a) where
    in_first : (s : Row) → Has s rows → holds s.key a ≡ true → Has s (first_half k rows)
    in_first s m e = ⊎_elim (λ f. f) (λ o. never_both e (n s o)) (has_either k rows s m)

    none_in : NoMatch (first_half k rows) a → NoMatch rows a
    none_in f s m = ⊎_elim (f s) (n s) (has_either k rows s m)

    first_is : plain (first_half k rows) a ≡ plain rows a
    first_is = ⊎_elim
        (λ w. w.1 ∙ sym (plain_no_match rows a (none_in w.0)))
        (λ w. w.2 ∙ sym (plain_longest rows a g.ascends w.0 (longest_in w.0 w.1)))
        (plain_cases (first_half k rows) a)
      where
        longest_in : (r : Row) → Longest (first_half k rows) a r → Longest rows a r
        longest_in r l = record {
          listed = first_has k rows r l.listed;
          matches = l.matches;
          longest = λ s m e. l.longest s (in_first s m e) e;
        }

    second_none : plain (second_half k rows) a ≡ 0
    second_none = ⊎_elim (λ w. w.1) (λ w. w.2 ∙ zero_label w.0 w.1) (plain_cases (second_half k rows) a)
      where
        zero_label : (s : Row) → Longest (second_half k rows) a s → s.hop ≡ 0
        zero_label s l = ⊎_elim
            (λ q. ap (λ r. r.hop) q)
            (λ w. never_both (rw (labelled_key (first_half k rows) w.0 s w.2) at l.matches) (n w.0 w.1))
            (second_has k rows s l.listed)

  -- a row of the rest is the longest of it that holds the address
  module _ (some : 1 ≤ k) (r : Row) (l : Longest (drop k rows) a r) where
    whole_is : plain rows a ≡ r.hop
    whole_is = plain_longest rows a g.ascends r (record {
      listed = rest_has k rows r l.listed;
      matches = l.matches;
      longest = λ s m e. ⊎_elim
          (λ f. le_of_lt (longer_later s.key r.key a (first_before k rows g.ascends s r f l.listed) e l.matches))
          (λ o. l.longest s o e)
          (has_either k rows s m);
    })

    second_is : plain (second_half k rows) a ≡ bit_xor r.hop (plain (first_half k rows) a)
    second_is =
        plain_longest (second_half k rows) a (second_parts k rows g some).ascends (relabelled (first_half k rows) r) labelled
        ∙ ap (λ s. s.hop) (label_is k rows g r l.listed)
        ∙ ap (bit_xor r.hop) (first_answer k rows g r l.listed a l.matches)
      where
        shorter : (t : Row) → Has t (drop k rows) → (s : Row) → relabelled (first_half k rows) t ≡ s → holds s.key a ≡ true
            → length_of s.key ≤ length_of r.key
        shorter t m s q e = let same = labelled_key (first_half k rows) t s q in rw same (l.longest t m (rw same at e))

        no_longer : (s : Row) → Has s (second_half k rows) → holds s.key a ≡ true → length_of s.key ≤ length_of r.key
        no_longer s m e = ⊎_elim
            (λ q. subst (λ x. length_of x.key ≤ length_of r.key) (sym q) zero-le)
            (λ w. shorter w.0 w.1 s w.2 e)
            (second_has k rows s m)

        labelled : Longest (second_half k rows) a (relabelled (first_half k rows) r)
        labelled = record {
          listed = second_lists k rows r l.listed;
          matches = rw same_key l.matches;
          longest = rw same_key no_longer;
        }

  pub halves_xor : 1 ≤ k → bit_xor (plain (first_half k rows) a) (plain (second_half k rows) a) ≡ plain rows a
  halves_xor some = ⊎_elim
      (λ w. rw (second_none w.0, xor_zero_r) (first_is w.0))
      (λ w. rw (second_is some w.0 w.1, xor_undone) (sym (whole_is some w.0 w.1)))
      (plain_cases (drop k rows) a)
