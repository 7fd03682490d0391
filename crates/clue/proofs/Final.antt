-- Rule 19.6: where no listed prefix extends a clue, the hop of the clue is the plain answer at each address that has the clue. So is that of
-- the clue of all 32 bits, since no prefix is longer.
-- Assumes nothing.
use mathlib.Core.Path.{◌≡◌, refl, sym, ap, ◌∙◌}
use mathlib.Core.Logic.{⊎_elim}
use mathlib.Core.Bool.{true, false}
use mathlib.Core.List.{List, [], ◌∷◌}
use Prim.Native.Nat.{ℕ, ◌≤◌}
use native.Mathlib.Omega.{arith}
use lib.Dec.{leb}
use borrow.Author.Tests.{leb-false, le-ltb}
use Rattle.cidr.specs.Prefix.{length_of, is_prefix, holds, covers}
use Rattle.routes.specs.Row.{Row, those, every}
use Rattle.routes.specs.WellFormed.{prefixes}
use Rattle.routes.specs.Plain.{matching, longest, hop_of, plain}
use Rattle.entries.specs.Clue.{clue_of, around, hop_around, extends, any, extended}
use Rattle.entries.proofs.Decided.{decided, never_both, and_left, and_right, or_neither}
use Rattle.entries.proofs.Clue.{prefix_parts, clue_length, covers_clue, longer_extends}

module _ (len a : ℕ) (short : len ≤ 32) where
  -- a prefix that doesn't extend the clue holds the clue exactly if it holds the address
  covers_is_holds : (key : ℕ) → extends (clue_of len a) key ≡ false → covers key (clue_of len a) ≡ holds key a
  covers_is_holds key e = covers_clue len a short key ∙ ⊎_elim
      (λ q. rw q)
      (λ q. rw q (⊎_elim
      (λ h. never_both (longer_extends len a short key (leb-false _ _ q) h) e)
      sym
      (decided (holds key a))))
      (decided (leb (length_of key) len))

  around_is_matching : (rows : List Row) → extended rows (clue_of len a) ≡ false → around (clue_of len a) rows ≡ matching a rows
  unfolding extended any around matching those
  around_is_matching [] e = refl
  around_is_matching (r ∷ rs) e =
      let w = or_neither (extends (clue_of len a) r.key) (extended rs (clue_of len a)) e in
      rw (covers_is_holds r.key w.0, around_is_matching rs w.1)

  -- Rule 19.6: a hop that nothing extends is the plain answer.
  pub final_is_plain : (rows : List Row) → extended rows (clue_of len a) ≡ false → hop_around rows (clue_of len a) ≡ plain rows a
  unfolding hop_around plain
  final_is_plain rows e = ap (λ l. hop_of (longest l)) (around_is_matching rows e)

none_longer_one : (a key : ℕ) → is_prefix key ≡ true → extends (clue_of 32 a) key ≡ false
unfolding extends
none_longer_one a key e = rw (clue_length 32 a (omega arith), le-ltb 32 (length_of key) (prefix_parts key e).short)

none_longer : (a : ℕ) (rows : List Row) → prefixes rows ≡ true → extended rows (clue_of 32 a) ≡ false
unfolding prefixes every extended any
none_longer a [] e = refl
none_longer a (r ∷ rs) e =
    rw (none_longer_one a r.key (and_left (is_prefix r.key) (prefixes rs) e))
    (none_longer a rs (and_right (is_prefix r.key) (prefixes rs) e))

-- Rule 19.6: the hop of the clue of all 32 bits is the plain answer, so a search for it finds that.
pub search_is_plain : (rows : List Row) → prefixes rows ≡ true → (a : ℕ) → hop_around rows (clue_of 32 a) ≡ plain rows a
search_is_plain rows e a = final_is_plain 32 a (omega arith) rows (none_longer a rows e)
