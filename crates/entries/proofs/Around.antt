-- The hop of a clue, by the lengths of the rows that hold its address. Of each length there is one prefix that holds the address, the clue
-- of that length. Where it is no row's, the rows shorter than it have the say; where it is a row's, that row has it.
-- Assumes nothing.
use mathlib.Core.Path.{◌≡◌, refl, sym, ap, ◌∙◌}
use mathlib.Core.Logic.{◌⊎◌, inl, inr, ⊎_elim}
use mathlib.Core.Bool.{Bool, true, false, ◌&&◌}
use mathlib.Core.List.{List, [], ◌∷◌}
use mathlib.Core.Option.{none, some}
use Prim.Native.Nat.{ℕ, ◌+◌, ◌-◌, ◌≤◌, ◌<◌, zero-le}
use native.Mathlib.Omega.{arith}
use lib.ListN.{length, get_or}
use lib.Dec.{leb, ltb, eqb}
use lib.Arith.{lt_of_le-ne}
use borrow.Author.Tests.{ltb-true, leb-true, leb-false, le-leb, lt-leb, lt-ltb, le-ltb, eq-eqb, eqb-true, eqb-false}
use Rattle.ground.specs.Column.{ascends, is_in, lower}
use Rattle.cidr.specs.Prefix.{length_of, holds, covers}
use Rattle.routes.specs.Row.{Row, keys_of, hops_of, those, keep_row}
use Rattle.routes.specs.Plain.{longer, longest, hop_of}
use Rattle.routes.specs.WellFormed.{well_formed}
use Rattle.std.specs.Prelude.{Ok, Err}
use Rattle.routes.specs.Place.{place_in}
use Rattle.entries.specs.Clue.{clue_of, around, hop_around}
use Rattle.entries.proofs.Decided.{decided, never_both, and_left, and_right, and_both}
use Rattle.entries.proofs.Truth.{same_test, cond_true, cond_false}
use Rattle.entries.proofs.Clue.{clue_length, clue_holds, covers_clue, holds_clue}
use Rattle.entries.proofs.Keys.{Order, before, same, after, order, ascends_rest, lower_past, lower_none, in_past, in_none, at_place}
use Rattle.entries.proofs.Places.{at_in, missing_out}
use Rattle.entries.proofs.Rows.{all_rows, well_ascends, paired, keys_are, hop_at_lem, keys_ascend}

-- the keys shorter than a length that hold the address, and the hop of the longest row of these
abbrev shorter : ℕ → ℕ → ℕ → Bool
shorter a len key = ltb (length_of key) len && holds key a

pub hop_shorter : List Row → ℕ → ℕ → ℕ
hop_shorter rows a len = hop_of (longest (those (λ r. shorter a len r.key) rows))

shorter_parts : (a len key : ℕ) → shorter a len key ≡ true → (length_of key < len) × (holds key a ≡ true)
shorter_parts a len key e = (
  ltb-true (length_of key) len (and_left (ltb (length_of key) len) (holds key a) e),
  and_right (ltb (length_of key) len) (holds key a) e,
)

none_passes : (rows : List Row) → hop_of (longest (those (λ r. false) rows)) ≡ 0
unfolding those longest
none_passes [] = refl
none_passes (r ∷ rs) = none_passes rs

-- tests that agree on the rows' keys pass the same rows
those_agree : (p q : ℕ → Bool) (rows : List Row) → ((key : ℕ) → is_in key (keys_of rows) ≡ true → p key ≡ q key)
    → those (λ r. p r.key) rows ≡ those (λ r. q r.key) rows
unfolding those is_in
those_agree p q [] h = refl
those_agree p q (r ∷ rs) h = rw (h r.key own, those_agree p q rs (λ key m. h key (later key m)))
  where
    own : is_in r.key (keys_of (r ∷ rs)) ≡ true
    own = rw (eq-eqb r.key r.key refl)

    later : (key : ℕ) → is_in key (keys_of rs) ≡ true → is_in key (keys_of (r ∷ rs)) ≡ true
    later key m = ⊎_elim (λ e. rw e) (λ e. rw e m) (decided (eqb key r.key))

-- the longest of the rows that pass a test, where one key passes and what else passes is shorter
module _ (p : ℕ → Bool) (k : ℕ) (own : p k ≡ true) (top : (key : ℕ) → p key ≡ true → (key ≡ k) ⊎ (length_of key < length_of k)) where
  -- the longest is no longer than the key
  Bounded : List Row → Type 0
  Bounded rows = (longest rows ≡ none) ⊎ ((s : Row) × (longest rows ≡ some s) × (length_of s.key ≤ length_of k))

  bounded : (rows : List Row) → Bounded (those (λ r. p r.key) rows)
  unfolding Bounded those longest longer
  bounded [] = inl refl
  bounded (r ∷ rs) = go (p r.key) refl (bounded rs)
    where
      first : p r.key ≡ true → length_of r.key ≤ length_of k
      first e = ⊎_elim (λ q. omega (arith, ap length_of q)) (λ l. omega arith) (top r.key e)

      more : p r.key ≡ true → Bounded (those (λ r. p r.key) rs) → Bounded (r ∷ those (λ r. p r.key) rs)
      more e (inl q) = inr (r, rw q, first e)
      more e (inr w) = ⊎_elim
          (λ q. inr (r, rw w.1 (cond_true (some r) (some w.0) q), first e))
          (λ q. inr (w.0, rw w.1 (cond_false (some r) (some w.0) q), w.2))
          (decided (leb (length_of w.0.key) (length_of r.key)))

      go : (b : Bool) → p r.key ≡ b → Bounded (those (λ r. p r.key) rs) → Bounded (keep_row b r (those (λ r. p r.key) rs))
      go true e rec = more e rec
      go false e rec = rec

  -- it is the key's own row
  record Own (rows : List Row) (hop : ℕ) : Type 0 where
    row_is : Row
    found : longest rows ≡ some row_is
    key_is : row_is.key ≡ k
    hop_is : row_is.hop ≡ hop

  first_own : (r : Row) (rs : List Row) → r.key ≡ k → Bounded rs → Own (r ∷ rs) r.hop
  unfolding Bounded longest longer
  first_own r rs e (inl q) = record { row_is = r; found = rw q; key_is = e; hop_is = refl }
  first_own r rs e (inr w) = record {
    row_is = r;
    found = rw (w.1, le-leb (length_of w.0.key) (length_of r.key) (omega (arith, w.2, ap length_of e)));
    key_is = e;
    hop_is = refl;
  }

  later_own : (r : Row) (rs : List Row) (hop : ℕ) → length_of r.key < length_of k → Own rs hop → Own (r ∷ rs) hop
  unfolding longest longer
  later_own r rs hop l o = record {
    row_is = o.row_is;
    found = rw (o.found, lt-leb (length_of o.row_is.key) (length_of r.key) (omega (arith, ap length_of o.key_is)));
    key_is = o.key_is;
    hop_is = o.hop_is;
  }

  own_found : (rows : List Row) → ascends (keys_of rows) ≡ true → is_in k (keys_of rows) ≡ true
      → Own (those (λ r. p r.key) rows) (get_or (hops_of rows) (lower k (keys_of rows)) 0)
  unfolding those is_in
  own_found [] a e = never_both e refl
  own_found (r ∷ rs) a e = go (order k r.key) (own_found rs (ascends_rest r.key (keys_of rs) a))
    where
      passes : r.key ≡ k → p r.key ≡ true
      passes q = ap p q ∙ own

      past : r.key < k → Own (those (λ r. p r.key) rs) (get_or (hops_of rs) (lower k (keys_of rs)) 0) → (b : Bool) → p r.key ≡ b
          → Own (keep_row b r (those (λ r. p r.key) rs)) (get_or (hops_of rs) (lower k (keys_of rs)) 0)
      past l o true q = ⊎_elim (λ o. absurd (omega arith)) (λ m. later_own r _ _ m o) (top r.key q)
      past l o false q = o

      go : Order k r.key
          → (is_in k (keys_of rs) ≡ true → Own (those (λ r. p r.key) rs) (get_or (hops_of rs) (lower k (keys_of rs)) 0))
          → Own (those (λ r. p r.key) (r ∷ rs)) (get_or (hops_of (r ∷ rs)) (lower k (keys_of (r ∷ rs))) 0)
      go (before l) rec = never_both e (in_none k r.key (keys_of rs) a l)
      go (same q) rec = rw (lower_none k r.key (keys_of rs) a (omega arith), passes (sym q)) (first_own r _ (sym q) (bounded rs))
      go (after l) rec =
          rw (lower_past k r.key (keys_of rs) l) (past l (rec (sym (in_past k r.key (keys_of rs) l) ∙ e)) (p r.key) refl)

  own_hop : (rows : List Row) → ascends (keys_of rows) ≡ true → is_in k (keys_of rows) ≡ true
      → hop_of (longest (those (λ r. p r.key) rows)) ≡ get_or (hops_of rows) (lower k (keys_of rows)) 0
  own_hop rows a e = let o = own_found rows a e in rw o.found o.hop_is

-- what the search for a clue's hop keeps true: the rows shorter than the lengths that are tried have the say
module _ (rows : List Row) (a : ℕ) where
  pub shorter_start : (len : ℕ) → len ≤ 32 → hop_around rows (clue_of len a) ≡ hop_shorter rows a (len + 1)
  unfolding hop_around around hop_shorter
  shorter_start len short =
      ap (λ l. hop_of (longest l)) (those_agree (λ key. covers key (clue_of len a)) (shorter a (len + 1)) rows (λ key m. agree key))
    where
      agree : (key : ℕ) → covers key (clue_of len a) ≡ shorter a (len + 1) key
      agree key = covers_clue len a short key ∙ ⊎_elim
          (λ e. rw (e, lt-ltb (length_of key) (len + 1) (omega (arith, leb-true (length_of key) len e))))
          (λ e. rw (e, le-ltb (length_of key) (len + 1) (omega (arith, leb-false (length_of key) len e))))
          (decided (leb (length_of key) len))

  -- the key of a length is no row's
  pub shorter_next : (len : ℕ) → is_in (clue_of len a) (keys_of rows) ≡ false → hop_shorter rows a (len + 1) ≡ hop_shorter rows a len
  unfolding hop_shorter
  shorter_next len out =
      ap (λ l. hop_of (longest l)) (those_agree (shorter a (len + 1)) (shorter a len) rows (λ key m. same_test _ _ (less key m) (more key)))
    where
      less : (key : ℕ) → is_in key (keys_of rows) ≡ true → shorter a (len + 1) key ≡ true → shorter a len key ≡ true
      less key m e =
          let w = shorter_parts a (len + 1) key e in
          let other : length_of key ≡ len → ⊥ =
          λ q. never_both m (ap (λ x. is_in x (keys_of rows)) (holds_clue key a w.1 ∙ ap (λ n. clue_of n a) q) ∙ out) in
          and_both (lt-ltb (length_of key) len (lt_of_le-ne (omega (arith, w.0)) other)) w.1

      more : (key : ℕ) → shorter a len key ≡ true → shorter a (len + 1) key ≡ true
      more key e =
          let w = shorter_parts a len key e in
          and_both (lt-ltb (length_of key) (len + 1) (omega (arith, w.0))) w.1

  -- it is a row's
  pub shorter_found : (len : ℕ) → len ≤ 32 → ascends (keys_of rows) ≡ true → is_in (clue_of len a) (keys_of rows) ≡ true
      → hop_shorter rows a (len + 1) ≡ get_or (hops_of rows) (lower (clue_of len a) (keys_of rows)) 0
  unfolding hop_shorter
  shorter_found len short asc e = own_hop (shorter a (len + 1)) (clue_of len a) own top rows asc e
    where
      own : shorter a (len + 1) (clue_of len a) ≡ true
      own =
          and_both (lt-ltb (length_of (clue_of len a)) (len + 1) (omega (arith, clue_length len a short))) (clue_holds len a short)

      top : (key : ℕ) → shorter a (len + 1) key ≡ true → (key ≡ clue_of len a) ⊎ (length_of key < length_of (clue_of len a))
      top key q =
          let w = shorter_parts a (len + 1) key q in
          ⊎_elim
          (λ e. inl (holds_clue key a w.1 ∙ ap (λ n. clue_of n a) (eqb-true (length_of key) len e)))
          (λ e. inr (rw (clue_length len a short) (lt_of_le-ne (omega (arith, w.0)) (eqb-false (length_of key) len e))))
          (decided (eqb (length_of key) len))

  -- nothing is left to try
  pub shorter_none : hop_shorter rows a 0 ≡ 0
  unfolding hop_shorter
  shorter_none = ap (λ l. hop_of (longest l)) (those_agree (shorter a 0) (λ key. false) rows (λ key m. rw (le-ltb (length_of key) 0 zero-le)))
      ∙ none_passes rows

-- the same of two slices that are a well-formed list, by the place of a key among the first
pub place_within : (keys hops : List ℕ) → well_formed (length keys) keys hops ≡ true → (key i : ℕ) → place_in keys key ≡ Ok i
    → i < length hops
place_within keys hops w key i e =
    let p = at_in keys key i e in
    omega (arith, (at_place key keys (keys_ascend keys hops w) p.0).0, p.1, paired keys hops w)

module _ (keys hops : List ℕ) (w : well_formed (length keys) keys hops ≡ true) (len a left : ℕ) (short : left ≤ 33)
    (has-say : hop_around (all_rows keys hops) (clue_of len a) ≡ hop_shorter (all_rows keys hops) a left) (some : 0 < left) (key : ℕ)
    (is : key ≡ clue_of (left - 1) a) where
  one : left - 1 + 1 ≡ left
  one = omega arith

  keys_in : is_in key keys ≡ is_in (clue_of (left - 1) a) (keys_of (all_rows keys hops))
  keys_in = rw (is, keys_are keys hops w)

  pub place_hop : (i : ℕ) → place_in keys key ≡ Ok i → get_or hops i 0 ≡ hop_around (all_rows keys hops) (clue_of len a)
  place_hop i e =
      let p = at_in keys key i e in
      let there : lower key keys < length keys = (at_place key keys (keys_ascend keys hops w) p.0).0 in
      let found = shorter_found (all_rows keys hops) a (left - 1) (omega arith) (well_ascends (length keys) keys hops w)
      (sym keys_in ∙ p.0) in
      rw p.1
      (sym (hop_at_lem keys hops w (lower key keys) there) ∙ sym (has-say ∙ sym (ap (hop_shorter (all_rows keys hops) a) one) ∙ found
      ∙ rw (keys_are keys hops w, is)))

  pub place_missing : (i : ℕ) → place_in keys key ≡ Err i
      → hop_around (all_rows keys hops) (clue_of len a) ≡ hop_shorter (all_rows keys hops) a (left - 1)
  place_missing i e =
      has-say ∙ sym (ap (hop_shorter (all_rows keys hops) a) one)
      ∙ shorter_next (all_rows keys hops) a (left - 1) (sym keys_in ∙ (missing_out keys key i e).0)
