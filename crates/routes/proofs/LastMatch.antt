-- Where keys ascend, the plain answer is the hop of the last row that holds the address. Of two rows that hold it the later one has the
-- greater key, so it is the longer; after the longest match no row holds the address.
-- Assumes nothing.
use mathlib.Core.Path.{◌≡◌, refl, sym, ap, ◌∙◌, subst}
use mathlib.Core.Logic.{⊎_elim}
use mathlib.Core.Bool.{true, false, cond}
use mathlib.Core.List.Memᴰ
use mathlib.Core.List.{List, [], ◌∷◌}
use Rattle.std.proofs.lemmas.List.{get_or-take}
use Prim.Native.Nat.{ℕ, suc, ◌≤◌, ◌<◌}
use native.Mathlib.Omega.{arith}
use lib.ListN.{length, get_or, take}
use lib.Seq.{length-take-le}
use native.Mathlib.Nat.{not-le_of_lt, le_of_lt, le_refl}
use Rattle.ground.specs.Column.{ascends}
use Rattle.ground.proofs.Ascends.{ascends_at}
use Rattle.ground.proofs.Truth.{decided, never_both, cond_true, cond_false}
use Rattle.cidr.specs.Prefix.{holds, length_of}
use Rattle.cidr.proofs.Prefix.{longer_later}
use Rattle.routes.specs.Row.{Row, row, rows_of, list_room}
use Rattle.routes.specs.WellFormed.{ascending, half_formed}
use Rattle.routes.specs.Plain.{plain, NoneHolds, IsLastToHold}
use Rattle.routes.proofs.Row.{Has, has_at}
use Rattle.routes.proofs.WellFormed.{first_below, ascending_tail}
use Rattle.routes.proofs.Change.{Order, before, same, after, order}
use Rattle.routes.proofs.Plain.{NoMatch, Longest, plain_cases, plain_longest, plain_no_match}
use Rattle.routes.proofs.RowsOf.{row_at, row_there}
use Rattle.routes.proofs.Columns.{length_rows, keys_of_rows}
use Rattle.routes.proofs.ListTest.{half_room, half_ascends}

-- the hop that a walk over the rows keeps: a row's own where the row holds the address, else the one it had
abbrev pub kept_hop : ℕ → ℕ → Row → ℕ
kept_hop h a r = cond (holds r.key a) r.hop h

unfoldable pub last_hop : ℕ → ℕ → List Row → ℕ
last_hop h a [] = h
last_hop h a (r ∷ rs) = last_hop (kept_hop h a r) a rs

module _ (a : ℕ) where
  pub last_none : (h : ℕ) (rows : List Row) → NoMatch rows a → last_hop h a rows ≡ h
  unfolding last_hop
  last_none h [] none_in = refl
  last_none h (r ∷ rs) none_in =
      last_none (kept_hop h a r) rs (λ s m. none_in s (Memᴰ.tail m)) ∙ cond_false r.hop h (none_in r (Memᴰ.head refl))

  -- after the longest match nothing matches
  none_after : (r : Row) (rs : List Row) → ascending (r ∷ rs) ≡ true → Longest (r ∷ rs) a r → NoMatch rs a
  none_after r rs asc l s m = ⊎_elim shorter (λ e. e) (decided (holds s.key a))
    where
      shorter : holds s.key a ≡ true → holds s.key a ≡ false
      shorter e =
          let longer = longer_later r.key s.key a (first_below r rs asc s m) l.matches e in
          absurd (not-le_of_lt longer (l.longest s (Memᴰ.tail m) e))

  last_first : (h : ℕ) (r : Row) (rs : List Row) → ascending (r ∷ rs) ≡ true → Longest (r ∷ rs) a r → last_hop h a (r ∷ rs) ≡ r.hop
  unfolding last_hop
  last_first h r rs asc l = last_none _ rs (none_after r rs asc l) ∙ cond_true r.hop h l.matches

  longest_later : (t : Row) (ts : List Row) (r : Row) → Has r ts → Longest (t ∷ ts) a r → Longest ts a r
  longest_later t ts r m l = record { listed = m; matches = l.matches; longest = λ s n. l.longest s (Memᴰ.tail n) }

  pub last_longest : (h : ℕ) (rows : List Row) → ascending rows ≡ true → (r : Row) → Longest rows a r → last_hop h a rows ≡ r.hop
  unfolding last_hop
  last_longest h [] asc r l = absurd (Memᴰ.not-nil l.listed)
  last_longest h (t ∷ ts) asc r l = ⊎_elim
      (λ q. last_first h t ts asc (subst (Longest (t ∷ ts) a) q l) ∙ ap (λ x. x.hop) (sym q))
      (λ m. last_longest (kept_hop h a t) ts (ascending_tail t ts asc) r (longest_later t ts r m l))
      (Memᴰ.cases_cons l.listed)

  pub plain_last : (rows : List Row) → ascending rows ≡ true → plain rows a ≡ last_hop 0 a rows
  plain_last rows asc =
      ⊎_elim (λ w. w.1 ∙ sym (last_none 0 rows w.0)) (λ w. w.2 ∙ sym (last_longest 0 rows asc w.0 w.1)) (plain_cases rows a)

-- a listed row's place
record Placed (rows : List Row) (r d : Row) : Type 0 where
  at : ℕ
  below : at < length rows
  is : r ≡ get_or rows at d

has_place : (rows : List Row) (r d : Row) → Has r rows → Placed rows r d
has_place [] r d m = absurd (Memᴰ.not-nil m)
has_place (t ∷ ts) r d m =
    ⊎_elim (λ q. record { at = 0; below = omega arith; is = q }) (λ n. more (has_place ts r d n)) (Memᴰ.cases_cons m)
  where
    more : Placed ts r d → Placed (t ∷ ts) r d
    more w = record { at = suc w.at; below = omega arith; is = w.is }

module _ (count : ℕ) (keys hops : List ℕ) (formed : half_formed count keys hops ≡ true) where
  within : (count ≤ length keys) × (count ≤ length hops)
  unfolding list_room
  within = let room = half_room count keys hops formed in (omega arith, omega arith)

  there : (i : ℕ) → i < count → get_or (rows_of count keys hops) i (row 0 0) ≡ row_at keys hops i
  there i l = row_there count keys hops i (row 0 0) l (omega (arith, within.0)) (omega (arith, within.1))

  many : length (rows_of count keys hops) ≡ count
  many = length_rows count keys hops within.0 within.1

  rising : (i j : ℕ) → i < j → j < count → get_or keys i 0 < get_or keys j 0
  unfolding ascending
  rising i j l m =
      let asc = subst (λ ks. ascends ks ≡ true) (keys_of_rows count keys hops within.0 within.1) (half_ascends count keys hops formed) in
      let n = length-take-le count keys within.0 in
      omega (arith, ascends_at (take count keys) asc i j l (omega arith), get_or-take count keys i 0 (omega arith), get_or-take count keys j 0 m)

  pub taken : count ≡ length (take count keys)
  taken = sym (length-take-le count keys within.0)

  key_taken : (i : ℕ) → i < count → get_or (take count keys) i 0 ≡ get_or keys i 0
  key_taken i l = get_or-take count keys i 0 l

  module _ (a : ℕ) where
    -- where no key holds the address the plain answer is 0
    pub none_holds : NoneHolds (take count keys) a → 0 ≡ plain (rows_of count keys hops) a
    none_holds none = sym (plain_no_match (rows_of count keys hops) a (λ r m. no r (has_place _ r (row 0 0) m)))
      where
        no : (r : Row) → Placed (rows_of count keys hops) r (row 0 0) → holds r.key a ≡ false
        no r w =
            let l : w.at < count = omega (arith, many) in
            rw (w.is, there w.at l, ← key_taken w.at l) (none w.at (omega (arith, taken)))

    module _ (at : ℕ) (last : IsLastToHold (take count keys) a at) where
      at_below : at < count
      at_below = omega (arith, taken, last.0)

      pub at_hop : at < length hops
      at_hop = omega (arith, at_below, within.1)

      here : holds (get_or keys at 0) a ≡ true
      here = sym (ap (λ k. holds k a) (key_taken at at_below)) ∙ last.1

      -- else it is the hop of the last row that holds it
      pub last_holds : get_or hops at 0 ≡ plain (rows_of count keys hops) a
      last_holds =
          sym (plain_longest (rows_of count keys hops) a (half_ascends count keys hops formed) (row_at keys hops at) record {
            listed =
                subst (λ r. Has r (rows_of count keys hops)) (there at at_below)
                (has_at (rows_of count keys hops) at (row 0 0) (omega (arith, many, at_below)));
            matches = here;
            longest = λ s m e. longer s (has_place _ s (row 0 0) m) e;
          })
        where
          longer : (s : Row) → Placed (rows_of count keys hops) s (row 0 0) → holds s.key a ≡ true
              → length_of s.key ≤ length_of (get_or keys at 0)
          longer s w e = go (order w.at at)
            where
              k : w.at < count
              k = omega (arith, many)

              is : s.key ≡ get_or keys w.at 0
              is = ap (λ r. r.key) (w.is ∙ there w.at k)

              held : holds (get_or keys w.at 0) a ≡ true
              held = rw is at e

              go : Order w.at at → length_of s.key ≤ length_of (get_or keys at 0)
              go (before m) =
                  subst (λ x. length_of x ≤ length_of (get_or keys at 0)) (sym is)
                  (le_of_lt (longer_later (get_or keys w.at 0) (get_or keys at 0) a (rising w.at at m at_below) held here))
              go (same q) = rw (is, q) (le_refl _)
              go (after m) = never_both (rw (← key_taken w.at k) at held) (last.2 w.at m (omega (arith, k, taken)))
