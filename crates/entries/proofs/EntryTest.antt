-- Whether entries are a list's, entry by entry: three slices of one length are exactly if the first entry is the list's for its clue, its
-- key is below the next one's, and the entries behind it are in the same way.
-- Assumes nothing.
use mathlib.Core.Path.{◌≡◌, refl, sym, ap, ◌∙◌}
use mathlib.Core.Logic.{⊎_elim}
use mathlib.Core.Bool.{Bool, true, false, ◌&&◌, and-false}
use mathlib.Core.List.{List, [], ◌∷◌, map}
use Prim.Native.Nat.{ℕ, suc, ◌+◌, ◌≤◌, ◌<◌, zero-le}
use native.Mathlib.Numerals.{add-one}
use native.Mathlib.Omega.{arith}
use lib.ListN.{length, get_or, drop, length-map}
use lib.Seq.{drop-cons, drop-length}
use lib.Dec.{ltb, eqb}
use borrow.Author.Tests.{lt-ltb, le-ltb, eq-eqb, ne_eqb}
use Rattle.ground.specs.Slots.{same}
use Rattle.ground.specs.Column.{below, ascends}
use Rattle.cidr.specs.Prefix.{is_prefix}
use Rattle.routes.specs.Row.{Row}
use Rattle.std.specs.Prelude.{Ok}
use Rattle.routes.specs.Place.{place_in}
use Rattle.entries.specs.Clue.{hop_around, extended}
use Rattle.entries.specs.Entries.{mark, entry_hops, entry_marks, entries_lent, all_keys, its_entries}
use Rattle.entries.proofs.Keys.{at_place}
use Rattle.entries.proofs.Places.{at_in}
use Rattle.entries.proofs.Decided.{decided, never_both, and_left, and_right}

-- an entry is the list's for its clue
abbrev pub entry_is : List Row → ℕ → ℕ → ℕ → Bool
entry_is rows key hop marked = is_prefix key && (eqb hop (hop_around rows key) && eqb marked (mark (extended rows key)))

module _ (rows : List Row) (key hop marked : ℕ) where
  pub not_a_key : is_prefix key ≡ false → false ≡ entry_is rows key hop marked
  not_a_key e = rw e

  module _ (e : is_prefix key ≡ true) {found : ℕ} (is : found ≡ hop_around rows key) where
    pub another_hop : (hop ≡ found → ⊥) → false ≡ entry_is rows key hop marked
    another_hop n = rw (e, ne_eqb hop (hop_around rows key) (λ q. n (q ∙ sym is)))

    pub mark_decides : hop ≡ found → {told : ℕ} → told ≡ mark (extended rows key) → eqb marked told ≡ entry_is rows key hop marked
    mark_decides h t = rw (e, eq-eqb hop (hop_around rows key) (h ∙ is), t)

regroup : (p b h m ps bs hs ms : Bool)
    → (((p && ps) && (b && bs)) && ((h && hs) && (m && ms))) ≡ ((p && (h && m)) && (b && ((ps && bs) && (hs && ms))))
regroup false b h m ps bs hs ms = refl
regroup true b false m ps bs hs ms = and-false (ps && (b && bs))
regroup true false true true ps bs hs ms = ap (◌&& (hs && ms)) (and-false ps)
regroup true true true true ps bs hs ms = refl
regroup true b true false ps bs hs ms = ap ((ps && (b && bs)) &&◌) (and-false hs) ∙ and-false (ps && (b && bs))

module _ (rows : List Row) where
  its_nil : its_entries rows (entries_lent [] [] []) ≡ true
  unfolding its_entries all_keys ascends same entry_hops entry_marks
  its_nil = refl

  its_cons : (k h m : ℕ) (ks hs ms : List ℕ)
      → its_entries rows (entries_lent (k ∷ ks) (h ∷ hs) (m ∷ ms))
      ≡ (entry_is rows k h m && (below k ks && its_entries rows (entries_lent ks hs ms)))
  unfolding its_entries all_keys ascends same entry_hops entry_marks
  its_cons k h m ks hs ms =
      regroup (is_prefix k) (below k ks) (eqb h (hop_around rows k)) (eqb m (mark (extended rows k))) (all_keys ks) (ascends ks)
      (same hs (map (hop_around rows) ks)) (same ms (map (λ k. mark (extended rows k)) ks))

none_left : (xs : List ℕ) (i : ℕ) → length xs ≡ i → drop i xs ≡ []
none_left xs i e = rw (← e) (drop-length xs)

-- two lists that are the same have one length
same_length : (xs ys : List ℕ) → same xs ys ≡ true → length xs ≡ length ys
unfolding same
same_length [] [] e = refl
same_length [] (y ∷ ys) e = never_both e refl
same_length (x ∷ xs) [] e = never_both e refl
same_length (x ∷ xs) (y ∷ ys) e = ap suc (same_length xs ys (and_right (eqb x y) (same xs ys) e))

-- the parts of entries that are a list's
module _ (rows : List Row) (keys hops marks : List ℕ) (e : its_entries rows (entries_lent keys hops marks) ≡ true) where
  front : (all_keys keys && ascends keys) ≡ true
  unfolding its_entries
  front = and_left (all_keys keys && ascends keys) _ e

  back : (same hops (entry_hops rows keys) && same marks (entry_marks rows keys)) ≡ true
  unfolding its_entries
  back = and_right (all_keys keys && ascends keys) _ e

  pub its_ascend : ascends keys ≡ true
  its_ascend = and_right (all_keys keys) (ascends keys) front

  pub same_hops : same hops (entry_hops rows keys) ≡ true
  same_hops = and_left (same hops (entry_hops rows keys)) _ back

  pub same_marks : same marks (entry_marks rows keys) ≡ true
  same_marks = and_right (same hops (entry_hops rows keys)) _ back

  pub its_hops_count : length hops ≡ length keys
  unfolding entry_hops
  its_hops_count = same_length hops (entry_hops rows keys) same_hops ∙ length-map keys (hop_around rows)

  pub its_marks_count : length marks ≡ length keys
  unfolding entry_marks
  its_marks_count = same_length marks (entry_marks rows keys) same_marks ∙ length-map keys (λ k. mark (extended rows k))

  -- a key that is among them has its hop and its mark at its place
  pub its_place : (k i : ℕ) → place_in keys k ≡ Ok i → (i < length hops) × (i < length marks)
  its_place k i p =
      let at = at_in keys k i p in
      let there = (at_place k keys its_ascend at.0).0 in
      (omega (arith, its_hops_count, at.1), omega (arith, its_marks_count, at.1))

-- slices of two lengths are nobody's entries
module _ (rows : List Row) (keys hops marks : List ℕ) where
  pub hops_differ : (length hops ≡ length keys → ⊥) → false ≡ its_entries rows (entries_lent keys hops marks)
  hops_differ n = ⊎_elim
      (λ e. absurd (n (its_hops_count rows keys hops marks e)))
      sym
      (decided (its_entries rows (entries_lent keys hops marks)))

  pub marks_differ : (length marks ≡ length keys → ⊥) → false ≡ its_entries rows (entries_lent keys hops marks)
  marks_differ n = ⊎_elim
      (λ e. absurd (n (its_marks_count rows keys hops marks e)))
      sym
      (decided (its_entries rows (entries_lent keys hops marks)))

-- the walk over the entries: where it stands, all are the list's exactly if those from there on are
pub its_from : List Row → List ℕ → List ℕ → List ℕ → ℕ → Bool
its_from rows keys hops marks i = its_entries rows (entries_lent (drop i keys) (drop i hops) (drop i marks))

pub record Walk (rows : List Row) (keys hops marks : List ℕ) (i : ℕ) : Type 0 where
  pub upto : i ≤ length keys
  pub hops_count : length hops ≡ length keys
  pub marks_count : length marks ≡ length keys
  pub rest : its_entries rows (entries_lent keys hops marks) ≡ its_from rows keys hops marks i

module _ (rows : List Row) (keys hops marks : List ℕ) where
  pub walk_start : length hops ≡ length keys → length marks ≡ length keys → Walk rows keys hops marks 0
  unfolding its_from
  walk_start h m = record { upto = zero-le; hops_count = h; marks_count = m; rest = refl }

module _ {rows : List Row} {keys hops marks : List ℕ} {i : ℕ} (w : Walk rows keys hops marks i) where
  pub walk_end : length keys ≤ i → true ≡ its_entries rows (entries_lent keys hops marks)
  unfolding its_from
  walk_end l =
      sym (w.rest ∙ rw (none_left keys i (omega arith), none_left hops i (omega arith), none_left marks i (omega arith)) (its_nil rows))

  module _ (l : i < length keys) where
    here : its_entries rows (entries_lent keys hops marks)
        ≡ (entry_is rows (get_or keys i 0) (get_or hops i 0) (get_or marks i 0)
        && (below (get_or keys i 0) (drop (suc i) keys) && its_from rows keys hops marks (i + 1)))
    unfolding its_from
    here =
        w.rest
        ∙ rw (drop-cons keys i 0 (omega arith), drop-cons hops i 0 (omega arith), drop-cons marks i 0 (omega arith), add-one)
        (its_cons rows _ _ _ _ _ _)

    pub walk_fails : entry_is rows (get_or keys i 0) (get_or hops i 0) (get_or marks i 0) ≡ false
        → false ≡ its_entries rows (entries_lent keys hops marks)
    walk_fails e = sym (here ∙ rw e)

    next : i + 1 < length keys → below (get_or keys i 0) (drop (suc i) keys) ≡ ltb (get_or keys i 0) (get_or keys (i + 1) 0)
    next m = rw (add-one, drop-cons keys (suc i) 0 (omega arith))

    pub walk_stops : i + 1 < length keys → get_or keys (i + 1) 0 ≤ get_or keys i 0 → false ≡ its_entries rows (entries_lent keys hops marks)
    walk_stops m le = sym (here ∙ rw (next m, le-ltb _ _ le, and-false))

    module _ (e : entry_is rows (get_or keys i 0) (get_or hops i 0) (get_or marks i 0) ≡ true) where
      on : below (get_or keys i 0) (drop (suc i) keys) ≡ true → Walk rows keys hops marks (i + 1)
      on b = record { upto = omega arith; hops_count = w.hops_count; marks_count = w.marks_count; rest = here ∙ rw (e, b) }

      pub walk_last : length keys ≤ i + 1 → Walk rows keys hops marks (i + 1)
      walk_last m = on (rw (none_left keys (suc i) (omega arith)))

      pub walk_next : i + 1 < length keys → get_or keys i 0 < get_or keys (i + 1) 0 → Walk rows keys hops marks (i + 1)
      walk_next m lt = on (next m ∙ lt-ltb _ _ lt)
