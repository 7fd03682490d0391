-- What entries that are a list's hold at a place: the hop and the mark of the key that stands there. Where the mark is 0, the hop is the
-- plain answer at each address that has the key as its clue.
-- Assumes nothing.
use mathlib.Core.Path.{◌≡◌, refl, sym, ◌∙◌}
use mathlib.Core.Bool.{Bool, true, false}
use mathlib.Core.List.{List, [], ◌∷◌, map}
use Prim.Native.Nat.{ℕ, zero, suc, ◌≤◌, ◌<◌}
use native.Mathlib.Omega.{arith}
use lib.ListN.{length, get_or}
use lib.Dec.{eqb}
use borrow.Author.Tests.{eqb-true}
use Rattle.ground.specs.Slots.{same}
use Rattle.ground.specs.Column.{is_in, lower}
use Rattle.routes.specs.Row.{Row}
use Rattle.routes.specs.Plain.{plain}
use Rattle.entries.specs.Clue.{clue_of, hop_around, extended}
use Rattle.entries.specs.Entries.{mark, EntriesLent, entry_hops, entry_marks, its_entries}
use Rattle.clue.specs.Lookup.{is_final, stored_hop}
use Rattle.entries.proofs.Decided.{never_both, and_left, and_right}
use Rattle.entries.proofs.Keys.{at_place}
use Rattle.entries.proofs.EntryTest.{its_ascend, same_hops, same_marks}
use Rattle.clue.proofs.Final.{final_is_plain}

-- numbers that are the same as what a function makes of a list
same_at : (f : ℕ → ℕ) (xs ks : List ℕ) → same xs (map f ks) ≡ true → (i : ℕ) → i < length ks → get_or xs i 0 ≡ f (get_or ks i 0)
unfolding same
same_at f xs [] e i l = absurd (omega arith)
same_at f [] (k ∷ ks) e i l = never_both e refl
same_at f (x ∷ xs) (k ∷ ks) e zero l = eqb-true x (f k) (and_left (eqb x (f k)) _ e)
same_at f (x ∷ xs) (k ∷ ks) e (suc i) l = same_at f xs ks (and_right (eqb x (f k)) _ e) i (omega arith)

not_marked : (b : Bool) → mark b ≡ 0 → b ≡ false
unfolding mark
not_marked true e = absurd (omega arith)
not_marked false e = refl

module _ (rows : List Row) (e : EntriesLent) (its : its_entries rows e ≡ true) where
  module _ (i : ℕ) (l : i < length e.keys) where
    hop_of_lem : get_or e.hops i 0 ≡ hop_around rows (get_or e.keys i 0)
    unfolding entry_hops
    hop_of_lem = same_at (hop_around rows) e.hops e.keys (same_hops rows e.keys e.hops e.marks its) i l

    mark_of : get_or e.marks i 0 ≡ mark (extended rows (get_or e.keys i 0))
    unfolding entry_marks
    mark_of = same_at (λ k. mark (extended rows k)) e.marks e.keys (same_marks rows e.keys e.hops e.marks its) i l

    pub stored_plain : (len a : ℕ) → len ≤ 32 → get_or e.keys i 0 ≡ clue_of len a → get_or e.marks i 0 ≡ 0
        → get_or e.hops i 0 ≡ plain rows a
    stored_plain len a short k m =
        let none = not_marked (extended rows (get_or e.keys i 0)) (sym mark_of ∙ m) in
        hop_of_lem ∙ rw k (final_is_plain len a short rows (rw k at none))

  -- a clue whose entry is final has its place, where its own key stands with mark 0
  module _ (k : ℕ) (f : is_final e k ≡ true) where
    pub final_listed : is_in k e.keys ≡ true
    unfolding is_final
    final_listed = and_left (is_in k e.keys) _ f

    pub final_place : (lower k e.keys < length e.keys) × (get_or e.keys (lower k e.keys) 0 ≡ k)
    final_place = at_place k e.keys (its_ascend rows e.keys e.hops e.marks its) final_listed

    pub final_mark : get_or e.marks (lower k e.keys) 0 ≡ 0
    unfolding is_final
    final_mark = eqb-true (get_or e.marks (lower k e.keys) 0) 0 (and_right (is_in k e.keys) _ f)

  -- the hop that is stored for such a clue
  pub final_stored : (len a : ℕ) → len ≤ 32 → is_final e (clue_of len a) ≡ true → stored_hop e (clue_of len a) ≡ plain rows a
  unfolding stored_hop
  final_stored len a short f =
      let place = final_place (clue_of len a) f in
      stored_plain (lower (clue_of len a) e.keys) place.0 len a short place.1 (final_mark (clue_of len a) f)
