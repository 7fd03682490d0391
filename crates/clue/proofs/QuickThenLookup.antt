-- Rule 19.7: over entries that are a list's, a hop that the quick form says is final is the list's plain answer, whatever the length. It says
-- so exactly where lookup with a hint gives a stored hop, and then it is the same hop.
-- Assumes nothing.
use mathlib.Core.Path.{◌≡◌, refl, sym, ap, ◌∙◌}
use mathlib.Core.Logic.{⊎_elim}
use mathlib.Core.Bool.{Bool, true, false, cond, ◌&&◌}
use mathlib.Core.List.{List}
use Prim.Native.Nat.{ℕ, ◌≤◌, ◌<◌}
use native.Mathlib.Omega.{arith}
use lib.ListN.{length, get_or}
use lib.Dec.{ltb, leb, eqb}
use borrow.Author.Tests.{ltb-true, leb-true, eqb-true, eq-eqb}
use Rattle.ground.specs.Column.{is_in, lower}
use Rattle.halving.specs.Halving.{halving}
use Rattle.routes.specs.Row.{Row, ListLent, rows_lent}
use Rattle.routes.specs.WellFormed.{well_formed}
use Rattle.routes.specs.Plain.{plain}
use Rattle.std.specs.Prelude.{Result, Option}
use Rattle.clue.specs.declared.Refusal.{Refusal}
use Rattle.clue.specs.declared.Hinted.{Hinted}
use Rattle.entries.specs.Clue.{clue_of}
use Rattle.entries.specs.Entries.{EntriesLent, its_entries, entry_room}
use Rattle.clue.specs.Lookup.{HintOutcome, hint_gave, is_final, stored_hop, hint_lookup}
use Rattle.clue.specs.Quick.{QuickOutcome, said, quick_gave, quick_place, quick_final, quick_lookup}
use Rattle.entries.proofs.Decided.{decided, never_both, and_left, and_right, and_both}
use Rattle.entries.proofs.Truth.{same_test}
use Rattle.entries.proofs.Keys.{placed_in, at_place}
use Rattle.clue.proofs.Halfway.{halving_below, halving_finds}
use Rattle.entries.proofs.EntryTest.{its_ascend, its_hops_count, its_marks_count}
use Rattle.clue.proofs.Stored.{stored_plain, final_listed, final_place, final_mark}
use Rattle.clue.proofs.QuickOutcomes.{room_within, quick_found}
use Rattle.clue.proofs.HintOutcomes.{hint_final, hint_searched}

-- the parts of a hop that is final
record Parts (e : EntriesLent) (len k : ℕ) : Type 0 where
  some : 0 < entry_room e
  short : len ≤ 32
  key_is : get_or e.keys (quick_place e k) 0 ≡ k
  mark_is : get_or e.marks (quick_place e k) 0 ≡ 0

module _ (e : EntriesLent) (len k : ℕ) (f : quick_final e len k ≡ true) where
  front : (ltb 0 (entry_room e) && leb len 32) ≡ true
  unfolding quick_final
  front = and_left (ltb 0 (entry_room e) && leb len 32) _ f

  back : (eqb (get_or e.keys (quick_place e k) 0) k && eqb (get_or e.marks (quick_place e k) 0) 0) ≡ true
  unfolding quick_final
  back = and_right (ltb 0 (entry_room e) && leb len 32) _ f

  parts : Parts e len k
  parts = record {
    some = ltb-true 0 (entry_room e) (and_left (ltb 0 (entry_room e)) (leb len 32) front);
    short = leb-true len 32 (and_right (ltb 0 (entry_room e)) (leb len 32) front);
    key_is = eqb-true (get_or e.keys (quick_place e k) 0) k (and_left (eqb (get_or e.keys (quick_place e k) 0) k) _ back);
    mark_is = eqb-true (get_or e.marks (quick_place e k) 0) 0 (and_right (eqb (get_or e.keys (quick_place e k) 0) k) _ back);
  }

place_below : (e : EntriesLent) (k : ℕ) → 0 < entry_room e → quick_place e k < length e.keys
unfolding quick_place
place_below e k some = omega (arith, halving_below (λ i. get_or e.keys i 0) (entry_room e) k some, (room_within e).0)

-- what the quick form says is final
says_final : (e : EntriesLent) (len a : ℕ) → (quick_lookup e len a).final ≡ true
    → (quick_final e len (clue_of len a) ≡ true) × ((quick_lookup e len a).hop ≡ get_or e.hops (quick_place e (clue_of len a)) 0)
unfolding quick_lookup
says_final e len a f = go (quick_final e len (clue_of len a)) f
  where
    go : (b : Bool)
        → (cond b (said true (get_or e.hops (quick_place e (clue_of len a)) 0)) (said false 0)).final ≡ true
        → (b ≡ true) × ((cond b (said true (get_or e.hops (quick_place e (clue_of len a)) 0)) (said false 0)).hop
        ≡ get_or e.hops (quick_place e (clue_of len a)) 0)
    go true q = (refl, refl)
    go false q = never_both q refl

module _ (rows : List Row) (e : EntriesLent) (its : its_entries rows e ≡ true) where
  -- all entries are in the room
  room_is : entry_room e ≡ length e.keys
  unfolding entry_room
  room_is =
      omega (arith, its_hops_count rows e.keys e.hops e.marks its, its_marks_count rows e.keys e.hops e.marks its)

  -- Rule 19.7: a hop that is final is the plain answer.
  pub quick_final_lem : (len a : ℕ) (t : Option ℕ) → quick_gave t ≡ quick_lookup e len a → (quick_gave t).final ≡ true → (quick_gave t).hop ≡ plain rows a
  quick_final_lem len a t gave f =
      let w = says_final e len a (sym (ap (λ (o : QuickOutcome). o.final) gave) ∙ f) in
      let p = parts e len (clue_of len a) w.0 in
      ap (λ (o : QuickOutcome). o.hop) gave ∙ w.1
      ∙ stored_plain rows e its (quick_place e (clue_of len a)) (place_below e (clue_of len a) p.some) len a p.short p.key_is p.mark_is

  -- halving ends at the place of a key that is there
  place_is : (k : ℕ) → is_in k e.keys ≡ true → quick_place e k ≡ lower k e.keys
  unfolding quick_place
  place_is k m =
      let asc = its_ascend rows e.keys e.hops e.marks its in
      let place = at_place k e.keys asc m in
      ap (λ n. (halving (λ i. get_or e.keys i 0) n k).low) room_is
      ∙ ap (λ x. (halving (λ i. get_or e.keys i 0) (length e.keys) x).low) (sym place.1)
      ∙ halving_finds e.keys asc (lower k e.keys) place.0

  module _ (len a : ℕ) (short : len ≤ 32) where
    -- Rule 19.7: where the clue's entry is final, the quick form says so, and says the stored hop.
    pub quick_tells : is_final e (clue_of len a) ≡ true → quick_lookup e len a ≡ said true (stored_hop e (clue_of len a))
    unfolding stored_hop
    quick_tells f =
        let k = clue_of len a in
        let place = final_place rows e its k f in
        sym (quick_found e len a (sym (place_is k (final_listed rows e its k f))) (omega (arith, room_is, place.0)) short place.1
        (final_mark rows e its k f))

    -- and it says so nowhere else
    pub quick_tells_only : (quick_lookup e len a).final ≡ is_final e (clue_of len a)
    unfolding is_final
    quick_tells_only = same_test _ _
        (λ f.
        let k = clue_of len a in
        let p = parts e len k (says_final e len a f).0 in
        let there = placed_in k e.keys (quick_place e k) (place_below e k p.some) p.key_is in
        and_both there (eq-eqb (get_or e.marks (lower k e.keys) 0) 0 (ap (λ i. get_or e.marks i 0) (sym (place_is k there)) ∙ p.mark_is)))
        (λ f. ap (λ (o : QuickOutcome). o.final) (quick_tells f))

-- So over a well-formed list and its entries the quick form and lookup with a hint say the same of a stored hop.
module _ (l : ListLent) (e : EntriesLent) (len a : ℕ) (t : Option ℕ) (r : Result Hinted Refusal) (told : quick_gave t ≡ quick_lookup e len a)
    (gave : hint_gave r ≡ hint_lookup l e len a) (short : len ≤ 32) (w : well_formed l.count l.keys l.hops ≡ true)
    (its : its_entries (rows_lent l) e ≡ true) where
  pub quick_agrees : ((quick_gave t).final ≡ (hint_gave r).final) × ((quick_gave t).final ≡ true → (quick_gave t).hop ≡ (hint_gave r).hop)
  quick_agrees = ⊎_elim
      (λ f.
      let is = told ∙ quick_tells (rows_lent l) e its len a short f in
      let is' = gave ∙ hint_final l e len a short w its f in (
        ap (λ (o : QuickOutcome). o.final) is ∙ sym (ap (λ (o : HintOutcome). o.final) is'),
        λ q. ap (λ (o : QuickOutcome). o.hop) is ∙ sym (ap (λ (o : HintOutcome). o.hop) is'),
      ))
      (λ f.
      let not_final = ap (λ (o : QuickOutcome). o.final) told ∙ quick_tells_only (rows_lent l) e its len a short ∙ f in
      let is' = gave ∙ hint_searched l e len a short w its f in
      (not_final ∙ sym (ap (λ (o : HintOutcome). o.final) is'), λ q. never_both q not_final))
      (decided (is_final e (clue_of len a)))
