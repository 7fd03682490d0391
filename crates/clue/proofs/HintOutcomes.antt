-- What a lookup with a hint gives, case by case: 15 for a length above 32, 11 for a list that isn't well-formed, 14 for entries that aren't
-- the list's, and else the stored hop where the clue's entry is final, and the plain answer where it isn't.
-- Assumes nothing.
use mathlib.Core.Path.{◌≡◌, ◌∙◌}
use mathlib.Core.Bool.{true, false, cond}
use Prim.Native.Nat.{ℕ, ◌≤◌, ◌<◌}
use lib.ListN.{get_or}
use borrow.Author.Tests.{lt-ltb, le-ltb, eq-eqb, ne_eqb}
use Rattle.ground.specs.Numbers.{first_fault, outcome, done, ill_formed}
use Rattle.routes.specs.Row.{ListLent, rows_lent}
use Rattle.routes.specs.WellFormed.{well_formed}
use Rattle.routes.specs.Plain.{plain}
use Rattle.std.specs.Prelude.{Ok, Err}
use Rattle.routes.specs.Place.{place_in}
use Rattle.entries.specs.Clue.{clue_of}
use Rattle.entries.specs.Entries.{EntriesLent, its_entries}
use Rattle.clue.specs.Refusal.{bad_length, not_its_entries}
use Rattle.clue.specs.Lookup.{hinted, is_final, stored_hop, hint_checks, hint_lookup}
use Rattle.entries.proofs.Places.{at_in, missing_out}

module _ (l : ListLent) (e : EntriesLent) (len a : ℕ) where
  pub hint_long : 32 < len → hint_lookup l e len a ≡ hinted bad_length 0 false
  unfolding hint_lookup hint_checks first_fault outcome
  hint_long h = rw (lt-ltb 32 len h)

  module _ (short : len ≤ 32) where
    pub hint_ill : well_formed l.count l.keys l.hops ≡ false → hint_lookup l e len a ≡ hinted ill_formed 0 false
    unfolding hint_lookup hint_checks first_fault outcome
    hint_ill w = rw (le-ltb 32 len short, w)

    module _ (w : well_formed l.count l.keys l.hops ≡ true) where
      pub hint_other : its_entries (rows_lent l) e ≡ false → hint_lookup l e len a ≡ hinted not_its_entries 0 false
      unfolding hint_lookup hint_checks first_fault outcome
      hint_other i = rw (le-ltb 32 len short, w, i)

      module _ (i : its_entries (rows_lent l) e ≡ true) where
        pub hint_answers : hint_lookup l e len a
            ≡ cond (is_final e (clue_of len a)) (hinted done (stored_hop e (clue_of len a)) true) (hinted done (plain (rows_lent l) a) false)
        unfolding hint_lookup hint_checks first_fault outcome
        hint_answers = rw (le-ltb 32 len short, w, i)

        pub hint_final : is_final e (clue_of len a) ≡ true → hint_lookup l e len a ≡ hinted done (stored_hop e (clue_of len a)) true
        hint_final f = hint_answers ∙ rw f

        pub hint_searched : is_final e (clue_of len a) ≡ false → hint_lookup l e len a ≡ hinted done (plain (rows_lent l) a) false
        hint_searched f = hint_answers ∙ rw f

-- whether the clue's entry is final, by the clue's place among the entries' keys
module _ (e : EntriesLent) (k i : ℕ) where
  module _ (p : place_in e.keys k ≡ Ok i) where
    pub final_at : get_or e.marks i 0 ≡ 0 → is_final e k ≡ true
    unfolding is_final
    final_at m =
        let at = at_in e.keys k i p in
        rw (at.0, ← at.1, eq-eqb (get_or e.marks i 0) 0 m)

    pub marked_at : (get_or e.marks i 0 ≡ 0 → ⊥) → is_final e k ≡ false
    unfolding is_final
    marked_at m =
        let at = at_in e.keys k i p in
        rw (at.0, ← at.1, ne_eqb (get_or e.marks i 0) 0 m)

    pub stored_at : stored_hop e k ≡ get_or e.hops i 0
    unfolding stored_hop
    stored_at = rw (← (at_in e.keys k i p).1)

  pub none_at : place_in e.keys k ≡ Err i → is_final e k ≡ false
  unfolding is_final
  none_at p = rw (missing_out e.keys k i p).0
