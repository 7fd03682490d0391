-- What the quick form says, case by case: that a search has to follow where there are no entries, where the length is above 32, and where
-- another key or a mark stands at the place where halving ends; else the hop that stands there.
-- Assumes nothing.
use mathlib.Core.Path.{◌≡◌, sym, ap, ◌∙◌}
use mathlib.Core.Bool.{true, false, and-false}
use Prim.Native.Nat.{ℕ, ◌≤◌, ◌<◌}
use native.Mathlib.Omega.{arith}
use lib.ListN.{length, get_or}
use borrow.Author.Tests.{lt-ltb, le-ltb, le-leb, lt-leb, eq-eqb, ne_eqb}
use Rattle.halving.specs.Halving.{halving}
use Rattle.entries.specs.Clue.{clue_of}
use Rattle.entries.specs.Entries.{EntriesLent, entry_room}
use Rattle.clue.specs.Quick.{said, quick_place, quick_final, quick_lookup}
use Rattle.entries.proofs.Decided.{and_both}
use Rattle.entries.proofs.Truth.{cond_true, cond_false}

module _ (e : EntriesLent) where
  pub room_within : (entry_room e ≤ length e.keys) × (entry_room e ≤ length e.hops) × (entry_room e ≤ length e.marks)
  unfolding entry_room
  room_within = (omega arith, omega arith, omega arith)

  module _ (len a : ℕ) where
    not_final : quick_final e len (clue_of len a) ≡ false → said false 0 ≡ quick_lookup e len a
    unfolding quick_lookup
    not_final q = sym (cond_false _ _ q)

    pub quick_empty : entry_room e ≡ 0 → said false 0 ≡ quick_lookup e len a
    unfolding quick_final
    quick_empty z = not_final (rw (le-ltb 0 (entry_room e) (omega arith)))

    pub quick_long : 32 < len → said false 0 ≡ quick_lookup e len a
    unfolding quick_final
    quick_long l = not_final (rw (lt-leb len 32 l, and-false))

    -- the place where halving ends
    pub quick_place_lem : {n k low : ℕ} → n ≡ entry_room e → k ≡ clue_of len a → low ≡ (halving (λ i. get_or e.keys i 0) n k).low
        → low ≡ quick_place e (clue_of len a)
    unfolding quick_place
    quick_place_lem {n} {k} r c is = is ∙ ap (λ m. (halving (λ i. get_or e.keys i 0) m k).low) r ∙ ap (quick_place e) c

    module _ {low : ℕ} (is : low ≡ quick_place e (clue_of len a)) where
      pub quick_other : (get_or e.keys low 0 ≡ clue_of len a → ⊥) → said false 0 ≡ quick_lookup e len a
      unfolding quick_final
      quick_other n = not_final (rw (← is, ne_eqb (get_or e.keys low 0) (clue_of len a) n, and-false))

      pub quick_marked : (get_or e.marks low 0 ≡ 0 → ⊥) → said false 0 ≡ quick_lookup e len a
      unfolding quick_final
      quick_marked n = not_final (rw (← is, ne_eqb (get_or e.marks low 0) 0 n) (simp and-false))

      pub quick_found : 0 < entry_room e → len ≤ 32 → get_or e.keys low 0 ≡ clue_of len a → get_or e.marks low 0 ≡ 0
          → said true (get_or e.hops low 0) ≡ quick_lookup e len a
      unfolding quick_final quick_lookup
      quick_found some short k m = rw is (sym (cond_true _ _
          (and_both (and_both (lt-ltb 0 (entry_room e) some) (le-leb len 32 short))
          (rw (← is) (and_both (eq-eqb (get_or e.keys low 0) (clue_of len a) k) (eq-eqb (get_or e.marks low 0) 0 m))))))
