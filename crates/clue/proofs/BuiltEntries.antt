-- What an accepted build leaves, from its contract alone: as many first slots as it says are the list's entries for their clues (rule
-- 19.5), and every clue that counts has one.
-- Assumes nothing.
use mathlib.Core.Path.{◌≡◌, refl, sym, ap, ◌∙◌}
use mathlib.Core.Logic.{⊎_elim}
use mathlib.Core.Bool.{true, false, or-true}
use mathlib.Core.List.{List, [], ◌∷◌}
use Prim.Native.Nat.{ℕ, zero, suc, ◌≤◌, ◌<◌}
use native.Mathlib.Omega.{arith}
use lib.ListN.{length, get_or, take}
use lib.Seq.{take_at}
use lib.Dec.{ltb, eqb}
use borrow.Author.Tests.{ltb-true, ltb-false, eq-eqb}
use Rattle.ground.specs.Numbers.{done}
use Rattle.ground.specs.Slots.{written, same}
use Rattle.ground.specs.Column.{ascends, is_in}
use Rattle.cidr.specs.Prefix.{addresses}
use Rattle.routes.specs.Row.{Row, ListLent, rows_lent}
use Rattle.routes.specs.WellFormed.{well_formed}
use Rattle.std.specs.Prelude.{Ok}
use Rattle.entries.specs.Clue.{clue_of}
use Rattle.entries.specs.Entries.{clues, in_key_order, entry_hops, entry_marks, EntriesLent, entries_lent, all_keys, its_entries, too_long, entry_room, entries_in}
use Rattle.clue.specs.Build.{EntriesOutcome, made, entries_gave, build_entries}
use Rattle.entries.proofs.Decided.{decided, and_both}
use Rattle.entries.proofs.KeyOrder.{in_order_ascends, in_order_has, in_order_keys, clues_keys}
use Rattle.entries.proofs.Clues.{clues_length, clues_at}
use Rattle.entries.proofs.Writing.{hops_many, marks_many}
use Rattle.clue.proofs.BuildOutcomes.{build_long, build_ill, build_full, build_done}

same_self : (xs : List ℕ) → same xs xs ≡ true
unfolding same
same_self [] = refl
same_self (x ∷ xs) = and_both (eq-eqb x x refl) (same_self xs)

-- keys in order, with the list's hop and mark for each, are its entries
its : (rows : List Row) (ks : List ℕ) → all_keys ks ≡ true → ascends ks ≡ true
    → its_entries rows (entries_lent ks (entry_hops rows ks) (entry_marks rows ks)) ≡ true
unfolding its_entries
its rows ks keys a = and_both (and_both keys a) (and_both (same_self (entry_hops rows ks)) (same_self (entry_marks rows ks)))

-- what stands at a place is one of the column
is_at : (xs : List ℕ) (i d : ℕ) → i < length xs → is_in (get_or xs i d) xs ≡ true
unfolding is_in
is_at [] i d l = absurd (omega arith)
is_at (x ∷ xs) zero d l = rw (eq-eqb x x refl)
is_at (x ∷ xs) (suc i) d l = rw (is_at xs i d (omega arith)) (or-true (eqb (get_or xs i d) x))

take_written : (n : ℕ) (new old : List ℕ) → n ≡ length new → take n (written new old) ≡ new
unfolding written
take_written n new old e = take_at new _ n (sym e)

module _ (l : ListLent) (lengths addrs : List ℕ) (e : EntriesLent) {n : ℕ} {ekeys ehops marks : List ℕ}
    (b : entries_gave (Ok n) ekeys ehops marks ≡ build_entries l lengths addrs e) where
  abbrev number_is : EntriesOutcome → ℕ
  number_is o = o.number

  -- an accepted build found none of the three faults
  short : too_long lengths addrs ≡ false
  short = ⊎_elim (λ t. absurd (omega (arith, ap number_is (b ∙ sym (build_long l lengths addrs e t))))) (λ t. t) (decided _)

  pub built_well : well_formed l.count l.keys l.hops ≡ true
  built_well = ⊎_elim (λ t. t) (λ t. absurd (omega (arith, ap number_is (b ∙ sym (build_ill l lengths addrs e short t))))) (decided _)

  roomy : length (in_key_order (clues lengths addrs)) ≤ entry_room e
  roomy = ⊎_elim
      (λ t. absurd (omega (arith, ap number_is (b ∙ sym (build_full l lengths addrs e short built_well refl (ltb-true _ _ t))))))
      (λ t. ltb-false _ _ t)
      (decided (ltb (entry_room e) (length (in_key_order (clues lengths addrs)))))

  left : made done n (entries_lent ekeys ehops marks)
      ≡ made done (length (in_key_order (clues lengths addrs))) (entries_in (rows_lent l) (in_key_order (clues lengths addrs)) e)
  left = b ∙ sym (build_done l lengths addrs e short built_well refl (rows_lent l) roomy refl refl refl)

  many : n ≡ length (in_key_order (clues lengths addrs))
  many = ap (λ (o : EntriesOutcome). o.count) left

  keys_are : take n ekeys ≡ in_key_order (clues lengths addrs)
  unfolding entries_in
  keys_are = ap (λ (o : EntriesOutcome). take n o.left.keys) left ∙ take_written n _ e.keys many

  hops_are : take n ehops ≡ entry_hops (rows_lent l) (in_key_order (clues lengths addrs))
  unfolding entries_in
  hops_are =
      ap (λ (o : EntriesOutcome). take n o.left.hops) left
      ∙ take_written n _ e.hops (many ∙ sym (hops_many (rows_lent l) (in_key_order (clues lengths addrs))))

  marks_are : take n marks ≡ entry_marks (rows_lent l) (in_key_order (clues lengths addrs))
  unfolding entries_in
  marks_are =
      ap (λ (o : EntriesOutcome). take n o.left.marks) left
      ∙ take_written n _ e.marks (many ∙ sym (marks_many (rows_lent l) (in_key_order (clues lengths addrs))))

  pub built_are_its : ((i : ℕ) → get_or addrs i 0 < addresses)
      → its_entries (rows_lent l) (entries_lent (take n ekeys) (take n ehops) (take n marks)) ≡ true
  built_are_its small =
      rw (keys_are, hops_are, marks_are)
      (its (rows_lent l) (in_key_order (clues lengths addrs)) (in_order_keys _ (clues_keys lengths addrs short small)) (in_order_ascends _))

  pub built_has : (i : ℕ) → i < length lengths → i < length addrs → is_in (clue_of (get_or lengths i 0) (get_or addrs i 0)) (take n ekeys) ≡ true
  built_has i p q =
      rw (keys_are, ← clues_at lengths addrs i p q)
      (in_order_has _ (clues lengths addrs) ∙ is_at (clues lengths addrs) i 0 (rw clues_length (omega arith)))
