-- What C gets from a lookup over run bytes, case by case: 11 where the lookup refuses, 13 where fewer than four bytes are lent for the last
-- address, and else the hop, with the last address in those four.
-- Assumes nothing.
use mathlib.Core.Path.{◌≡◌, refl, sym, ap, ◌∙◌}
use mathlib.Core.Logic.{⊎_elim}
use mathlib.Core.Bool.{Bool, false, not, ◌||◌}
use mathlib.Core.List.{List, []}
use Prim.Native.Nat.{ℕ, ◌%◌, ◌≤◌, ◌<◌}
use lib.ListN.{length}
use lib.Dec.{eqb, ltb}
use borrow.Author.Tests.{lt-ltb, le-ltb}
use Rattle.ground.specs.Numbers.{first_fault, number_of, done, no_room}
use Rattle.ground.specs.Slots.{written}
use Rattle.ground.proofs.Truth.{decided, cond_false}
use Rattle.ground.proofs.Numbers.{outcome_here, outcome_later, outcome_last, accepted_fault, no_fault, number_some}
use Rattle.routes.specs.Lookup.{looked_up}
use Rattle.lookup.specs.declared.Held.{Held}
use Rattle.std.specs.Prelude.{Result, Ok, Err}
use Rattle.ground.specs.declared.Refusal.{Refusal}
use Rattle.lookup.specs.Lookup.{BytesLookupOutcome, held, bytes_lookup_gave, bytes_checks, bytes_lookup}
use Rattle.lookup.proofs.LookupOutcomes.{bytes_looked_up}
use Rattle.c_answers.specs.Exports.{lookup_for_c, address_bytes}
use Rattle.host.specs.Exports.{held_checks, held_gave_c, held_for_c}

-- whether the bytes are ill-formed
abbrev ill : List ℕ → Bool
ill bytes = eqb (length bytes) 0 || not (eqb (length bytes % 6) 0)

module _ (bytes : List ℕ) (a : ℕ) (r : Result Held Refusal) (gave : bytes_lookup_gave r ≡ bytes_lookup bytes a) where
  abbrev number : BytesLookupOutcome → ℕ
  number o = o.number

  pub held_refused : {e : Refusal} → r ≡ Err e → (last : List ℕ) → held_gave_c (lookup_for_c (looked_up (number_of e) 0)) last ≡ held_for_c bytes a last
  unfolding held_for_c held_checks bytes_checks bytes_lookup first_fault
  held_refused {e} is last = ⊎_elim
      (λ b. rw (ap number ((rw is at gave) ∙ outcome_here 10 _ _ _ b)) (sym (outcome_here 10 _ _ _ b)))
      (λ b. absurd (number_some e (ap number ((rw is at gave) ∙ bytes_looked_up bytes a (rw b)))))
      (decided (ill bytes))

  module _ {f : Held} (e : r ≡ Ok f) where
    is : held done f.hop f.last ≡ bytes_lookup bytes a
    is = rw e at gave

    formed : ill bytes ≡ false
    unfolding bytes_lookup bytes_checks
    formed = (no_fault (ill bytes) 10 [] (accepted_fault number (bytes_checks bytes) _ _ (λ n. refl) (sym (ap number is)))).0

    pub held_short : (last : List ℕ) → length last < 4 → held_gave_c (lookup_for_c (looked_up no_room 0)) last ≡ held_for_c bytes a last
    unfolding held_for_c held_checks bytes_checks
    held_short last short = sym (outcome_later 11 _ _ _ formed ∙ outcome_here 12 [] _ _ (lt-ltb (length last) 4 short))

    pub held_carried : (last : List ℕ) → 4 ≤ length last
        → held_gave_c (lookup_for_c (looked_up done f.hop)) (written (address_bytes f.last) last) ≡ held_for_c bytes a last
    unfolding held_for_c held_checks bytes_checks
    held_carried last room =
        sym
        (outcome_later 11 _ _ _ formed ∙ outcome_last (ltb (length last) 4) 12 _ _ ∙ cond_false _ _ (le-ltb (length last) 4 room)
        ∙ rw (← is))
