-- A lookup goes by one test, whether the list is formed: its outcome is the plain answer with 0, or 11. And an outcome is one answer's.
-- Assumes nothing.
use mathlib.Core.Path.{◌≡◌, refl, sym, ap, ◌∙◌}
use mathlib.Core.Bool.{Bool, true, false, not, cond}
use mathlib.Core.List.{[], ◌∷◌}
use Prim.Native.Nat.{ℕ}
use lib.Dec.{eqb}
use Rattle.std.proofs.Common.{Result, Ok, Err}
use Rattle.ground.proofs.Truth.{never_both}
use Rattle.ground.proofs.Numbers.{number_not_done, one_number}
use Rattle.ground.specs.Numbers.{check, first_fault, outcome, done, ill_formed}
use Rattle.ground.specs.declared.Refusal.{Refusal}
use Rattle.ground.specs.declared.Refusal.TheVariants.{IllFormed}
use Rattle.routes.specs.Row.{ListLent, rows_lent}
use Rattle.routes.specs.WellFormed.{well_formed, half_formed, formed}
use Rattle.routes.specs.Plain.{plain}
use Rattle.routes.specs.Lookup.{LookupOutcome, looked_up, lookup_gave, lookup_checks, plain_lookup, half_checks, half_lookup}

-- the hop of a formed list, and 11 for another
abbrev pub answer : Bool → ℕ → Result ℕ Refusal
answer ok hop = cond ok (Ok hop) (Err IllFormed)

answered : (ok : Bool) (hop : ℕ)
    → lookup_gave (answer ok hop) ≡ outcome (check (not ok) ill_formed ∷ []) (λ n. looked_up n 0) (looked_up done hop)
unfolding first_fault outcome
answered true hop = refl
answered false hop = refl

module _ (l : ListLent) (a : ℕ) (r : Result ℕ Refusal) where
  pub plain_answered : r ≡ answer (formed false l.count l.keys l.hops) (plain (rows_lent l) a)
      → lookup_gave r ≡ plain_lookup l a
  unfolding formed plain_lookup lookup_checks
  plain_answered e = ap lookup_gave e ∙ answered (well_formed l.count l.keys l.hops) _

  pub half_answered : r ≡ answer (formed true l.count l.keys l.hops) (plain (rows_lent l) a)
      → lookup_gave r ≡ half_lookup l a
  unfolding formed half_lookup half_checks
  half_answered e = ap lookup_gave e ∙ answered (half_formed l.count l.keys l.hops) _

-- where the list is formed, the outcome is 0 and the plain answer
module _ (l : ListLent) (a : ℕ) where
  pub plain_accepted : well_formed l.count l.keys l.hops ≡ true → plain_lookup l a ≡ looked_up done (plain (rows_lent l) a)
  unfolding plain_lookup lookup_checks first_fault outcome
  plain_accepted e = rw e

  pub half_accepted : half_formed l.count l.keys l.hops ≡ true → half_lookup l a ≡ looked_up done (plain (rows_lent l) a)
  unfolding half_lookup half_checks first_fault outcome
  half_accepted e = rw e

-- two answers with one outcome are the same
one_answer : (r r' : Result ℕ Refusal) → lookup_gave r ≡ lookup_gave r' → r ≡ r'
one_answer (Ok h) (Ok h') e = ap (λ o. Ok o.hop) e
one_answer (Ok h) (Err f) e = never_both (ap (λ n. eqb n done) (sym (ap (λ (o : LookupOutcome). o.number) e))) (number_not_done f)
one_answer (Err f) (Ok h) e = never_both (ap (λ n. eqb n done) (ap (λ (o : LookupOutcome). o.number) e)) (number_not_done f)
one_answer (Err f) (Err f') e = ap Err (one_number f f' (ap (λ (o : LookupOutcome). o.number) e))

pub lookup_settled : (o : LookupOutcome) (r r' : Result ℕ Refusal) → lookup_gave r ≡ o → lookup_gave r' ≡ o → r ≡ r'
lookup_settled o r r' e e' = one_answer r r' (e ∙ sym e')
