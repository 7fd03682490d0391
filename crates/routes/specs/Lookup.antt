-- Rule 2.13: plain lookup returns 11 for a list that isn't well-formed, and else 0 and the plain answer.
-- Rule 11.8: half lookup does the same, but label 0 is no fault.
-- Assumes nothing.
use Rattle.std.specs.Prelude.{not, List, [], ◌∷◌, ℕ, Result, Ok, Err}
use Rattle.ground.specs.declared.Refusal.{Refusal}
use Rattle.ground.specs.Numbers.{Check, check, outcome, number_of, done, ill_formed}
use Rattle.routes.specs.Row.{ListLent, rows_lent}
use Rattle.routes.specs.WellFormed.{well_formed, half_formed}
use Rattle.routes.specs.Plain.{plain}

-- what a lookup returns: its number, and the hop, which of a half is its label
pub record LookupOutcome : Type 0 where
  pub number : ℕ
  pub hop : ℕ

abbrev pub looked_up : ℕ → ℕ → LookupOutcome
looked_up n h = record { number = n; hop = h }

-- the same, read from the code's answer
abbrev pub lookup_gave : Result ℕ Refusal → LookupOutcome
lookup_gave (Ok h) = looked_up done h
lookup_gave (Err e) = looked_up (number_of e) 0

-- Rule 2.13: plain lookup.
unfoldable pub lookup_checks : ListLent → List Check
lookup_checks l = check (not (well_formed l.count l.keys l.hops)) ill_formed ∷ []

unfoldable pub plain_lookup : ListLent → ℕ → LookupOutcome
plain_lookup l a = outcome (lookup_checks l) (λ n. looked_up n 0) (looked_up done (plain (rows_lent l) a))

-- Rule 11.8: half lookup.
unfoldable pub half_checks : ListLent → List Check
half_checks l = check (not (half_formed l.count l.keys l.hops)) ill_formed ∷ []

unfoldable pub half_lookup : ListLent → ℕ → LookupOutcome
half_lookup l a = outcome (half_checks l) (λ n. looked_up n 0) (looked_up done (plain (rows_lent l) a))
