-- What demand 1 says of one call, whatever it returns: its number is that of the first fault that its checks find, these are made in the
-- one order of all calls, and where there is a fault the call returned and left what its refusal does. `refused n` shows what that is: the
-- number n, 0 for whatever else is returned, and each lent slice as it was.
-- Assumes nothing.
use mathlib.Core.Path.{◌≡◌, refl, ap, ◌∙◌}
use mathlib.Core.Logic.{⊎_elim}
use mathlib.Core.List.{List}
use Prim.Native.Nat.{ℕ}
use lib.Dec.{eqb}
use borrow.Author.Tests.{eqb-true, eqb-false}
use Rattle.ground.specs.Numbers.{Check, first_fault, outcome, done}
use Rattle.ground.proofs.Truth.{decided}
use Rattle.ground.proofs.Numbers.{outcome_done, outcome_refused}
use Rattle.demands.proofs.Orders.{InOrder}

pub record First {A : Type 0} (number : A → ℕ) (checks : List Check) (refused : ℕ → A) (o : A) : Type 0 where
  pub names_first : number o ≡ first_fault checks
  pub in_order : InOrder checks
  pub leaves_all : (number o ≡ done → ⊥) → o ≡ refused (number o)

pub first_of : {A : Type 0} (number : A → ℕ) (checks : List Check) (refused : ℕ → A) (accepted : A)
    → ((n : ℕ) → number (refused n) ≡ n) → number accepted ≡ done → InOrder checks → (o : A) → o ≡ outcome checks refused accepted
    → First number checks refused o
first_of {A} number checks refused accepted says accepts order o e = ⊎_elim
    (λ z. whole (eqb-true (first_fault checks) done z))
    (λ z. fault (eqb-false (first_fault checks) done z))
    (decided (eqb (first_fault checks) done))
  where
    whole : first_fault checks ≡ done → First number checks refused o
    whole z =
        let none = ap number (e ∙ outcome_done checks refused accepted z) ∙ accepts in
        record { names_first = none ∙ rw z; in_order = order; leaves_all = λ other. absurd (other none) }

    fault : (first_fault checks ≡ done → ⊥) → First number checks refused o
    fault z =
        let is = e ∙ outcome_refused checks refused accepted (first_fault checks) refl z in
        let n = ap number is ∙ says (first_fault checks) in
        record { names_first = n; in_order = order; leaves_all = λ other. is ∙ rw n }
