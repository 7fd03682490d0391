-- Which number a call's checks give, check by check, and the outcome that goes with it.
-- Assumes nothing.
use mathlib.Core.Path.{◌≡◌, refl, sym, ap, ◌∙◌}
use mathlib.Core.Bool.{Bool, true, false, cond, false≢true}
use mathlib.Core.List.{List, [], ◌∷◌, ◌++◌}
use Prim.Native.Nat.{ℕ, suc}
use native.Mathlib.Omega.{arith}
use lib.Dec.{eqb}
use borrow.Author.Tests.{eq-eqb, ne_eqb, eqb-true}
use Rattle.std.specs.Prelude.{Result, Ok, Err}
use Rattle.ground.specs.declared.Refusal.{Refusal}
use Rattle.ground.specs.declared.Refusal.TheVariants.{IllFormed, ReportShort, NoRoom, NotItsRuns, BadEdit, NotListed, BadSize, NoDefault, OutsidePacked}
use Rattle.ground.specs.Numbers.{Check, check, first_fault, outcome, number_of, done, ill_formed, report_short, no_room, not_its_runs, bad_edit, not_listed, bad_size, no_default}

module _ {b : Bool} (n : ℕ) (cs : List Check) where
  -- the first check's fault is there
  pub fault_here : b ≡ true → first_fault (check b n ∷ cs) ≡ n
  unfolding first_fault
  fault_here e = rw e

  -- it isn't, and the later checks decide
  pub fault_later : b ≡ false → first_fault (check b n ∷ cs) ≡ first_fault cs
  unfolding first_fault
  fault_later e = rw e

module _ {ℓ} {A : Type ℓ} (checks : List Check) (refused : ℕ → A) (accepted : A) where
  pub outcome_done : first_fault checks ≡ done → outcome checks refused accepted ≡ accepted
  unfolding outcome
  outcome_done e = rw (eq-eqb (first_fault checks) done e)

  pub outcome_refused : (n : ℕ) → first_fault checks ≡ n → (n ≡ done → ⊥) → outcome checks refused accepted ≡ refused n
  unfolding outcome
  outcome_refused n e fault = rw (ne_eqb (first_fault checks) done (λ z. fault (omega arith)), e)

-- the outcome check by check: the fault is there, it isn't and the later checks decide, or it is the last check
module _ {ℓ} {A : Type ℓ} {b : Bool} (n : ℕ) (cs : List Check) (refused : ℕ → A) (accepted : A) where
  pub outcome_here : b ≡ true → outcome (check b (suc n) ∷ cs) refused accepted ≡ refused (suc n)
  unfolding outcome first_fault
  outcome_here e = rw (e, ne_eqb (suc n) done (λ z. omega arith))

  pub outcome_later : b ≡ false → outcome (check b n ∷ cs) refused accepted ≡ outcome cs refused accepted
  unfolding outcome first_fault
  outcome_later e = rw e

pub outcome_last {ℓ} : {A : Type ℓ} (b : Bool) (n : ℕ) (refused : ℕ → A) (accepted : A)
    → outcome (check b (suc n) ∷ []) refused accepted ≡ cond b (refused (suc n)) accepted
unfolding outcome first_fault
outcome_last true n refused accepted = rw (ne_eqb (suc n) done (λ z. omega arith))
outcome_last false n refused accepted = refl

-- checks that give 0 give it in their first part too
pub fault_front : (xs ys : List Check) → first_fault (xs ++ ys) ≡ done → first_fault xs ≡ done
unfolding first_fault
fault_front [] ys e = refl
fault_front (c ∷ cs) ys e = go c.fault e (fault_front cs ys)
  where
    go : (b : Bool) → cond b c.gives (first_fault (cs ++ ys)) ≡ done → (first_fault (cs ++ ys) ≡ done → first_fault cs ≡ done)
        → cond b c.gives (first_fault cs) ≡ done
    go true q rest = q
    go false q rest = rest q

-- checks that give 0 find no fault, neither the first check nor the later ones
pub no_fault : (b : Bool) (n : ℕ) (cs : List Check) → first_fault (check b (suc n) ∷ cs) ≡ done → (b ≡ false) × (first_fault cs ≡ done)
unfolding first_fault
no_fault true n cs e = absurd (omega arith)
no_fault false n cs e = (refl, e)

-- an outcome whose number is 0 is that of an accepted call
module _ {A : Type 0} (number : A → ℕ) (checks : List Check) (refused : ℕ → A) (accepted : A)
    (says : (n : ℕ) → number (refused n) ≡ n) (e : number (outcome checks refused accepted) ≡ done) where
  pub accepted_fault : first_fault checks ≡ done
  unfolding outcome
  accepted_fault = go (eqb (first_fault checks) done) refl e
    where
      go : (b : Bool) → eqb (first_fault checks) done ≡ b → number (cond b accepted (refused (first_fault checks))) ≡ done
          → first_fault checks ≡ done
      go true z q = eqb-true (first_fault checks) done z
      go false z q = sym (says (first_fault checks)) ∙ q

  pub accepted_is : outcome checks refused accepted ≡ accepted
  accepted_is = outcome_done checks refused accepted accepted_fault

-- A refusal's number is told from 0 and from that of any other refusal.
abbrev pub refusal_by : ℕ → Refusal
refusal_by n =
    cond (eqb n ill_formed) IllFormed
    (cond (eqb n report_short) ReportShort
    (cond (eqb n no_room) NoRoom
    (cond (eqb n not_its_runs) NotItsRuns
    (cond (eqb n bad_edit) BadEdit
    (cond (eqb n not_listed) NotListed
    (cond (eqb n bad_size) BadSize
    (cond (eqb n no_default) NoDefault OutsidePacked)))))))

pub number_tells : (r : Refusal) → refusal_by (number_of r) ≡ r
number_tells IllFormed = refl
number_tells ReportShort = refl
number_tells NoRoom = refl
number_tells NotItsRuns = refl
number_tells BadEdit = refl
number_tells NotListed = refl
number_tells BadSize = refl
number_tells NoDefault = refl
number_tells OutsidePacked = refl

pub number_not_done : (r : Refusal) → eqb (number_of r) done ≡ false
number_not_done IllFormed = refl
number_not_done ReportShort = refl
number_not_done NoRoom = refl
number_not_done NotItsRuns = refl
number_not_done BadEdit = refl
number_not_done NotListed = refl
number_not_done BadSize = refl
number_not_done NoDefault = refl
number_not_done OutsidePacked = refl

pub one_number : (r r' : Refusal) → number_of r ≡ number_of r' → r ≡ r'
one_number r r' e = sym (number_tells r) ∙ ap refusal_by e ∙ number_tells r'

-- what a call answers, told by its number and by what goes with an accepted call
abbrev pub answer_by : {A : Type 0} → ℕ → A → Result A Refusal
answer_by n x = cond (eqb n done) (Ok x) (Err (refusal_by n))

pub tells_refusal : {A : Type 0} (e : Refusal) (x : A) → answer_by (number_of e) x ≡ Err e
tells_refusal e x = rw (number_not_done e, number_tells e)

-- where the checks at the front find a fault, those behind them have no say
pub front_fault : (cs ds : List Check) {n : ℕ} → first_fault cs ≡ n → (n ≡ done → ⊥) → first_fault (cs ++ ds) ≡ n
unfolding first_fault
front_fault [] ds e f = absurd (f (sym e))
front_fault (c ∷ cs) ds {n} e f = go c.fault refl (λ q. front_fault cs ds q f)
  where
    go : (b : Bool) → c.fault ≡ b → (first_fault cs ≡ n → first_fault (cs ++ ds) ≡ n)
        → cond c.fault c.gives (first_fault (cs ++ ds)) ≡ n
    go true t rec = rw t (rw t at e)
    go false t rec = rw t (rec (rw t at e))

-- a refusal's number is not that of a call that did what it is for
pub number_some : (r : Refusal) → number_of r ≡ done → ⊥
number_some r e = absurd (false≢true (sym (number_not_done r) ∙ eq-eqb (number_of r) done e))
