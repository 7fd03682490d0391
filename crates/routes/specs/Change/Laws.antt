-- What `changed` says, as a count of a stretch.
-- Assumes nothing.
use Rattle.std.specs.Prelude.{◌≡◌, refl, true, not, List, ℕ, ◌≤◌, ◌<◌, eqb}
use Rattle.std.proofs.Common.{ap, le_trans, le_of_eq, arith, eq-eqb}
use Rattle.cidr.specs.Prefix.{addresses}
use Rattle.ground.specs.Stretch.{counted}
use Rattle.ground.specs.Stretch.Count.{counted_le, counted_all, counted_none}
use Rattle.routes.specs.Row.{Row}
use Rattle.routes.specs.Plain.{plain}
use Rattle.routes.specs.Change.{changed, changed_between}

pub changed_is : (f g : ℕ → ℕ) → changed f g ≡ counted (λ a. not (eqb (f a) (g a))) 0 addresses
unfolding changed
changed_is f g = refl

pub changed_between_is : (before after : List Row) → changed_between before after ≡ changed (plain before) (plain after)
unfolding changed_between
changed_between_is before after = refl

-- Rule 10.9: the changed number is at most 2^32. It is 0 if no answer differs.
pub changed_at_most : (f g : ℕ → ℕ) → changed f g ≤ addresses
changed_at_most f g =
    rw changed_is
    (le_trans (counted_le _ (λ a. true) 0 addresses (λ a from to e. refl))
    (le_of_eq (counted_all (λ a. true) 0 addresses (λ a from to. refl))))

pub changed_same : (f g : ℕ → ℕ) → ((a : ℕ) → a < addresses → f a ≡ g a) → changed f g ≡ 0
changed_same f g same =
    rw changed_is (counted_none _ 0 addresses (λ a from to. ap not (eq-eqb (f a) (g a) (same a (omega arith)))))
