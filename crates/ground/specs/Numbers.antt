-- Rule 5.1: each number that a call returns has its name here. Rule 5.2: the first check that finds a fault gives the number.
-- Assumes nothing.
use Rattle.std.specs.Prelude.{Bool, true, false, cond, List, [], ◌∷◌, ℕ, eqb, ◌≡◌}
use Rattle.ground.specs.declared.Refusal.{Refusal}
use Rattle.ground.specs.declared.Refusal.TheVariants.{IllFormed, ReportShort, NoRoom, NotItsRuns, BadEdit, NotListed, BadSize, NoDefault, OutsidePacked}

-- 0: the call did what it is for
abbrev pub done : ℕ
done = 0

-- 11: what was handed in is ill-formed
abbrev pub ill_formed : ℕ
ill_formed = 11

-- 12: there are more rows in the feed than bytes in the report
abbrev pub report_short : ℕ
report_short = 12

-- 13: what would be written doesn't fit what was lent
abbrev pub no_room : ℕ
no_room = 13

-- 14: the list has another run table than the one handed in
abbrev pub not_its_runs : ℕ
not_its_runs = 14

-- 15: an edit names no prefix, or announces hop 0
abbrev pub bad_edit : ℕ
bad_edit = 15

-- 16: a withdrawal names a prefix that has no row in the list
abbrev pub not_listed : ℕ
not_listed = 16

-- 17: a split has size 0, or a size greater than the count
abbrev pub bad_size : ℕ
bad_size = 17

-- 18: a split is handed a list without 0.0.0.0/0
abbrev pub no_default : ℕ
no_default = 18

-- 19: a packed lookup has a width above 16, or would read outside a slice
abbrev pub outside_packed : ℕ
outside_packed = 19

-- the number of a refusal, and that a number is it
abbrev pub number_of : Refusal → ℕ
number_of IllFormed = ill_formed
number_of ReportShort = report_short
number_of NoRoom = no_room
number_of NotItsRuns = not_its_runs
number_of BadEdit = bad_edit
number_of NotListed = not_listed
number_of BadSize = bad_size
number_of NoDefault = no_default
number_of OutsidePacked = outside_packed

abbrev pub GivesNumber : Refusal → ℕ → Type 0
GivesNumber r n = n ≡ number_of r

-- one check of a call: whether its fault is there, and the number that it then gives
pub record Check : Type 0 where
  pub fault : Bool
  pub gives : ℕ

abbrev pub check : Bool → ℕ → Check
check b n = record { fault = b; gives = n }

-- Rules 5.2 and 5.3: the number of the first fault that is there, and 0 if there is none.
unfoldable pub first_fault : List Check → ℕ
first_fault [] = done
first_fault (c ∷ cs) = cond c.fault c.gives (first_fault cs)

-- Rule 5.2: a call makes its checks in this order, as far as it has them.
abbrev pub check_order : List ℕ
check_order =
    bad_edit ∷ ill_formed ∷ not_its_runs ∷ not_listed ∷ bad_size ∷ no_default ∷ outside_packed ∷ report_short ∷ no_room ∷ []

-- Rule 5.3: what a call returns and leaves. If a check finds a fault it is refused with that number, and else it is accepted.
unfoldable pub outcome {ℓ} : {A : Type ℓ} → List Check → (ℕ → A) → A → A
outcome checks refused accepted = cond (eqb (first_fault checks) done) accepted (refused (first_fault checks))

-- the checks after those at the front that give this number
unfoldable pub past : ℕ → List Check → List Check
past n [] = []
past n (c ∷ cs) = cond (eqb c.gives n) (past n cs) (c ∷ cs)

-- the checks give numbers of this list in its order; several checks may give one number
unfoldable pub in_order : List ℕ → List Check → Bool
in_order [] [] = true
in_order [] (c ∷ cs) = false
in_order (n ∷ ns) cs = in_order ns (past n cs)
