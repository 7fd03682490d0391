-- What demand 1 says of the two calls that can refuse: their checks stand in the one order of all calls (rule 5.2), the number is that of the
-- first fault, and a refusal returns nothing else and leaves all lent slices as they were (rule 5.4).
-- Assumes nothing.
use mathlib.Core.Path.{◌≡◌, refl, ap, ◌∙◌}
use mathlib.Core.Bool.{Bool, true, false, cond}
use mathlib.Core.List.{List}
use Prim.Native.Nat.{ℕ}
use lib.Dec.{eqb}
use Rattle.ground.specs.Numbers.{first_fault, check_order, outcome, past, in_order, done}
use Rattle.routes.specs.Row.{ListLent}
use Rattle.entries.specs.Entries.{EntriesLent}
use Rattle.clue.specs.Build.{EntriesOutcome, made, entries_checks, build_entries}
use Rattle.entries.specs.Clue.{clue_of}
use Rattle.clue.specs.Lookup.{HintOutcome, hinted, is_final, hint_checks, hint_lookup}

module _ (l : ListLent) (lengths addrs : List ℕ) (e : EntriesLent) where
  pub entries_in_order : in_order check_order (entries_checks l lengths addrs e) ≡ true
  unfolding past in_order entries_checks
  entries_in_order = refl

  pub entries_leave_all : (o : EntriesOutcome) → o ≡ build_entries l lengths addrs e → (o.number ≡ done → ⊥)
      → o ≡ made (first_fault (entries_checks l lengths addrs e)) 0 e
  unfolding build_entries outcome
  entries_leave_all o gave fault = go (eqb (first_fault (entries_checks l lengths addrs e)) done) _ gave refl
    where
      go : (b : Bool) (x : EntriesOutcome) {y : EntriesOutcome} → o ≡ cond b x y → x.number ≡ done → o ≡ y
      go true x is d = absurd (fault (ap (λ (r : EntriesOutcome). r.number) is ∙ d))
      go false x is d = is

module _ (l : ListLent) (e : EntriesLent) (len a : ℕ) where
  pub hint_in_order : in_order check_order (hint_checks l e len) ≡ true
  unfolding past in_order hint_checks
  hint_in_order = refl

  pub hint_names_first : (o : HintOutcome) → o ≡ hint_lookup l e len a → (o.number ≡ done → ⊥)
      → o ≡ hinted (first_fault (hint_checks l e len)) 0 false
  unfolding hint_lookup outcome
  hint_names_first o gave fault =
      go (eqb (first_fault (hint_checks l e len)) done) _ gave (either (is_final e (clue_of len a)) _ _ refl refl)
    where
      either : (b : Bool) (x y : HintOutcome) → x.number ≡ done → y.number ≡ done → (cond b x y).number ≡ done
      either true x y d d' = d
      either false x y d d' = d'

      go : (b : Bool) (x : HintOutcome) {y : HintOutcome} → o ≡ cond b x y → x.number ≡ done → o ≡ y
      go true x is d = absurd (fault (ap (λ (r : HintOutcome). r.number) is ∙ d))
      go false x is d = is
