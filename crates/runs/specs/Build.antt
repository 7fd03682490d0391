-- Rule 6.6: a build writes a list's run table from the front of two lent slices and returns the count of runs. It returns 11 for a list
-- that isn't well-formed, and 13 if the run table has more runs than the room. Rule 11.10: a build over a half does the same, but label 0
-- is no fault.
-- Assumes nothing.
use Rattle.std.specs.Prelude.{Bool, true, false, not, List, [], ◌∷◌, ℕ, min, length, ltb, Result, Ok, Err}
use Rattle.ground.specs.declared.Refusal.{Refusal}
use Rattle.ground.specs.Numbers.{Check, check, outcome, number_of, done, ill_formed, no_room}
use Rattle.ground.specs.Slots.{written}
use Rattle.routes.specs.Row.{ListLent, rows_lent}
use Rattle.routes.specs.WellFormed.{formed}
use Rattle.runs.specs.Table.{run_starts, run_hops}

-- Rule 6.5: the most runs that any run table may have.
abbrev pub top_runs : ℕ
top_runs = 2097153

-- Rule 6.5: a run table's room is the length of its shorter slice, but not more than `top_runs`.
unfoldable pub run_room : List ℕ → List ℕ → ℕ
run_room starts rhops = min (min (length starts) (length rhops)) top_runs

-- the two slices that a build is lent for the starts and the runs' hops
pub record SlotsLent : Type 0 where
  pub starts : List ℕ
  pub hops : List ℕ

abbrev pub slots_lent : List ℕ → List ℕ → SlotsLent
slots_lent starts hops = record { starts = starts; hops = hops }

-- what a build returns and leaves: its number, the count of runs, and the two slices
pub record BuildOutcome : Type 0 where
  pub number : ℕ
  pub runs : ℕ
  pub starts : List ℕ
  pub hops : List ℕ

abbrev pub built : ℕ → ℕ → List ℕ → List ℕ → BuildOutcome
built n runs starts hops = record { number = n; runs = runs; starts = starts; hops = hops }

-- the same, read from the code's answer and the slices at exit
abbrev pub build_gave : Result ℕ Refusal → List ℕ → List ℕ → BuildOutcome
build_gave (Ok n) starts hops = built done n starts hops
build_gave (Err e) starts hops = built (number_of e) 0 starts hops

-- the checks of a build; the flag says whether its list is a half
unfoldable pub build_checks : Bool → ListLent → SlotsLent → List Check
build_checks half l s =
    check (not (formed half l.count l.keys l.hops)) ill_formed
    ∷ check (ltb (run_room s.starts s.hops) (length (run_starts (rows_lent l)))) no_room
    ∷ []

-- both builds, by the flag. Rule 5.4: a refusal leaves the slices.
unfoldable pub build_of : Bool → ListLent → SlotsLent → BuildOutcome
build_of half l s = outcome (build_checks half l s) (λ n. built n 0 s.starts s.hops)
    (built done (length (run_starts (rows_lent l))) (written (run_starts (rows_lent l)) s.starts) (written (run_hops (rows_lent l)) s.hops))

-- Rule 6.6: a build.
abbrev pub build : ListLent → SlotsLent → BuildOutcome
build l s = build_of false l s

-- Rule 11.10: a build over a half.
abbrev pub build_half : ListLent → SlotsLent → BuildOutcome
build_half l s = build_of true l s
