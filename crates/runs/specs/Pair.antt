-- Rule 8.1: a pair gets 11 if its list isn't well-formed, or if its count of runs is greater than the run table's room.
-- Rule 8.2: else it gets 14 unless the table is exactly the list's run table.
-- Assumes nothing.
use Rattle.std.specs.Prelude.{Bool, not, ◌&&◌, ◌||◌, List, [], ◌∷◌, ℕ, take, ltb, Result, Ok, Err}
use Rattle.ground.specs.declared.Refusal.{Refusal}
use Rattle.ground.specs.Numbers.{Check, check, first_fault, number_of, done, ill_formed, not_its_runs}
use Rattle.ground.specs.Slots.{same}
use Rattle.routes.specs.Row.{Row, ListLent, rows_lent}
use Rattle.routes.specs.WellFormed.{well_formed}
use Rattle.runs.specs.Table.{RunsLent, run_starts, run_hops}
use Rattle.runs.specs.Build.{run_room}

-- a list and a run table, as they are lent
pub record Pair : Type 0 where
  pub list : ListLent
  pub table : RunsLent

abbrev pub pair : ListLent → RunsLent → Pair
pair l t = record { list = l; table = t }

abbrev pub list_of : Pair → List Row
list_of p = rows_lent p.list

-- Rule 8.1: the pair is ill-formed.
unfoldable pub pair_ill : Pair → Bool
pair_ill p =
    not (well_formed p.list.count p.list.keys p.list.hops)
    || ltb (run_room p.table.starts p.table.hops) p.table.count

-- Rule 8.2: the table has as many runs as the list's run table, the same starts and the same hops. Rule 8.3: later slots have no say.
unfoldable pub its_runs : Pair → Bool
its_runs p =
    same (take p.table.count p.table.starts) (run_starts (list_of p))
    && same (take p.table.count p.table.hops) (run_hops (list_of p))

-- Rule 8.4: packing begins with the checks of a pair, and edits make them after 15.
unfoldable pub pair_checks : Pair → List Check
pair_checks p = check (pair_ill p) ill_formed ∷ check (not (its_runs p)) not_its_runs ∷ []

-- Rule 8.4: the number that the pair check returns, and the same read from the code's answer.
unfoldable pub pair_check : Pair → ℕ
pair_check p = first_fault (pair_checks p)

abbrev pub pair_gave : Result (Unit {0}) Refusal → ℕ
pair_gave (Ok u) = done
pair_gave (Err e) = number_of e
