-- Rule 6.6: a build of rows that are known to be well-formed. It writes their run table from the front, or returns 13.
-- Assumes nothing.
use Rattle.std.specs.Prelude.{cond, List, length, ltb}
use Rattle.ground.specs.Numbers.{done, no_room}
use Rattle.ground.specs.Slots.{written}
use Rattle.routes.specs.Row.{Row}
use Rattle.runs.specs.Table.{run_starts, run_hops}
use Rattle.runs.specs.Build.{SlotsLent, BuildOutcome, built, run_room}

unfoldable pub build_rows : List Row → SlotsLent → BuildOutcome
build_rows rows s =
    cond (ltb (run_room s.starts s.hops) (length (run_starts rows))) (built no_room 0 s.starts s.hops)
    (built done (length (run_starts rows)) (written (run_starts rows) s.starts) (written (run_hops rows) s.hops))
