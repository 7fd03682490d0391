-- `runs::build_rows` meets its contract: where the runs are more than the room nothing was written, else `write_runs` had room for them.
-- Assumes nothing.
use mathlib.Core.Path.{sym, ◌∙◌}
use Rattle.runs.proofs.WholeList.{rows_runs}
use Rattle.runs.proofs.build_rows.Goals as goal

pub returns : goal.returns
returns c = rows_runs c.args.rows.sorted _ _ (rw c.run_room.ensures at (sym c.room_enough.ensures ∙ c.if-not-room_enough.false)) c.write_runs.ensures
