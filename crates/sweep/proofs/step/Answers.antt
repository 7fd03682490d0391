-- `sweep::step` meets its contract: closing what ends at `to` or before leaves the stack true there over the rows before it, and opening
-- the rows at `to` makes it true over all rows.
-- Assumes nothing.
use Rattle.sweep.proofs.Stack.{falling, closing}
use Rattle.sweep.proofs.step.Goals as goal

pub close_ended-depth-requires : goal.close_ended-depth-requires
close_ended-depth-requires c = falling c.args.rows.sorted c.requires.0

pub open_here-requires : goal.open_here-requires
open_here-requires c =
    let pre = c.requires in
    closing c.args.rows.sorted pre.0 _ _ pre.1 c.close_ended-depth.ensures
