-- `sweep::begin` meets its contract: before any row the stack is empty, and the rows at the start are opened.
-- Assumes nothing.
use Rattle.sweep.proofs.Stack.{standing_start}
use Rattle.sweep.proofs.begin.Goals as goal

pub open_here-requires : goal.open_here-requires
open_here-requires c = let pre = c.requires in standing_start pre.0 pre.1 pre.2
