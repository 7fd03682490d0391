-- `rows::pull_at` meets its contract: past the end there is no row, before it the row's end is found and its bytes are read (`Pulling`).
-- Assumes nothing.
use Rattle.std.proofs.Common.{sym, arith}
use Rattle.rows.proofs.Splitting.{row_ends_within}
use Rattle.rows.proofs.Pulling.{pull_at_end, row_pulled}
use Rattle.rows.proofs.pull_at.Goals as goal

pub returns-then-feed-place : goal.returns-then-feed-place
returns-then-feed-place c = sym (pull_at_end _ _ c.if-feed-place.true)

pub slice_bounds-read_row-end : goal.slice_bounds-read_row-end
slice_bounds-read_row-end c =
    omega (arith, c.row_end-end.ensures, row_ends_within c.args.feed.now c.args.place (omega arith))

pub returns : goal.returns
returns c =
    row_pulled _ _ c.row_end-end.result c.if-feed-place.false c.row_end-end.ensures c.read_row-read.ensures (omega arith)
    (omega (arith, row_ends_within c.args.feed.now c.args.place (omega arith)))
