-- `program::answer` meets its contract: the counts of the import, and the run table of the imported list behind them. The whole has
-- room, since the buffer has 45,180 bytes.
-- Assumes nothing.
use mathlib.Core.Path.{◌≡◌}
use mathlib.Core.List.{List}
use Prim.Native.Nat.{ℕ, ◌≤◌}
use native.Mathlib.Omega.{arith}
use lib.ListN.{length}
use Rattle.feed.specs.Import.{imported_list}
use Rattle.program.specs.Program.{program_room, longest_feed}
use Rattle.digits.specs.Putting.{Fits}
use Rattle.program.specs.Inside.Answering.{table_lines, answer_text}
use Rattle.program.proofs.ProgramFits.{answer_at_most}
use Rattle.digits.proofs.Putting.{first_fits, rest_fits, put_then}
use Rattle.program.proofs.answer.Goals as goal

whole_fits : (feed out : List ℕ) → length feed ≤ longest_feed → length out ≡ 45180 → Fits 0 (answer_text feed) out
whole_fits feed out short long = record { room = omega (arith, answer_at_most feed short, long) }

pub counts-at-requires : goal.counts-at-requires
counts-at-requires c =
    rw c.taken-c.ensures.counts
    (first_fits (table_lines (imported_list program_room c.args.feed.now)) (whole_fits _ _ c.requires (omega arith)))

pub table-requires-clause-fits : goal.table-requires-clause-fits
table-requires-clause-fits c =
    rw c.taken-c.ensures.list
    (rest_fits (table_lines (imported_list program_room c.args.feed.now)) (whole_fits _ _ c.requires (omega arith))
    (rw c.taken-c.ensures.counts at c.counts-at.ensures))

pub returns : goal.returns
returns c =
    put_then (table_lines (imported_list program_room c.args.feed.now)) (whole_fits _ _ c.requires (omega arith))
    (rw c.taken-c.ensures.counts at c.counts-at.ensures) (rw c.taken-c.ensures.list at c.table.ensures)
