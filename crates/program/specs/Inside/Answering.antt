-- What the program's text is made of for a feed that isn't too long, and what its import leaves.
-- Assumes nothing.
use Rattle.std.specs.Prelude.{◌≡◌, true, List, ◌++◌, ℕ}
use Rattle.routes.specs.Row.{Row, rows_of}
use Rattle.routes.specs.WellFormed.{well_formed}
use Rattle.rows.specs.RowNumber.{row_taken}
use Rattle.feed.specs.declared.Counts.{Counts}
use Rattle.feed.specs.Counts.{counts_of, rows_with}
use Rattle.feed.specs.Import.{row_numbers, imported_list}
use Rattle.runs.specs.Table.{run_starts, run_hops}
use Rattle.program.specs.Program.{program_room, count_lines, run_lines}

-- the lines of a list's run table
abbrev pub table_lines : List Row → List ℕ
table_lines rows = run_lines (run_starts rows) (run_hops rows)

-- the counts and the run table of a feed
abbrev pub answer_text : List ℕ → List ℕ
answer_text feed = count_lines (counts_of (row_numbers program_room feed)) ++ table_lines (imported_list program_room feed)

-- An import that was done: the counts are the feed's, and the list is the imported one, which is well-formed.
pub record Taken (feed : List ℕ) (c : Counts) (keys hops : List ℕ) : Type 0 where
  pub counts : c ≡ counts_of (row_numbers program_room feed)
  pub list : rows_of (rows_with row_taken c) keys hops ≡ imported_list program_room feed
  pub well : well_formed (rows_with row_taken c) keys hops ≡ true
