-- Rules 13.1 to 13.4: what the program writes for a feed. One of more than 16,384 bytes gets the line `feed too long`. Any other gets its
-- counts, a line each, and the run table of the imported list, a line a run.
-- Assumes nothing.
use Rattle.std.specs.Prelude.{cond, List, [], ◌∷◌, ◌++◌, ℕ, length, ltb}
use Prim.Native.Char.{code}
use Prim.Native.String.{String, [] as no_text, ◌∷◌ as ◌then◌}
use Rattle.ground.specs.Slots.{written}
use Rattle.rows.specs.Rows.{LF, space}
use Rattle.rows.specs.RowNumber.{NamedRow, row_names}
use Rattle.feed.specs.declared.Counts.{Counts}
use Rattle.feed.specs.Counts.{counts_of, rows_with}
use Rattle.feed.specs.Import.{row_numbers, imported_list}
use Rattle.runs.specs.Table.{run_starts, run_hops}
use Rattle.digits.specs.Digits.{decimal, dotted_text}

-- the bytes of a text
abbrev pub bytes : String → List ℕ
bytes no_text = []
bytes (◌then◌ c s) = code c ∷ bytes s

-- Rule 13.1: the most bytes that a feed may have.
abbrev pub longest_feed : ℕ
longest_feed = 16384

-- Rule 13.2: the room of the list.
abbrev pub program_room : ℕ
program_room = 1024

-- Rule 13.3: a line is a name, a space and a number.
unfoldable pub line_of : List ℕ → ℕ → List ℕ
line_of name n = name ++ space ∷ decimal n ++ LF ∷ []

-- the lines of a table of row numbers: each name with the rows that have its number
unfoldable pub name_lines : List NamedRow → Counts → List ℕ
name_lines [] c = []
name_lines (r ∷ rs) c = line_of (bytes r.name) (rows_with r.number c) ++ name_lines rs c

-- Rule 13.3: the lines of the counts, all rows and then each name of the table.
unfoldable pub count_lines : Counts → List ℕ
count_lines c = line_of (bytes "rows") c.rows ++ name_lines row_names c

-- Rule 13.4: the lines of a run table, each run's start and hop.
unfoldable pub run_lines : List ℕ → List ℕ → List ℕ
run_lines [] hops = []
run_lines (s ∷ starts) [] = []
run_lines (s ∷ starts) (h ∷ hops) = line_of (dotted_text s) h ++ run_lines starts hops

-- Rules 13.1 to 13.4: all that the program writes of a feed that it could read.
unfoldable pub program_text : List ℕ → List ℕ
program_text feed =
    cond (ltb longest_feed (length feed))
    (bytes "feed too long\n")
    (count_lines (counts_of (row_numbers program_room feed))
    ++ run_lines (run_starts (imported_list program_room feed)) (run_hops (imported_list program_room feed)))

-- what `program_text` returns and leaves, the length of the text and the buffer
pub record ProgramOutcome : Type 0 where
  pub length : ℕ
  pub buffer : List ℕ

-- read from the code's answer and the buffer at exit
abbrev pub program_gave : ℕ → List ℕ → ProgramOutcome
program_gave n buffer = record { length = n; buffer = buffer }

-- Rules 13.1 to 13.4: the text at the front of a buffer, which has room for the text of any feed.
unfoldable pub program : List ℕ → List ℕ → ProgramOutcome
program feed buffer = record { length = length (program_text feed); buffer = written (program_text feed) buffer }
