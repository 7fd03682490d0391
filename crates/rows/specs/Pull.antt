-- Rules 4.11 to 4.14: a pull reads the row from its place on and gives what the row says, with the place behind its LF or the feed's end.
-- At or past the end it gives no row and the same place.
-- Assumes nothing.
use Rattle.std.specs.Prelude.{◌≡◌, List, [], ◌∷◌, ℕ, zero, suc, ◌+◌, min, length, drop, Result, Some, None}
use Rattle.std.specs.Prelude as code
use Rattle.std.proofs.Math.Option.{Option, none, some}
use Rattle.rows.specs.declared.Row.{Row}
use Rattle.rows.specs.declared.RowFault.{RowFault}
use Rattle.rows.specs.declared.RowPulled.{RowPulled}
use Rattle.rows.specs.declared.Reader.{Reader}
use Rattle.rows.specs.Rows.{rows_in}
use Rattle.rows.specs.Reading.{Reading, read_row, reading_of}

-- what a pull gives: a row's reading, if there is a row, and the next place
pub record Pulled : Type 0 where
  pub reading : Option Reading
  pub next : ℕ

-- of the rows from a place on the first, if there is one; `end` is the feed's length
unfoldable pub pull_of : List (List ℕ) → ℕ → ℕ → Pulled
pull_of [] at end = record { reading = none; next = at }
pull_of (r ∷ rs) at end = record { reading = some (read_row r); next = min (at + length r + 1) end }

unfoldable pub pull : List ℕ → ℕ → Pulled
pull feed at = pull_of (rows_in (drop at feed)) at (length feed)

-- What pulls give one after the other from a place on, each at the place that the one before it gave, until there is no row or as many
-- pulls as are allowed were made.
abbrev pub before : Option Reading → List Reading → List Reading
before none rest = []
before (some r) rest = r ∷ rest

unfoldable pub pulls_from : ℕ → List ℕ → ℕ → List Reading
pulls_from zero feed at = []
pulls_from (suc n) feed at = before (pull feed at).reading (pulls_from n feed (pull feed at).next)

-- the pulls of a whole feed; it has no more rows than bytes
unfoldable pub pulls : List ℕ → List Reading
pulls feed = pulls_from (length feed) feed 0

-- what the code's answer says
abbrev pub next_reading : code.Option (Result Row RowFault) → Option Reading
next_reading (Some r) = some (reading_of r)
next_reading None = none

abbrev pub pull_gave : RowPulled → Pulled
pull_gave r = record { reading = next_reading r.row; next = r.next }

-- Rule 4.10: what a pull of a reader gives and leaves. The reader has the same feed, and the next place.
pub record PulledBy (was : Reader) (row : code.Option (Result Row RowFault)) (is : Reader) : Type 0 where
  pub gave : pull_gave (record { row = row; next = is.place }) ≡ pull was.feed.now was.place
  pub same_feed : is.feed ≡ was.feed
