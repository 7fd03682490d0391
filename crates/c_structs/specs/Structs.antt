-- Rules 7.10 and 18.6: the structs that C gets of an import, a pull, a packing, an edit and a listing of reasons.
-- Assumes nothing.
use Rattle.std.specs.Prelude.{List, [], ◌∷◌, ℕ}
use Rattle.std.proofs.Math.Option.{Option, none, some}
use Rattle.rows.specs.RowNumber.{row_taken, row_shape, row_range, row_host_bits, row_replaced, row_no_room, row_zeros}
use Rattle.rows.specs.Reading.{Reading, good, bad}
use Rattle.rows.specs.Pull.{Pulled}
use Rattle.feed.specs.declared.Counts.{Counts}
use Rattle.feed.specs.Counts.{rows_with}
use Rattle.feed.specs.Import.{ImportOutcome}
use Rattle.segment.specs.Pack.{PackOutcome}
use Rattle.edit.specs.Edit.{Edited, edit_outcome}
use Rattle.why.specs.Why.{WhyOutcome}
use Rattle.c_structs.specs.declared.WhelkCounts.{WhelkCounts}
use Rattle.c_structs.specs.declared.WhelkPacked.{WhelkPacked}
use Rattle.c_structs.specs.declared.edits.WhelkEdit.{WhelkEdit}
use Rattle.c_structs.specs.declared.reasons.WhelkReason.{WhelkReason}
use Rattle.c_structs.specs.declared.pulls.WhelkRow.{WhelkRow}

-- Rule 4.5: the eight counts that C gets, all rows and then one for each row number.
abbrev pub counts_in : WhelkCounts → Counts
counts_in w = record {
  rows = w.rows;
  of = w.taken ∷ w.shape ∷ w.range ∷ w.hostbits ∷ w.replaced ∷ w.noroom ∷ w.zeros ∷ [];
}

-- Rule 7.10: what C gets from the number and the counts of an import.
abbrev pub counts_for_c : ℕ → Counts → WhelkCounts
counts_for_c n c = record {
  number = n;
  rows = c.rows;
  taken = rows_with row_taken c;
  shape = rows_with row_shape c;
  range = rows_with row_range c;
  hostbits = rows_with row_host_bits c;
  replaced = rows_with row_replaced c;
  noroom = rows_with row_no_room c;
  zeros = rows_with row_zeros c;
}

-- Rule 7.10: what C gets from an import and the three slices at exit, as an import's outcome.
abbrev pub host_import_gave : WhelkCounts → List ℕ → List ℕ → List ℕ → ImportOutcome
host_import_gave w keys hops report =
    record { number = w.number; counts = counts_in w; keys = keys; hops = hops; report = report }

-- Rule 7.10: what C gets from a pull. Found says whether there is a row, a good row has number 0, and what isn't said is 0.
abbrev pub row_for_c : Option Reading → ℕ → WhelkRow
row_for_c none next = record { found = 0; number = 0; key = 0; hop = 0; next = next }
row_for_c (some (good k h)) next = record { found = 1; number = 0; key = k; hop = h; next = next }
row_for_c (some (bad n)) next = record { found = 1; number = n; key = 0; hop = 0; next = next }

abbrev pub pull_for_c : Pulled → WhelkRow
pull_for_c p = row_for_c p.reading p.next

-- Rule 7.10: what C gets from a packing and the three slices at exit, as a packing's outcome.
abbrev pub host_pack_gave : WhelkPacked → List ℕ → List ℕ → List ℕ → PackOutcome
host_pack_gave w words bases hops = record {
  number = w.number;
  width = w.width;
  word_count = w.words;
  hop_count = w.hops;
  words = words;
  bases = bases;
  hops = hops;
}

-- Rule 7.10: what C gets from an edit and the four slices at exit, as an edit's outcome.
abbrev pub host_edit_gave : WhelkEdit → List ℕ → List ℕ → List ℕ → List ℕ → Edited
host_edit_gave w keys hops starts rhops = edit_outcome w.number w.changed w.count w.runs keys hops starts rhops

-- what a listing returns to C and leaves: a struct, and the places
pub record WhyForC : Type 0 where
  pub answer : WhelkReason
  pub places : List ℕ

abbrev pub why_gave_c : WhelkReason → List ℕ → WhyForC
why_gave_c answer places = record { answer = answer; places = places }

-- Rule 18.6: the place of the row that decides, and 0 if no row does. Nothing is listed then, so with number 0 C can tell.
abbrev pub place_for_c : Option ℕ → ℕ
place_for_c none = 0
place_for_c (some p) = p

-- Rule 18.6: a listing gives C a struct of its number, how many places it listed, and the place of the row that decides.
abbrev pub why_for_c : WhyOutcome → WhyForC
why_for_c o =
    why_gave_c (record { number = o.number; listed = o.listed; place = place_for_c o.reason }) o.places
