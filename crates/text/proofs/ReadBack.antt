-- A list's text is imported as the list, where there is room for its rows: each line reads as its row, whose key is behind those before it,
-- so that it is taken and goes to the end. So a text is of one list only.
-- Assumes nothing.
use mathlib.Core.Path.{◌≡◌, refl, sym, ap, ◌∙◌}
use mathlib.Core.Bool.{true}
use mathlib.Core.List.Memᴰ
use mathlib.Core.List.{List, [], ◌∷◌, ◌++◌, map, append-nil}
use Prim.Native.Nat.{ℕ, ◌+◌, ◌≤◌, ◌<◌}
use native.Mathlib.Omega.{arith}
use lib.ListN.{length, replicate, length-append}
use lib.Seq.{append_snoc}
use borrow.Author.Tests.{lt-leb}
use Rattle.ground.specs.Numbers.{first_fault}
use Rattle.routes.specs.Row.{Row}
use Rattle.routes.specs.WellFormed.{ascending, good_rows}
use Rattle.routes.proofs.Row.{Has}
use Rattle.routes.proofs.WellFormed.{good_parts}
use Rattle.routes.proofs.Change.{unlisted_last, announced_last}
use Rattle.rows.specs.RowNumber.{row_taken}
use Rattle.rows.specs.Reading.{good, read_row}
use Rattle.feed.specs.Import.{row_number, list_after, row_numbers_from, list_from, row_numbers, imported_list}
use Rattle.text.specs.Text.{text_of}
use Rattle.text.proofs.Line.{line, line_read}
use Rattle.text.proofs.Lines.{rows_of_text}

-- a row of the text, with those before it in the list and those behind it to come
module _ (room : ℕ) (list : List Row) (r : Row) (more : List Row) (a : ascending (list ++ r ∷ more) ≡ true) (l : length list < room) where
  row_taken_lem : row_number room list (good r.key r.hop) ≡ row_taken
  unfolding row_number first_fault
  row_taken_lem = rw (unlisted_last r.key r.hop more list a, lt-leb room (length list) l)

  row_last : list_after room list (good r.key r.hop) ≡ list ++ r ∷ []
  unfolding list_after
  row_last = rw row_taken_lem (announced_last r.key r.hop more list a)

-- the lines of the rows read back
abbrev LinesRead : List Row → Type 0
LinesRead rows = (r : Row) → Has r rows → read_row (line r) ≡ good r.key r.hop

-- all rows, with those before them in the list
module _ (room : ℕ) where
  imports_lines : (list rows : List Row) → LinesRead rows → ascending (list ++ rows) ≡ true → length list + length rows ≤ room
      → (row_numbers_from room list (map line rows) ≡ replicate (length rows) row_taken) × (list_from room list (map line rows) ≡ list ++ rows)
  unfolding row_numbers_from list_from
  imports_lines list [] reads a l = (refl, sym (append-nil list))
  imports_lines list (r ∷ rs) reads a l =
      let fits : length (list ++ r ∷ []) + length rs ≤ room = rw length-append (omega arith) in
      let next = imports_lines (list ++ r ∷ []) rs (λ s m. reads s (Memᴰ.tail m)) (rw append_snoc a) fits in
      let read = reads r (Memᴰ.head refl) in
      let number = ap (row_number room list) read ∙ row_taken_lem room list r rs a (omega arith) in
      let after = ap (list_after room list) read ∙ row_last room list r rs a (omega arith) in (
        rw (number, after) (ap (row_taken ∷◌) next.0),
        ap (λ x. list_from room x (map line rs)) after ∙ next.1 ∙ append_snoc list r rs,
      )

-- hops of 16 bits
abbrev pub HopsFit : List Row → Type 0
HopsFit rows = (r : Row) → Has r rows → r.hop < 65536

module _ (rows : List Row) (e : good_rows rows ≡ true) (fit : HopsFit rows) (room : ℕ) (enough : length rows ≤ room) where
  read_back : (row_numbers_from room [] (map line rows) ≡ replicate (length rows) row_taken) × (list_from room [] (map line rows) ≡ rows)
  read_back =
      let g = good_parts rows e in
      imports_lines room [] rows (λ r m. line_read r (g.prefixed r m) (g.given r m) (fit r m)) g.ascends (omega arith)

  pub text_all_taken : row_numbers room (text_of rows) ≡ replicate (length rows) row_taken
  unfolding row_numbers
  text_all_taken = rw rows_of_text read_back.0

  pub text_imported : imported_list room (text_of rows) ≡ rows
  unfolding imported_list
  text_imported = rw rows_of_text read_back.1

-- a text is of one list only
pub text_of_one_list : (xs ys : List Row) → good_rows xs ≡ true → good_rows ys ≡ true → HopsFit xs → HopsFit ys → text_of xs ≡ text_of ys
    → xs ≡ ys
text_of_one_list xs ys ex ey fx fy e =
    let room = length xs + length ys in
    sym (text_imported xs ex fx room (omega arith)) ∙ ap (imported_list room) e ∙ text_imported ys ey fy room (omega arith)
