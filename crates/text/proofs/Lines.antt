-- The rows of a list's text are its lines: no line has an LF in it, since it is digits and marks, so each LF of the text ends one line.
-- Assumes nothing.
use mathlib.Core.Path.{◌≡◌, refl, ap, ◌∙◌}
use mathlib.Core.Bool.{false}
use mathlib.Core.List.{List, [], ◌∷◌, ◌++◌, map, append-nil, append_assoc}
use Prim.Native.Nat.{ℕ}
use native.Mathlib.Omega.{arith}
use lib.Dec.{eqb}
use borrow.Author.Tests.{leb-true, ne_eqb}
use Rattle.ground.proofs.Truth.{and_left}
use Rattle.routes.specs.Row.{Row}
use Rattle.rows.specs.Rows.{LF, dot, slash, space, rows_in}
use Rattle.digits.specs.Digits.{decimal}
use Rattle.text.specs.Text.{text_of}
use Rattle.text.proofs.DecimalReads.{AllDigits, decimal_digits}
use Rattle.text.proofs.Line.{line, row_text_lem}

-- the bytes with an LF behind them are one row, whatever comes then
abbrev OneRow : List ℕ → Type 0
OneRow xs = (rest : List ℕ) → rows_in (xs ++ LF ∷ rest) ≡ xs ∷ rows_in rest

empty_one_row : OneRow []
unfolding rows_in
empty_one_row rest = refl

byte_one_row : {xs : List ℕ} (b : ℕ) → eqb b LF ≡ false → OneRow xs → OneRow (b ∷ xs)
unfolding rows_in
byte_one_row b e one rest = rw (e, one rest)

digits_one_row : {xs : List ℕ} (ds : List ℕ) → AllDigits ds → OneRow xs → OneRow (ds ++ xs)
digits_one_row [] a one = one
digits_one_row (d ∷ ds) a one =
    let other = ne_eqb d LF (λ q. omega (arith, leb-true 48 d (and_left _ _ a.0))) in
    byte_one_row d other (digits_one_row ds a.1 one)

number_one_row : {xs : List ℕ} (n mark : ℕ) → eqb mark LF ≡ false → OneRow xs → OneRow (decimal n ++ mark ∷ xs)
number_one_row n mark e one = digits_one_row (decimal n) (decimal_digits n) (byte_one_row mark e one)

line_one_row : (r : Row) → OneRow (line r)
unfolding line
line_one_row r =
    number_one_row _ dot refl
    (number_one_row _ dot refl
    (number_one_row _ dot refl
    (number_one_row _ slash refl
    (number_one_row _ space refl
    (rw append-nil at (digits_one_row (decimal r.hop) (decimal_digits r.hop) empty_one_row))))))

pub rows_of_text : (rows : List Row) → rows_in (text_of rows) ≡ map line rows
unfolding text_of rows_in
rows_of_text [] = refl
rows_of_text (r ∷ rs) = rw (row_text_lem r, append_assoc) (line_one_row r (text_of rs) ∙ ap (line r ∷◌) (rows_of_text rs))
