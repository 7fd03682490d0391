-- The numbers 1, 6, 2 and 3 of an import are those of the pulls, row by row: they hang on the row alone.
-- Assumes nothing.
use mathlib.Core.Path.{◌≡◌, refl, sym, ap, ◌∙◌}
use mathlib.Core.Bool.{Bool, true, false, cond}
use mathlib.Core.List.{List, [], ◌∷◌, map}
use Prim.Native.Nat.{ℕ, zero, suc, ◌<◌}
use native.Mathlib.Omega.{arith}
use lib.Dec.{leb}
use lib.ListN.{length, get_or}
use Rattle.ground.specs.Numbers.{first_fault}
use Rattle.routes.specs.Row.{Row}
use Rattle.routes.specs.Change.{listed}
use Rattle.rows.specs.Rows.{rows_in}
use Rattle.rows.specs.RowNumber.{row_taken, row_replaced, row_no_room}
use Rattle.rows.specs.Reading.{Reading, good, bad, read_row}
use Rattle.rows.specs.Pull.{pulls}
use Rattle.rows.proofs.Reading.{OwnFault, own}
use Rattle.rows.proofs.PulledRows.{pulls_are_rows}
use Rattle.feed.specs.Import.{row_number, row_numbers}
use Rattle.feed.proofs.Importing.{number_of_row}

module _ (room : ℕ) (list : List Row) where
  bad_is_itself : (n : ℕ) {x : Reading} → x ≡ bad n → row_number room list x ≡ n
  unfolding row_number
  bad_is_itself n e = ap (row_number room list) e

  own_is_bad : (n : ℕ) (x : Reading) → OwnFault n → row_number room list x ≡ n → x ≡ bad n
  unfolding row_number first_fault
  own_is_bad n (bad m) o e = ap bad e
  own_is_bad n (good k h) o e = absurd (go (listed k list) (leb room (length list)) e)
    where
      go : (b c : Bool) → cond b row_replaced (cond c row_no_room row_taken) ≡ n → ⊥
      go true c q = (own o).not_replaced (sym q)
      go false true q = (own o).not_no_room (sym q)
      go false false q = (own o).not_taken (sym q)

module _ (room : ℕ) (feed : List ℕ) (i n : ℕ) (within : i < length (rows_in feed)) where
  abbrev pulled : Reading
  pulled = get_or (pulls feed) i (bad 9)

  pulled_is_row : pulled ≡ read_row (get_or (rows_in feed) i [])
  pulled_is_row = ap (λ l. get_or l i (bad 9)) (pulls_are_rows feed) ∙ mapped (rows_in feed) i within
    where
      mapped : (rows : List (List ℕ)) (j : ℕ) → j < length rows → get_or (map read_row rows) j (bad 9) ≡ read_row (get_or rows j [])
      mapped [] j l = absurd (omega arith)
      mapped (r ∷ rs) zero l = refl
      mapped (r ∷ rs) (suc j) l = mapped rs j (omega arith)

  -- where the pull is bad the import gives the same number
  pub bad_pull_is_number : get_or (pulls feed) i (bad 9) ≡ bad n → get_or (row_numbers room feed) i 9 ≡ n
  bad_pull_is_number e = number_of_row room feed i within ∙ bad_is_itself room _ n (sym pulled_is_row ∙ e)

  -- where the import gives 1, 6, 2 or 3 the pull is bad with that number
  pub number_is_bad_pull : OwnFault n → get_or (row_numbers room feed) i 9 ≡ n → get_or (pulls feed) i (bad 9) ≡ bad n
  number_is_bad_pull o e =
      pulled_is_row ∙ own_is_bad room _ n _ o (sym (number_of_row room feed i within) ∙ e)
