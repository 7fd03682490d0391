-- The counts with one row more.
-- Assumes nothing.
use Rattle.std.specs.Prelude.{◌≡◌, ℕ, ◌+◌, ◌^◌, ◌≤◌, ◌<◌, length, set}
use Rattle.rows.specs.RowNumber.{row_names}
use Rattle.feed.specs.declared.Counts.{Counts}
use Rattle.feed.specs.Counts.{rows_with}

-- counts to which a row of this number can be added
pub record CountsFit (c : Counts) (number : ℕ) : Type 0 where
  pub few : c.rows < 2 ^ 63
  pub one_each : length c.of ≡ length row_names
  pub in_rows : (n : ℕ) → rows_with n c ≤ c.rows
  pub listed : number < length row_names

-- the counts with one row more, of this number
unfoldable pub counted_in : Counts → ℕ → Counts
counted_in c n = record { rows = c.rows + 1; of = set c.of n (rows_with n c + 1) }
