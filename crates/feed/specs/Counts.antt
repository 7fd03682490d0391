-- Rule 4.5: how many rows there are, and how many have each number.
-- Assumes nothing.
use Rattle.std.specs.Prelude.{Bool, true, false, List, [], ◌∷◌, map, ℕ, suc, ◌+◌, length, get_or, replicate, eqb}
use Rattle.ground.specs.Stretch.{stretch}
use Rattle.rows.specs.RowNumber.{NamedRow, row_names}
use Rattle.feed.specs.declared.Counts.{Counts}

abbrev pub count_if : Bool → ℕ → ℕ
count_if true n = suc n
count_if false n = n

-- how many of the row numbers are n
unfoldable pub how_many : ℕ → List ℕ → ℕ
how_many n [] = 0
how_many n (m ∷ ms) = count_if (eqb n m) (how_many n ms)

-- the counts of rows with these numbers: how many there are, and how many have number 0, 1, 2 and so on
unfoldable pub counts_of : List ℕ → Counts
counts_of ns = record { rows = length ns; of = map (λ n. how_many n ns) (stretch 0 (length row_names)) }

-- every count is 0
abbrev pub no_counts : Counts
no_counts = record { rows = 0; of = replicate (length row_names) 0 }

-- the rows that have this number
abbrev pub rows_with : ℕ → Counts → ℕ
rows_with n c = get_or c.of n 0

-- the rows that have one of the numbers of a table, number by number
unfoldable pub rows_named : List NamedRow → Counts → ℕ
rows_named [] c = 0
rows_named (r ∷ rs) c = rows_with r.number c + rows_named rs c
