-- Rule 4.3: for each prefix the list that is left has the hop of the prefix's last row that was taken or replaced another. Here is that hop,
-- given the feed's rows and their numbers alone, and the hop that a list has for a prefix.
-- Assumes nothing.
use Rattle.std.specs.Prelude.{cond, List, [], ◌∷◌, ℕ, eqb}
use Rattle.std.proofs.Math.Option.{Option, none, some, or_else}
use Rattle.routes.specs.Row.{Row}
use Rattle.rows.specs.Reading.{Reading, good, bad, read_row}
use Rattle.feed.specs.Import.{enters}

-- the row's hop, if it is a good row with prefix k
unfoldable pub hop_for : ℕ → Reading → Option ℕ
hop_for k (bad n) = none
hop_for k (good j h) = cond (eqb k j) (some h) none

-- The hop of the last row with prefix k and number 0 or 4, of rows that have these numbers: that of the later rows if one of them has it, or
-- else this row's if its number is 0 or 4.
unfoldable pub last_hop : ℕ → List ℕ → List (List ℕ) → Option ℕ
last_hop k [] rows = none
last_hop k (n ∷ ns) [] = none
last_hop k (n ∷ ns) (r ∷ rs) = or_else (last_hop k ns rs) (cond (enters n) (hop_for k (read_row r)) none)

-- the hop of the row with prefix k in a list, none if the prefix isn't listed
unfoldable pub hop_listed : ℕ → List Row → Option ℕ
hop_listed k [] = none
hop_listed k (r ∷ rs) = cond (eqb k r.key) (some r.hop) (hop_listed k rs)
