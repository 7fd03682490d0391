-- Rule 2.8: a list is a count and two lent slices, of keys and of hops. Row i is the key and the hop at place i.
-- Assumes nothing.
use Rattle.std.specs.Prelude.{Bool, true, false, ◌&&◌, List, [], ◌∷◌, map, ℕ, zero, suc, min, length}

-- one row of a list: a prefix, as its key, and a hop
pub record Row : Type 0 where
  pub key : ℕ
  pub hop : ℕ

abbrev pub row : ℕ → ℕ → Row
row k h = record { key = k; hop = h }

-- Rule 2.8: the rows of a list are its first `count` keys, each with the hop at its place. Slots from the count on are no part of it.
unfoldable pub rows_of : ℕ → List ℕ → List ℕ → List Row
rows_of zero keys hops = []
rows_of (suc count) [] hops = []
rows_of (suc count) (k ∷ keys) [] = []
rows_of (suc count) (k ∷ keys) (h ∷ hops) = row k h ∷ rows_of count keys hops

-- a list as it is lent: a count with its two slices
pub record ListLent : Type 0 where
  pub count : ℕ
  pub keys : List ℕ
  pub hops : List ℕ

abbrev pub list_lent : ℕ → List ℕ → List ℕ → ListLent
list_lent count keys hops = record { count = count; keys = keys; hops = hops }

-- its rows
abbrev pub rows_lent : ListLent → List Row
rows_lent l = rows_of l.count l.keys l.hops

-- the two columns of a list of rows
abbrev pub keys_of : List Row → List ℕ
keys_of rows = map (λ r. r.key) rows

abbrev pub hops_of : List Row → List ℕ
hops_of rows = map (λ r. r.hop) rows

-- every row passes the test
unfoldable pub every : (Row → Bool) → List Row → Bool
every p [] = true
every p (r ∷ rs) = p r && every p rs

-- those rows that pass the test, in their order
abbrev pub keep_row : Bool → Row → List Row → List Row
keep_row true r rs = r ∷ rs
keep_row false r rs = rs

unfoldable pub those : (Row → Bool) → List Row → List Row
those p [] = []
those p (r ∷ rs) = keep_row (p r) r (those p rs)

-- Rule 2.10: the top room, the most rows that any list may have.
abbrev pub top_room : ℕ
top_room = 1048576

-- Rule 2.10: a list's room is the length of its shorter slice, but not more than the top room.
unfoldable pub list_room : List ℕ → List ℕ → ℕ
list_room keys hops = min (min (length keys) (length hops)) top_room
