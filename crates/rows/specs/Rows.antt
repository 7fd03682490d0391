-- Rule 3.1: an LF ends the row before it, and what stands behind the last LF is a row too, unless it is nothing. Rule 3.2: a feed of no
-- bytes has no rows, and two LFs side by side have an empty row between them.
-- Assumes nothing.
use Rattle.std.specs.Prelude.{cond, List, [], ◌∷◌, ℕ, suc, eqb}

-- the bytes that a row's form names: LF, '.', '/', space, and the digits from '0' to '9'
abbrev pub LF : ℕ
LF = 10

abbrev pub dot : ℕ
dot = 46

abbrev pub slash : ℕ
slash = 47

abbrev pub space : ℕ
space = 32

abbrev pub digit0 : ℕ
digit0 = 48

abbrev pub digit9 : ℕ
digit9 = 57

-- the rows with one byte more in front of the first of them; where there is no row yet the byte begins one
abbrev pub grown : ℕ → List (List ℕ) → List (List ℕ)
grown b [] = (b ∷ []) ∷ []
grown b (r ∷ rs) = (b ∷ r) ∷ rs

-- how many bytes stand before the first LF, or in all where there is none: the length of the first row
unfoldable pub row_length : List ℕ → ℕ
row_length [] = 0
row_length (b ∷ bs) = cond (eqb b LF) 0 (suc (row_length bs))

-- the rows of a feed: an LF ends the row before it, any other byte belongs to the row that follows
unfoldable pub rows_in : List ℕ → List (List ℕ)
rows_in [] = []
rows_in (b ∷ bs) = cond (eqb b LF) ([] ∷ rows_in bs) (grown b (rows_in bs))
