-- Rules 2.1 and 12.2: numbers, addresses and rows as text.
-- Assumes nothing.
use Rattle.std.specs.Prelude.{true, false, List, [], ◌∷◌, ◌++◌, ℕ, zero, suc, ◌+◌, ◌/◌, ◌%◌, ltb}
use Rattle.cidr.specs.Prefix.{network, length_of}
use Rattle.routes.specs.Row.{Row}
use Rattle.rows.specs.Rows.{LF, dot, slash, space, digit0}

-- Rule 12.2: a number's decimal digits, with no zero in front. `more` bounds how many stand before the last one; n itself is enough.
unfoldable pub decimal_by : ℕ → ℕ → List ℕ
decimal_by zero n = (digit0 + n) ∷ []
decimal_by (suc more) n =
    elim (ltb n 10) [ true ↦ (digit0 + n) ∷ [] | false ↦ decimal_by more (n / 10) ++ (digit0 + n % 10) ∷ [] ]

unfoldable pub decimal : ℕ → List ℕ
decimal n = decimal_by n n

-- Rule 2.1: an address as a.b.c.d.
unfoldable pub dotted_text : ℕ → List ℕ
dotted_text a =
    decimal (a / 16777216)
    ++ dot ∷ decimal (a / 65536 % 256)
    ++ dot ∷ decimal (a / 256 % 256)
    ++ dot ∷ decimal (a % 256)

-- Rule 12.2: a row as `a.b.c.d/len hop` with an LF behind it.
unfoldable pub row_text : Row → List ℕ
row_text r = dotted_text (network r.key) ++ slash ∷ decimal (length_of r.key) ++ space ∷ decimal r.hop ++ LF ∷ []
