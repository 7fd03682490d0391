-- The rows around a prefix and those inside it, and how many addresses the latter hold. The prefix's other addresses are its own: there its
-- row, or the longest row around it, has the say.
-- Assumes nothing.
use Rattle.std.specs.Prelude.{cond, not, ◌&&◌, List, [], ◌∷◌, ℕ, ◌+◌, leb, eqb}
use Rattle.cidr.specs.Prefix.{network, length_of, size, end_of, covers}
use Rattle.routes.specs.Row.{Row, those}
use Rattle.routes.specs.Plain.{longest, hop_of}

-- the rows whose prefix holds prefix k, k's own row among them; the hop of the longest of them
unfoldable pub enclosing : ℕ → List Row → List Row
enclosing k rows = those (λ r. covers r.key k) rows

unfoldable pub enclosing_hop : ℕ → List Row → ℕ
enclosing_hop k rows = hop_of (longest (enclosing k rows))

-- the rows of longer prefixes inside prefix k
unfoldable pub inner : ℕ → List Row → List Row
inner k rows = those (λ r. covers k r.key && not (eqb k r.key)) rows

-- the addresses that the outermost of some rows in key order hold, from e on: a row that begins before e lies in an earlier one
unfoldable pub outer_size : ℕ → List Row → ℕ
outer_size e [] = 0
outer_size e (r ∷ rs) =
    cond (leb e (network r.key)) (size (length_of r.key) + outer_size (end_of r.key) rs) (outer_size e rs)
