-- Rule 19.1: a clue is a length and an address, read as that many first bits of the address. Rule 19.2: of a clue a list says the hop of the
-- longest listed match of the clue itself, and whether a longer listed prefix extends it.
-- Assumes nothing.
use Rattle.std.specs.Prelude.{Bool, false, ◌&&◌, ◌||◌, List, [], ◌∷◌, ℕ, ◌-◌, ltb}
use Rattle.cidr.specs.Prefix.{key_of, length_of, host_bits, covers}
use Rattle.routes.specs.Row.{Row, those}
use Rattle.routes.specs.Plain.{longest, hop_of}

-- Rule 19.1: the prefix that a clue is, as its key.
unfoldable pub clue_of : ℕ → ℕ → ℕ
clue_of len a = key_of (a - host_bits len a) len

-- Rule 19.2: the rows whose prefix holds the clue's, the clue's own row among them.
unfoldable pub around : ℕ → List Row → List Row
around k rows = those (λ r. covers r.key k) rows

-- Rule 19.2: the hop of the longest listed match of the clue itself, and 0 if there is none.
unfoldable pub hop_around : List Row → ℕ → ℕ
hop_around rows k = hop_of (longest (around k rows))

-- Rule 19.2: a prefix extends a clue if it is longer and the clue holds it.
unfoldable pub extends : ℕ → ℕ → Bool
extends k key = ltb (length_of k) (length_of key) && covers k key

-- some row passes the test
unfoldable pub any : (Row → Bool) → List Row → Bool
any p [] = false
any p (r ∷ rs) = p r || any p rs

-- Rule 19.2: some listed prefix extends the clue.
unfoldable pub extended : List Row → ℕ → Bool
extended rows k = any (λ r. extends k r.key) rows
