-- Rule 2.12: the plain answer is the hop of the longest listed prefix that holds the address, and 0 if none holds it.
-- Assumes nothing.
use Rattle.std.specs.Prelude.{cond, false, true, List, [], ◌∷◌, ℕ, leb, length, slice_index, EachIndex, ◌≡◌, ◌<◌}
use Rattle.std.proofs.Math.Option.{Option, none, some}
use Rattle.cidr.specs.Prefix.{holds, length_of}
use Rattle.routes.specs.Row.{Row, those}

-- Rule 2.12: the rows whose prefix holds the address.
unfoldable pub matching : ℕ → List Row → List Row
matching a rows = those (λ r. holds r.key a) rows

-- the longer of a row and another, if there is another; of two of one length the first, which a well-formed list never asks
unfoldable pub longer : Row → Option Row → Option Row
longer r none = some r
longer r (some s) = cond (leb (length_of s.key) (length_of r.key)) (some r) (some s)

-- the longest of some rows
unfoldable pub longest : List Row → Option Row
longest [] = none
longest (r ∷ rs) = longer r (longest rs)

-- Rule 2.6: a row's hop, and 0 for no row.
abbrev pub hop_of : Option Row → ℕ
hop_of none = 0
hop_of (some r) = r.hop

-- Rule 2.12: the plain answer.
unfoldable pub plain : List Row → ℕ → ℕ
plain rows a = hop_of (longest (matching a rows))

-- the prefix of none of these keys holds the address
abbrev pub NoneHolds : List ℕ → ℕ → Type 0
NoneHolds keys a = EachIndex keys (λ i. holds (slice_index keys i) a ≡ false)

-- the key at a place is the last of these whose prefix holds the address
abbrev pub IsLastToHold : List ℕ → ℕ → ℕ → Type 0
IsLastToHold keys a at =
    (at < length keys) × (holds (slice_index keys at) a ≡ true) × ((i : ℕ) → at < i → i < length keys → holds (slice_index keys i) a ≡ false)
