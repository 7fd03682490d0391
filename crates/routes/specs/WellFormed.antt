-- Rule 2.11: a list is well-formed if its count is at most its room, each row has a key and a hop other than 0, and keys are in order.
-- Rule 11.8: a half may have label 0.
-- Assumes nothing.
use Rattle.std.specs.Prelude.{Bool, true, false, not, ◌&&◌, List, ℕ, leb, eqb}
use Rattle.ground.specs.Column.{ascends}
use Rattle.cidr.specs.Prefix.{is_prefix}
use Rattle.routes.specs.Row.{Row, rows_of, keys_of, every, list_room}

-- Rule 2.7: each row has a key.
unfoldable pub prefixes : List Row → Bool
prefixes rows = every (λ r. is_prefix r.key) rows

-- Rule 2.6: no hop is 0. None is above 65,535 either, since a slot has 16 bits.
unfoldable pub hops_given : List Row → Bool
hops_given rows = every (λ r. not (eqb r.hop 0)) rows

-- Rule 2.9: each key is greater than the one before it.
unfoldable pub ascending : List Row → Bool
ascending rows = ascends (keys_of rows)

-- Rule 11.8: what a half's rows must be. Label 0 is no fault.
unfoldable pub half_rows : List Row → Bool
half_rows rows = prefixes rows && ascending rows

-- Rule 2.11: what a list's rows must be.
unfoldable pub good_rows : List Row → Bool
good_rows rows = hops_given rows && half_rows rows

-- Rule 2.11: the count is at most the room, and the rows are what they must be.
unfoldable pub well_formed : ℕ → List ℕ → List ℕ → Bool
well_formed count keys hops = leb count (list_room keys hops) && good_rows (rows_of count keys hops)

-- Rule 11.8: the same for a half.
unfoldable pub half_formed : ℕ → List ℕ → List ℕ → Bool
half_formed count keys hops = leb count (list_room keys hops) && half_rows (rows_of count keys hops)

-- the two by a flag, which says whether the list is a half
unfoldable pub formed : Bool → ℕ → List ℕ → List ℕ → Bool
formed true count keys hops = half_formed count keys hops
formed false count keys hops = well_formed count keys hops
