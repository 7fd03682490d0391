-- The two seams of a rewritten run table, told by the old table's columns and the hops of the first and the last run inside.
-- Assumes nothing.
use Rattle.std.specs.Prelude.{◌≡◌, Bool, true, cond, ◌&&◌, ◌||◌, List, ℕ, ◌+◌, ◌-◌, ◌<◌, length, get_or, eqb, ltb, leb}
use Rattle.ground.specs.Column.{ascends, lower}
use Rattle.within.specs.declared.inside.Middle.{Middle}
use Rattle.plan.specs.declared.joins.Joint.{Joint}
use Rattle.plan.specs.declared.table.Splice.{Splice}

-- a run table's columns: starts that ascend from 0, and as many hops
pub record OldTable (starts hops : List ℕ) : Type 0 where
  pub paired : length hops ≡ length starts
  pub some : 0 < length starts
  pub first : get_or starts 0 0 ≡ 0
  pub ascend : ascends starts ≡ true

-- the run at net has the hop of the one before it
abbrev pub joins_before : List ℕ → List ℕ → ℕ → ℕ → Bool
joins_before starts hops net hop = ltb 0 net && eqb hop (get_or hops (lower net starts - 1) 0)

-- no run begins at end: it is past the last address, or the run that holds it has the last hop inside
abbrev pub joins_behind : List ℕ → List ℕ → ℕ → ℕ → Bool
joins_behind starts hops end hop = leb 4294967296 end || eqb (get_or hops (lower (end + 1) starts - 1) 0) hop

-- the slot of the first run inside and the start there: where the run joins the one before, they are that one's
pub record Jointed (starts hops : List ℕ) (net hop : ℕ) (j : Joint) : Type 0 where
  pub from_is : j.from ≡ lower net starts - cond (joins_before starts hops net hop) 1 0
  pub first_is : j.first ≡ cond (joins_before starts hops net hop) (get_or starts (lower net starts - 1) 0) net

pub record Seamed (starts hops : List ℕ) (net end : ℕ) (m : Middle) (s : Splice) : Type 0 where
  pub from_is : s.from ≡ lower net starts - cond (joins_before starts hops net m.first) 1 0
  pub first_is : s.first ≡ cond (joins_before starts hops net m.first) (get_or starts (lower net starts - 1) 0) net
  pub past_is : s.past ≡ lower (end + 1) starts
  pub to_is : s.to ≡ s.from + m.runs + cond (joins_behind starts hops end m.last) 0 1
  pub hop_is : s.hop ≡ get_or hops (lower (end + 1) starts - 1) 0
