-- `segment::Walk::go_on` meets its contract: where no run begins on the way to the address, the walk stands there as it is.
-- Assumes nothing.
use native.Mathlib.Omega.{arith}
use Rattle.segment.proofs.Walking.{next_start, stays_behind, stays_before}
use Rattle.segment.proofs.Walk.go_on.Goals as goal
use Rattle.segment.proofs.Walk.go_on.Goals.{then-self-starts-via-then-self-starts, then-self-starts-via-else-self-starts+then-at-from}

pub returns-then-self-starts-clause-stands : goal.returns-then-self-starts-clause-stands
returns-then-self-starts-clause-stands c =
    let pre = c.requires in
    elim c.then-self-starts.branch [
      | then-self-starts-via-then-self-starts w ↦ stays_behind pre.0 _ _ pre.1 pre.2 w.if-self-starts.true
      | then-self-starts-via-else-self-starts+then-at-from w ↦
          stays_before pre.0 _ _ pre.1 pre.2 (next_start pre.0 _ _ pre.1 w.if-self-starts.false) (omega (arith, w.from.ensures, w.if-at-from.true))
    ]
