-- `lookup::in_bytes` meets its contract. The loop keeps `Reaching` true, over the starts that the bytes give: halving is halfway, and what is
-- kept is the last address before high.
-- Assumes nothing.
use native.Mathlib.Omega.{arith}
use Rattle.halving.proofs.Turning.{turning_end}
use Rattle.lookup.proofs.Reaching.{reached, reaching_start, reaching_turn, reaching_last}
use Rattle.lookup.proofs.in_bytes.Goals as goal

pub loop-init : goal.loop-init
loop-init c = reaching_start _ _ _ _ (omega arith) c.turns-turns.ensures c.whole-s.ensures

pub loop-preserved : goal.loop-preserved
loop-preserved c =
    let start = c.start_at-start.ensures in
    reaching_turn c.loop.invariant (omega arith) (rw start at c.narrow-s.ensures) (rw start at c.lowered-last.ensures)

pub end-end-requires : goal.end-end-requires
end-end-requires c = turning_end c.loop.invariant.turning (omega arith) (omega arith)

pub returns : goal.returns
returns c =
    let inv = c.loop.invariant in
    let start = c.start_at-start-2.ensures in
    let is = rw start at c.end-end.ensures in
    let last = rw (c.lowered.ensures, start) at c.select_unpredictable.ensures in
    reached inv.turning (omega arith) is (reaching_last inv (omega arith) is last)
