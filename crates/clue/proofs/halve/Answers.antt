-- `clue::halve` meets its contract. The loop keeps `Turning` true: halving is halfway, the place is the one to probe next, and the turns
-- that are left are as many as high and low still need. The measure is how many turns are left.
-- Assumes nothing.
use mathlib.Core.Path.{ap}
use native.Mathlib.Omega.{arith}
use Rattle.halving.specs.Halving.{Halved}
use Rattle.clue.proofs.Halfway.{halving_below}
use Rattle.clue.proofs.Turning.{turning_start, turning_bounds, turning_turn, last_turn}
use Rattle.clue.proofs.halve.Goals as goal

pub turns-left-requires : goal.turns-left-requires
turns-left-requires c = omega arith

pub loop-left-init : goal.loop-left-init
loop-left-init c = turning_start _ _ _ _ (omega arith) c.turns-left.ensures c.whole-s.ensures

pub offset_bounds-ekeys-place : goal.offset_bounds-ekeys-place
offset_bounds-ekeys-place c = omega (arith, turning_bounds c.loop-left.invariant)

pub bounds-ekeys-place : goal.bounds-ekeys-place
bounds-ekeys-place c = omega (arith, turning_bounds c.loop-left.invariant)

pub narrow-s-requires : goal.narrow-s-requires
narrow-s-requires c = let b = turning_bounds c.loop-left.invariant in (b.0, omega arith, omega arith)

pub loop-left-preserved : goal.loop-left-preserved
loop-left-preserved c = turning_turn c.loop-left.invariant (omega arith) c.narrow-s.ensures

pub offset_bounds-ekeys-place-2 : goal.offset_bounds-ekeys-place-2
offset_bounds-ekeys-place-2 c = omega (arith, turning_bounds c.loop-left.invariant)

pub bounds-ekeys-place-2 : goal.bounds-ekeys-place-2
bounds-ekeys-place-2 c = omega (arith, turning_bounds c.loop-left.invariant)

pub end-found-requires : goal.end-found-requires
end-found-requires c = let b = turning_bounds c.loop-left.invariant in (b.0, omega arith, omega arith)

pub returns : goal.returns
returns c =
    let low = last_turn c.loop-left.invariant (omega arith) (ap (λ (h : Halved). h.low) c.end-found.ensures) in
    (low, rw low (halving_below _ _ _ (omega arith)))
