-- No more runs are counted than have begun.
-- Assumes nothing.
use Prim.Native.Nat.{◌≤◌}
use Rattle.segment.specs.Inside.Blocks.{begun}
use Rattle.segment.proofs.begun_at.Given as goal

abbrev pub invariant-loop-n : goal.invariant-loop-n
invariant-loop-n l = l.n ≤ begun l.starts l.at
