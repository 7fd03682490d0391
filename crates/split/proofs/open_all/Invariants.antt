-- Some rows were opened. The measure is how many rows are left.
-- Assumes nothing.
use Prim.Native.Nat.{◌-◌}
use lib.ListN.{length}
use Rattle.split.proofs.Opening.{Opening}
use Rattle.split.proofs.open_all.Given as goal

abbrev pub invariant-loop-s : goal.invariant-loop-s
invariant-loop-s l = Opening l.rows.keys.now l.rows.hops.now l.ends l.open_hops l.s.row l.s.depth l.s.at

abbrev pub decreases-loop-s : goal.decreases-loop-s
decreases-loop-s l = length l.rows.keys.now - l.s.row
