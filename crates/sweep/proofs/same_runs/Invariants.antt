-- Invariants and measures.
-- Assumes nothing.
use Prim.Native.Nat.{◌-◌}
use Rattle.sweep.specs.Sweep.{all_rows, answer}
use Rattle.sweep.proofs.Sweeping.{Sweeping}
use Rattle.sweep.proofs.Comparing.{Comparing}
use Rattle.sweep.proofs.same_runs.Given as goal

abbrev pub invariant-loop-s : goal.invariant-loop-s
invariant-loop-s l = Sweeping l.rows.keys.now l.rows.hops.now l.base l.start l.limit l.ends l.open_hops l.s.row l.s.depth l.s.at
    × Comparing (answer l.base (all_rows l.rows.keys.now l.rows.hops.now)) l.start l.s.at l.n l.starts l.rhops

abbrev pub decreases-loop-s : goal.decreases-loop-s
decreases-loop-s l = l.limit - l.s.at
