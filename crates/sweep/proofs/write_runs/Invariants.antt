-- Invariants and measures.
-- Assumes nothing.
use Prim.Native.Nat.{◌-◌, ◌≤◌}
use Rattle.sweep.specs.Sweep.{all_rows, answer}
use Rattle.sweep.proofs.Sweeping.{Sweeping}
use Rattle.sweep.proofs.Writing.{Writing}
use Rattle.sweep.proofs.write_runs.Given as goal

abbrev pub invariant-loop-s : goal.invariant-loop-s
invariant-loop-s l = Sweeping l.rows.keys.now l.rows.hops.now l.base l.start l.limit l.ends l.open_hops l.s.row l.s.depth l.s.at
    × Writing (answer l.base (all_rows l.rows.keys.now l.rows.hops.now)) l.start l.limit l.s.at l.n l.initial.starts l.initial.rhops l.starts l.rhops
    × (l.limit ≤ 4294967296)

abbrev pub decreases-loop-s : goal.decreases-loop-s
decreases-loop-s l = l.limit - l.s.at
