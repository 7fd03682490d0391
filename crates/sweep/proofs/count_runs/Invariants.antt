-- Invariants and measures.
-- Assumes nothing.
use mathlib.Core.Path.{◌≡◌}
use Prim.Native.Nat.{◌-◌, ◌≤◌}
use Rattle.ground.specs.Stretch.{counted, turns_from}
use Rattle.sweep.specs.Sweep.{all_rows, answer}
use Rattle.sweep.proofs.Sweeping.{Sweeping}
use Rattle.sweep.proofs.count_runs.Given as goal

abbrev pub invariant-loop-s : goal.invariant-loop-s
invariant-loop-s l = Sweeping l.rows.keys.now l.rows.hops.now l.base l.start l.limit l.ends l.open_hops l.s.row l.s.depth l.s.at
    × (l.n ≡ counted (turns_from l.start (answer l.base (all_rows l.rows.keys.now l.rows.hops.now))) l.start (l.s.at - l.start))
    × (l.limit ≤ 4294967296)

abbrev pub decreases-loop-s : goal.decreases-loop-s
decreases-loop-s l = l.limit - l.s.at
