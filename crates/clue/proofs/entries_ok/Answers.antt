-- An entry that isn't the list's for its clue, or whose key isn't below the next, settles that they aren't; one that is leaves it to those
-- behind it.
use Rattle.std.proofs.Common.{arith, sym, ◌∙◌}
use Rattle.entries.proofs.EntryTest.{hops_differ, marks_differ, walk_start, walk_end, walk_fails, walk_stops, walk_last, walk_next}
use Rattle.clue.proofs.entries_ok.Goals.{else-next-n-via-then-next-n+else-ekeys-next, else-next-n-via-else-next-n}
use Rattle.clue.proofs.entries_ok.Goals as goal

pub returns-then-ehops-n : goal.returns-then-ehops-n
returns-then-ehops-n c = hops_differ _ _ _ _ c.if-ehops-n.true

pub returns-then-marks-n : goal.returns-then-marks-n
returns-then-marks-n c = marks_differ _ _ _ _ c.if-marks-n.true

pub loop-i-init : goal.loop-i-init
loop-i-init c = walk_start _ _ _ _ (omega arith) (omega arith)

pub returns-then-not-entry_ok : goal.returns-then-not-entry_ok
returns-then-not-entry_ok c =
    walk_fails c.loop-i.invariant c.loop-i-test.true (sym c.entry_ok.ensures ∙ c.if-not-entry_ok.true)

pub returns-then-ekeys-next : goal.returns-then-ekeys-next
returns-then-ekeys-next c = walk_stops c.loop-i.invariant c.loop-i-test.true (omega arith) (omega arith)

pub loop-i-preserved : goal.loop-i-preserved
loop-i-preserved c =
    let its = sym c.entry_ok.ensures ∙ c.if-not-entry_ok.false in
    elim c.else-next-n.branch [
      | else-next-n-via-then-next-n+else-ekeys-next w ↦ walk_next c.loop-i.invariant c.loop-i-test.true its (omega arith) w.if-ekeys-next.false
      | else-next-n-via-else-next-n w ↦ walk_last c.loop-i.invariant c.loop-i-test.true its (omega arith)
    ]

pub returns : goal.returns
returns c = walk_end c.loop-i.invariant c.loop-i-test.false
