-- Invariants and measures.
-- Assumes nothing.
use Rattle.entries.proofs.Rows.{all_rows}
use Rattle.entries.proofs.EntryTest.{Walk}
use Rattle.clue.proofs.entries_ok.Given as goal

abbrev pub invariant-loop-i : goal.invariant-loop-i
invariant-loop-i l = Walk (all_rows l.keys l.hops) l.ekeys l.ehops l.marks l.i
