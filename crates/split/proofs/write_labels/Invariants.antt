-- The walk stands at row i, and counts the slots from place k on.
-- Assumes nothing.
use Rattle.std.proofs.Common.{◌≡◌}
use Rattle.split.proofs.Labelling.{Labelling}
use Rattle.split.proofs.write_labels.Given as goal

abbrev pub invariant-loop-i : goal.invariant-loop-i
invariant-loop-i l = record {
  stands : Labelling l.rows.keys.now l.rows.hops.now l.fn.k l.initial.labels l.labels l.ends l.open_hops l.s.row l.s.depth l.s.at l.i;
  from_k : l.k ≡ l.fn.k;
}
