-- At each turn what is read and the digits that are left make the whole (`Reads`).
-- Assumes nothing.
use Rattle.rows.proofs.Fields.{Reads}
use Rattle.rows.proofs.parse.digits_from.Given as goal

abbrev pub invariant-loop-next : goal.invariant-loop-next
invariant-loop-next l = Reads l.row l.at l.most l.value l.next
