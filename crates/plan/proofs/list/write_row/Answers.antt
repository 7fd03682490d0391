-- At the key's place the row goes out, gets the hop or goes in, in both columns (`RowWritten`).
use Rattle.std.proofs.Common.{subst, IsOk}
use Rattle.std.proofs.lemmas.Bool.{false≢true}
use Rattle.plan.proofs.RowWritten.{row_out, row_set, row_in}
use Rattle.plan.proofs.list.write_row.Goals as goal

pub returns-in-Ok : goal.returns-in-Ok
returns-in-Ok c = rw (c.remove.ensures, c.remove-in-Ok.ensures) (row_out _ _ _ c.requires.0 _ _ _ c.requires.1 c.if-hop-eq0.true c.in-Ok.is)

pub returns-in-Ok-2 : goal.returns-in-Ok-2
returns-in-Ok-2 c = rw c.set.ensures (row_set _ _ _ c.requires.0 _ _ _ c.requires.1 c.if-hop-eq0.false c.in-Ok-2.is)

pub returns-in-Err : goal.returns-in-Err
returns-in-Err c =
    rw (c.insert.ensures, c.insert-in-Err.ensures)
    (row_in _ _ _ c.requires.0 _ _ _ c.requires.1 (λ z. false≢true (subst IsOk c.in-Err.is (c.requires.2 z))) c.in-Err.is c.requires.3)
