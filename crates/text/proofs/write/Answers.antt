-- `text::write` meets its contract: past the list test and the measuring it is what `put_rows` leaves.
-- Assumes nothing.
use Rattle.std.proofs.Common.{sym, ◌∙◌}
use Rattle.text.proofs.Outcome.{write_done}
use Rattle.text.proofs.write.Goals as goal

pub returns : goal.returns
returns c =
    sym
    (write_done _ _ _ _ (sym c.list_ok.ensures ∙ c.if-not-list_ok.false) (sym c.text_fits.ensures ∙ c.if-not-text_fits.false) c.put_rows.ensures)
