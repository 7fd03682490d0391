-- `host::reasons::whelk_why_text` meets its contract: the outcome with its number and length in one, as of the list writer.
-- Assumes nothing.
use Rattle.c_answers.proofs.Carried.{write_carried}
use Rattle.host.proofs.reasons.whelk_why_text.Goals as goal

pub returns : goal.returns
returns c =
    let w = c.why_text in
    write_carried w.result c.count_for_c.ensures w.ensures
