-- `host::reasons::whelk_why` meets its contract: the listing's outcome, with what it returns as a struct.
-- Assumes nothing.
use Rattle.c_structs.proofs.WhyCarried.{why_carried}
use Rattle.host.proofs.reasons.whelk_why.Goals as goal

pub returns : goal.returns
returns c =
    let w = c.why in
    why_carried w.result c.into.ensures w.ensures
