-- `host::edits::whelk_announce` meets its contract: the announcement's outcome, with what it returns as a struct.
-- Assumes nothing.
use Rattle.c_structs.proofs.EditCarried.{edit_carried}
use Rattle.host.proofs.edits.whelk_announce.Goals as goal

-- the announcement, from where the slices are known after it
pub returns : goal.returns
returns c =
    let e = c.announce in
    edit_carried e.result c.into.ensures e.ensures
