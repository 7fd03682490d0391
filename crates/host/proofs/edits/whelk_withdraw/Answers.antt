-- `host::edits::whelk_withdraw` meets its contract: the withdrawal's outcome, with what it returns as a struct.
-- Assumes nothing.
use Rattle.c_structs.proofs.EditCarried.{edit_carried}
use Rattle.host.proofs.edits.whelk_withdraw.Goals as goal

-- the withdrawal, from where the slices are known after it
pub returns : goal.returns
returns c =
    let e = c.withdraw in
    edit_carried e.result c.into.ensures e.ensures
