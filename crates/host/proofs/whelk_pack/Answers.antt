-- `host::whelk_pack` meets its contract: the packing's outcome, with what it returns as a struct.
-- Assumes nothing.
use Rattle.c_structs.proofs.PackCarried.{pack_carried}
use Rattle.host.proofs.whelk_pack.Goals as goal

-- the packing, from where the slices are known after it
pub returns : goal.returns
returns c =
    let p = c.pack in
    pack_carried p.result c.into.ensures p.ensures
