-- `host::whelk_import` meets its contract: the import's outcome, with what it returns as a struct.
-- Assumes nothing.
use Rattle.c_structs.proofs.ImportCarried.{import_carried}
use Rattle.host.proofs.whelk_import.Goals as goal

-- the import, from where the slices are known after it
pub returns : goal.returns
returns c =
    let i = c.import in
    import_carried _ _ i.result c.into.ensures i.ensures
