-- `host::whelk_split` meets its contract: the split's outcome with its number and count in one.
-- Assumes nothing.
use Rattle.c_answers.proofs.Carried.{split_carried}
use Rattle.host.proofs.whelk_split.Goals as goal

-- the split, from where the slices are known after it
pub returns : goal.returns
returns c =
    let s = c.split in
    split_carried s.result c.count_for_c.ensures s.ensures
