-- `host::whelk_build_half` meets its contract: the half's build with its number and count in one.
-- Assumes nothing.
use Rattle.c_answers.proofs.Carried.{build_carried}
use Rattle.host.proofs.whelk_build_half.Goals as goal

-- the build, from where the slices are known after it
pub returns : goal.returns
returns c =
    let b = c.build_half in
    build_carried b.result c.count_for_c.ensures b.ensures
