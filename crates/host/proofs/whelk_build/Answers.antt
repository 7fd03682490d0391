-- `host::whelk_build` meets its contract: the build's outcome with its number and count in one.
-- Assumes nothing.
use Rattle.c_answers.proofs.Carried.{build_carried}
use Rattle.host.proofs.whelk_build.Goals as goal

-- the build, from where the slices are known after it
pub returns : goal.returns
returns c =
    let b = c.build in
    build_carried b.result c.count_for_c.ensures b.ensures
