-- `host::whelk_write` meets its contract: the writer's outcome with its number and length in one.
-- Assumes nothing.
use Rattle.c_answers.proofs.Carried.{write_carried}
use Rattle.host.proofs.whelk_write.Goals as goal

pub returns : goal.returns
returns c =
    let w = c.write in
    write_carried w.result c.count_for_c.ensures w.ensures
