-- `host::feeds::whelk_pull` meets its contract: the pull's outcome, as a struct.
-- Assumes nothing.
use Rattle.c_structs.proofs.PullCarried.{pull_carried}
use Rattle.host.proofs.feeds.whelk_pull.Goals as goal

pub returns : goal.returns
returns c = let p = c.pull_at in pull_carried p.result c.into.ensures p.ensures
