-- `host::whelk_packed_lookup` meets its contract: the packed lookup's outcome as one number.
-- Assumes nothing.
use mathlib.Core.Path.{ap, ◌∙◌}
use Rattle.c_answers.specs.Exports.{lookup_for_c}
use Rattle.host.proofs.whelk_packed_lookup.Goals as goal

pub returns : goal.returns
returns c = c.lookup_for_c.ensures ∙ ap lookup_for_c c.packed_lookup.ensures
