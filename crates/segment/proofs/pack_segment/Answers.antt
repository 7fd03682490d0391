-- `segment::pack_segment` meets its contract: the blocks of the width that the keys give are packed.
-- Assumes nothing.
use mathlib.Core.Path.{◌∙◌}
use Rattle.segment.proofs.PackLaws.{same_width}
use Rattle.segment.proofs.pack_segment.Goals as goal

pub returns : goal.returns
returns c = c.pack_blocks.ensures ∙ same_width _ _ _ _ c.width_of-width.ensures
