-- What a pull finds is carried over to what C gets.
-- Assumes nothing.
use Rattle.std.proofs.Common.{◌≡◌, ap, ◌∙◌}
use Rattle.rows.specs.declared.RowPulled.{RowPulled}
use Rattle.rows.specs.Pull.{Pulled, pull_gave}
use Rattle.c_structs.specs.declared.pulls.WhelkRow.{WhelkRow}
use Rattle.c_structs.specs.Structs.{pull_for_c}

pub pull_carried : (r : RowPulled) {w : WhelkRow} {o : Pulled} → w ≡ pull_for_c (pull_gave r) → pull_gave r ≡ o → w ≡ pull_for_c o
pull_carried r e g = e ∙ ap pull_for_c g
