-- `text::text_fits` meets its contract: a row has at most 25 bytes, so where there are as many for each row the text fits; else its length
-- is measured.
-- Assumes nothing.
use Rattle.std.proofs.Common.{◌/◌, arith, length, refl, le-leb}
use Rattle.routes.specs.Row.{rows_of}
use Rattle.text.specs.Text.{text_of}
use Rattle.text.proofs.Along.{network_small, text_at_most}
use Rattle.text.proofs.text_fits.Goals as goal

pub returns-then-count-bytes : goal.returns-then-count-bytes
returns-then-count-bytes c =
    let a = c.args in
    let most = text_at_most a.count a.keys.now a.hops.now (network_small _ _ _ c.requires) (λ i. omega (arith, c.type_inv.hops i)) in
    rw (le-leb a.count (a.bytes / 25) (omega arith), le-leb (length (text_of (rows_of a.count a.keys.now a.hops.now))) a.bytes (omega arith)) refl
