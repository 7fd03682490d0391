-- `program::text` meets its contract.
-- Assumes nothing.
use Rattle.std.proofs.Common.{◌≡◌, ◌+◌, ◌-◌, length, refl, arith}
use lib.Seq.{drop-drop}
use Rattle.digits.specs.Putting.{placed}
use Rattle.program.proofs.text.Goals as goal

pub returns : goal.returns
unfolding placed
returns c =
    let n : c.args.at + length c.args.bytes.now - c.args.at ≡ length c.args.bytes.now = omega arith in
    record { after = refl; slots = rw (c.copy_from_slice.ensures.after, n, drop-drop) refl }
