-- `edit::bad_prefix` meets its contract.
-- Assumes nothing.
use mathlib.Core.Path.{ap}
use mathlib.Core.Bool.{not}
use native.Mathlib.Omega.{arith}
use borrow.Author.Tests.{lt-ltb, le-ltb}
use Rattle.edit.specs.Edit.{bad_prefix}
use Rattle.edit.proofs.bad_prefix.Goals as goal

pub returns-then-len-gt32 : goal.returns-then-len-gt32
unfolding bad_prefix
returns-then-len-gt32 c = rw (lt-ltb 32 c.args.len (omega arith))

pub returns : goal.returns
unfolding bad_prefix
returns c = rw (le-ltb 32 c.args.len (omega arith)) (ap not c.is_prefix.ensures)
