-- `program::line` meets its contract: the name, its space, and the number with its LF behind them.
-- Assumes nothing.
use mathlib.Core.Path.{◌∙◌}
use mathlib.Core.List.{[], ◌∷◌, ◌++◌}
use Prim.Native.Nat.{◌+◌, ◌<◌}
use lib.ListN.{length, set, length-set}
use Rattle.digits.specs.Putting.{Put}
use Rattle.program.proofs.ProgramLines.{bare_fits, put_space, number_fits, put_line}
use Rattle.program.proofs.line.Goals as goal

pub text-after-requires : goal.text-after-requires
text-after-requires c =
    bare_fits c.args.name.now c.args.n c.requires

pub bounds-out-after : goal.bounds-out-after
bounds-out-after c =
    let spaced : let t = c.text-after in
    (t.result < length t.new.out) × Put c.args.at (c.args.name.now ++ 32 ∷ []) (t.result + 1) c.args.out.now
    (set t.new.out t.result 32) = put_space c.args.name.now c.args.n c.requires c.text-after.ensures in
    spaced.0

pub number-requires : goal.number-requires
number-requires c =
    let spaced : let t = c.text-after in
    (t.result < length t.new.out) × Put c.args.at (c.args.name.now ++ 32 ∷ []) (t.result + 1) c.args.out.now
    (set t.new.out t.result 32) = put_space c.args.name.now c.args.n c.requires c.text-after.ensures in
    number_fits c.args.name.now c.args.n c.requires spaced.1

pub shape_of-out : goal.shape_of-out
shape_of-out c =
    let t = c.text-after in
    c.number.auto.out ∙ simp length-set t.auto.out

pub returns : goal.returns
returns c =
    let spaced : let t = c.text-after in
    (t.result < length t.new.out) × Put c.args.at (c.args.name.now ++ 32 ∷ []) (t.result + 1) c.args.out.now
    (set t.new.out t.result 32) = put_space c.args.name.now c.args.n c.requires c.text-after.ensures in
    put_line c.args.name.now c.args.n c.requires spaced.1 c.number.ensures
