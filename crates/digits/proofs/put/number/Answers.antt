-- `digits::put::number` meets its contract: the digits are put into the rest of the slice, and so at the place; the mark is one byte more.
-- Assumes nothing.
use mathlib.Core.Path.{refl}
use mathlib.Core.List.{[], ◌∷◌}
use Prim.Native.Nat.{◌+◌, ◌-◌, ◌<◌}
use native.Mathlib.Omega.{arith}
use lib.ListN.{length, length-append, length-take, length-drop}
use borrow.Rule.Slice.PartMut.{put_mid}
use Rattle.digits.specs.Digits.{decimal}
use Rattle.digits.specs.Putting.{Put}
use Rattle.digits.proofs.Putting.{put_rest, put_long, put_byte}
use Rattle.digits.proofs.put.number.Reads as reads
use Rattle.digits.proofs.put.number.Lts as lts
use Rattle.digits.proofs.put.decimal.Reads as decimal-reads
use Rattle.digits.proofs.put.number.Goals as goal

pub decimal-requires : goal.decimal-requires
decimal-requires c =
    simp (length-take, length-drop) (omega (arith, c.requires.room, length-append (decimal c.args.n) (c.args.mark ∷ [])))

pub overflow_add-after : goal.overflow_add-after
overflow_add-after c =
    let room : c.args.at + length (decimal c.args.n) < length c.args.out.now = omega (arith, c.requires.room, length-append (decimal c.args.n) (c.args.mark ∷ [])) in
    let digits_put : let at = c.args.at in let out = c.args.out.now in
    Put at (decimal c.args.n) (at + c.decimal.result) out
    (put_mid at (length out - at) out c.decimal.new.out) = put_rest (omega (arith, room)) refl c.decimal.ensures in
    omega (arith, room, digits_put.after)

pub bounds-out-after : goal.bounds-out-after
bounds-out-after c =
    let room : c.args.at + length (decimal c.args.n) < length c.args.out.now = omega (arith, c.requires.room, length-append (decimal c.args.n) (c.args.mark ∷ [])) in
    let digits_put : let at = c.args.at in let out = c.args.out.now in
    Put at (decimal c.args.n) (at + c.decimal.result) out
    (put_mid at (length out - at) out c.decimal.new.out) = put_rest (omega (arith, room)) refl c.decimal.ensures in
    omega (arith, room, digits_put.after, put_long digits_put (omega (arith, room)))

pub overflow_add-result : goal.overflow_add-result
overflow_add-result c =
    let room : c.args.at + length (decimal c.args.n) < length c.args.out.now = omega (arith, c.requires.room, length-append (decimal c.args.n) (c.args.mark ∷ [])) in
    let digits_put : let at = c.args.at in let out = c.args.out.now in
    Put at (decimal c.args.n) (at + c.decimal.result) out
    (put_mid at (length out - at) out c.decimal.new.out) = put_rest (omega (arith, room)) refl c.decimal.ensures in
    omega (arith, room, digits_put.after)

pub returns : goal.returns
returns c =
    let room : c.args.at + length (decimal c.args.n) < length c.args.out.now = omega (arith, c.requires.room, length-append (decimal c.args.n) (c.args.mark ∷ [])) in
    let digits_put : let at = c.args.at in let out = c.args.out.now in
    Put at (decimal c.args.n) (at + c.decimal.result) out
    (put_mid at (length out - at) out c.decimal.new.out) = put_rest (omega (arith, room)) refl c.decimal.ensures in
    put_byte digits_put _ room
