-- `digits::put::short` meets its contract: each store is one digit more behind those that are there.
-- Assumes nothing.
use Prim.Native.Nat.{◌/◌}
use native.Mathlib.Omega.{arith}
use lib.ListN.{length-set}
use Rattle.digits.proofs.Decimal.{digits_small, digits_step, one_digit, digits_at_least}
use Rattle.digits.proofs.Putting.{wrote_first, wrote_digit}
use Rattle.digits.proofs.put.short.Reads as reads
use Rattle.digits.proofs.put.short.Lts as lts
use Rattle.digits.proofs.put.digit.Reads as digit-reads
use Rattle.digits.proofs.put.short.Goals as goal

pub bounds-out-0 : goal.bounds-out-0
bounds-out-0 c = omega (arith, one_digit c.args.n)

pub returns-then-n-lt10 : goal.returns-then-n-lt10
returns-then-n-lt10 c = wrote_first _ (omega arith) c.requires.1 c.digit.ensures

pub bounds-out-0-then-n-lt100 : goal.bounds-out-0-then-n-lt100
bounds-out-0-then-n-lt100 c = omega (arith, one_digit c.args.n)

pub bounds-out-1 : goal.bounds-out-1
bounds-out-1 c =
    simp length-set (omega (arith, digits_at_least 1 c.args.n (omega arith)))

pub returns-then-n-lt100 : goal.returns-then-n-lt100
returns-then-n-lt100 c =
    let n = c.args.n in
    let room = digits_at_least 1 n (omega arith) in
    wrote_digit n (omega arith) c.requires.1 c.digit-then-n-lt100-2.ensures
    (wrote_first (n / 10) (omega arith) (omega (arith, room, digits_small (n / 10) (omega arith))) c.digit-then-n-lt100.ensures)

pub bounds-out-0-2 : goal.bounds-out-0-2
bounds-out-0-2 c = omega (arith, one_digit c.args.n)

pub bounds-out-1-2 : goal.bounds-out-1-2
bounds-out-1-2 c =
    simp length-set (omega (arith, digits_at_least 1 c.args.n (omega arith)))

pub bounds-out-2 : goal.bounds-out-2
bounds-out-2 c =
    simp length-set (omega (arith, digits_at_least 2 c.args.n (omega arith)))

pub returns : goal.returns
returns c =
    let n = c.args.n in
    let room = digits_at_least 2 n (omega arith) in
    let few = digits_small (n / 10 / 10) (omega arith) in
    wrote_digit n (omega arith) c.requires.1 c.digit-4.ensures
    (wrote_digit (n / 10) (omega arith) (omega (arith, room, few, digits_step (n / 10) (omega arith))) c.digit-3.ensures
    (wrote_first (n / 10 / 10) (omega arith) (omega (arith, room, few)) (omega (arith, c.digit-2.ensures))))
