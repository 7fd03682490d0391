-- `digits::size::of_number` meets its contract: between two powers of 10 the number of digits is known.
-- Assumes nothing.
use native.Mathlib.Omega.{arith}
use Rattle.digits.proofs.Decimal.{digits_small, digits_at_least, digits_at_most}
use Rattle.digits.proofs.size.of_number.Goals as goal

pub returns-then-n-lt10 : goal.returns-then-n-lt10
returns-then-n-lt10 c = (omega (arith, digits_small c.args.n (omega arith)), omega arith)

pub returns-then-n-lt100 : goal.returns-then-n-lt100
returns-then-n-lt100 c =
    let n = c.args.n in
    (omega (arith, digits_at_least 1 n (omega arith), digits_at_most 1 n (omega arith)), omega arith)

pub returns-then-n-lt1000 : goal.returns-then-n-lt1000
returns-then-n-lt1000 c =
    let n = c.args.n in
    (omega (arith, digits_at_least 2 n (omega arith), digits_at_most 2 n (omega arith)), omega arith)

pub returns-then-n-lt10000 : goal.returns-then-n-lt10000
returns-then-n-lt10000 c =
    let n = c.args.n in
    (omega (arith, digits_at_least 3 n (omega arith), digits_at_most 3 n (omega arith)), omega arith)

pub returns : goal.returns
returns c =
    let n = c.args.n in
    (omega (arith, digits_at_least 4 n (omega arith), digits_at_most 4 n (omega arith)), omega arith)
