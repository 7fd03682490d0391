-- `digits::put::long` meets its contract. The digits of the tenth are there, and the store is the last digit behind them.
-- Assumes nothing.
use Rattle.std.proofs.Common.{◌<◌, length, arith}
use Rattle.digits.proofs.Decimal.{digits_step}
use Rattle.digits.proofs.Putting.{byte_fits, wrote_digit}
use Rattle.digits.proofs.put.+long.Goals as goal

pub long-at-requires : goal.long-at-requires
long-at-requires t c = (omega arith, omega (arith, c.requires, digits_step c.args.n (omega arith)))

pub bounds-out-at : goal.bounds-out-at
bounds-out-at t c = byte_fits c.long-at.ensures (omega (arith, c.requires, digits_step c.args.n (omega arith)))

pub overflow_add-result : goal.overflow_add-result
overflow_add-result t c =
    let within : c.long-at.result < length c.long-at.new.out = byte_fits c.long-at.ensures (omega (arith, c.requires, digits_step c.args.n (omega arith))) in
    omega (arith, within, c.long-at.type_inv)

pub returns : goal.returns
returns t c = wrote_digit c.args.n (omega arith) c.requires c.digit.ensures c.long-at.ensures
