-- `digits::put::five` meets its contract: a number of more than three digits has those of its hundredth and two more.
-- Assumes nothing.
use mathlib.Core.Path.{◌≡◌, ap}
use Prim.Native.Nat.{ℕ, ◌+◌, ◌/◌, ◌≤◌}
use native.Mathlib.Omega.{arith}
use lib.ListN.{length, length-set}
use Rattle.digits.specs.Digits.{decimal}
use Rattle.digits.specs.Putting.{Wrote}
use Rattle.digits.proofs.Decimal.{digits_step}
use Rattle.digits.proofs.Putting.{wrote_long, wrote_digit}
use Rattle.digits.proofs.put.five.Goals as goal

-- a hundredth is a tenth of a tenth, and has two digits less
hundredth : (n : ℕ) → n / 10 / 10 ≡ n / 100
hundredth n = omega arith

two_more : (n : ℕ) → 1000 ≤ n → length (decimal n) ≡ length (decimal (n / 100)) + 2
two_more n l =
    omega (arith, digits_step n (omega arith), digits_step (n / 10) (omega arith), ap (λ m. length (decimal m)) (hundredth n))

pub short-at-requires : goal.short-at-requires
short-at-requires c = (omega arith, omega (arith, c.requires.1, two_more c.args.n (omega arith)))

pub bounds-out-at : goal.bounds-out-at
bounds-out-at c =
    let room : 1000 ≤ c.args.n → c.short-at.result + 2 ≤ length c.short-at.new.out = λ l. let more = two_more c.args.n l in
    omega (arith, c.requires.1, c.short-at.ensures.bytes, wrote_long c.short-at.ensures (omega (arith, c.requires.1))) in
    omega (arith, room (omega arith))

pub overflow_add-out : goal.overflow_add-out
overflow_add-out c =
    let room : 1000 ≤ c.args.n → c.short-at.result + 2 ≤ length c.short-at.new.out = λ l. let more = two_more c.args.n l in
    omega (arith, c.requires.1, c.short-at.ensures.bytes, wrote_long c.short-at.ensures (omega (arith, c.requires.1))) in
    omega (arith, room (omega arith))

pub bounds-out-at-2 : goal.bounds-out-at-2
bounds-out-at-2 c =
    let room : 1000 ≤ c.args.n → c.short-at.result + 2 ≤ length c.short-at.new.out = λ l. let more = two_more c.args.n l in
    omega (arith, c.requires.1, c.short-at.ensures.bytes, wrote_long c.short-at.ensures (omega (arith, c.requires.1))) in
    simp length-set (omega (arith, room (omega arith)))

pub overflow_add-result : goal.overflow_add-result
overflow_add-result c =
    let room : 1000 ≤ c.args.n → c.short-at.result + 2 ≤ length c.short-at.new.out = λ l. let more = two_more c.args.n l in
    omega (arith, c.requires.1, c.short-at.ensures.bytes, wrote_long c.short-at.ensures (omega (arith, c.requires.1))) in
    omega (arith, room (omega arith))

pub returns : goal.returns
returns c =
    let n = c.args.n in
    let at = c.short-at.result in
    let two : at + 1 + 1 ≡ at + 2 = omega arith in
    let tenth : Wrote (decimal (n / 10 / 10)) at c.args.out.now c.short-at.new.out = rw (hundredth n) c.short-at.ensures in
    rw two at
    (wrote_digit n (omega arith) c.requires.1 c.digit-2.ensures
    (wrote_digit (n / 10) (omega arith) (omega (arith, c.requires.1, digits_step n (omega arith))) c.digit.ensures tenth))
