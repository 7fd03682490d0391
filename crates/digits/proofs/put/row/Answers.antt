-- `digits::put::row` meets its contract: the network with a '/', the length with a space and the hop with an LF, one behind the other.
-- Assumes nothing.
use mathlib.Core.Path.{◌≡◌, ap}
use mathlib.Core.List.{List, ◌++◌, append_assoc}
use Prim.Native.Nat.{ℕ, ◌/◌, ◌%◌}
use native.Mathlib.Omega.{arith}
use lib.ListN.{length}
use Rattle.routes.specs.Row.{row}
use Rattle.digits.specs.Digits.{row_text}
use Rattle.digits.specs.Putting.{number_text, address_text, Fits}
use Rattle.digits.proofs.Putting.{first_fits, rest_fits, put_then}
use Rattle.digits.proofs.put.row.Goals as goal

-- the parts of a row from the length on
abbrev second : ℕ → ℕ → List ℕ
second key hop = number_text (key % 64) 32 ++ number_text hop 10

parts : (key hop : ℕ) → row_text (row key hop) ≡ address_text (key / 64) 47 ++ second key hop
unfolding row_text
parts key hop = simp append_assoc

pub address-len-requires : goal.address-len-requires
address-len-requires c =
    let fits : Fits c.args.at (address_text (c.args.key / 64) 47 ++ second c.args.key c.args.hop) c.args.out.now = record { room = omega (arith, c.requires.room, ap length (parts c.args.key c.args.hop)) } in
    first_fits _ fits

pub number-last-requires : goal.number-last-requires
number-last-requires c =
    let fits : Fits c.args.at (address_text (c.args.key / 64) 47 ++ second c.args.key c.args.hop) c.args.out.now = record { room = omega (arith, c.requires.room, ap length (parts c.args.key c.args.hop)) } in
    let fits_2 : Fits c.address-len.result (second c.args.key c.args.hop) c.address-len.new.out = rest_fits _ fits c.address-len.ensures in
    first_fits _ fits_2

pub number-requires : goal.number-requires
number-requires c =
    let fits : Fits c.args.at (address_text (c.args.key / 64) 47 ++ second c.args.key c.args.hop) c.args.out.now = record { room = omega (arith, c.requires.room, ap length (parts c.args.key c.args.hop)) } in
    let fits_2 : Fits c.address-len.result (second c.args.key c.args.hop) c.address-len.new.out = rest_fits _ fits c.address-len.ensures in
    let fits_3 : Fits c.number-last.result (number_text c.args.hop 10) c.number-last.new.out = rest_fits _ fits_2 c.number-last.ensures in
    fits_3

pub returns : goal.returns
returns c =
    let fits : Fits c.args.at (address_text (c.args.key / 64) 47 ++ second c.args.key c.args.hop) c.args.out.now = record { room = omega (arith, c.requires.room, ap length (parts c.args.key c.args.hop)) } in
    let fits_2 : Fits c.address-len.result (second c.args.key c.args.hop) c.address-len.new.out = rest_fits _ fits c.address-len.ensures in
    rw (parts c.args.key c.args.hop)
    (put_then _ fits c.address-len.ensures (put_then _ fits_2 c.number-last.ensures c.number.ensures))
