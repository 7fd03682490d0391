-- `digits::put::address` meets its contract: the four octets, each with the byte after it, one behind the other.
-- Assumes nothing.
use mathlib.Core.Path.{◌≡◌, ap}
use mathlib.Core.List.{List, ◌++◌, append_assoc}
use Prim.Native.Nat.{ℕ, ◌/◌, ◌%◌}
use native.Mathlib.Omega.{arith}
use lib.ListN.{length}
use Rattle.digits.specs.Digits.{dotted_text}
use Rattle.digits.specs.Putting.{number_text, address_text, Fits}
use Rattle.digits.proofs.Putting.{first_fits, rest_fits, put_then}
use Rattle.digits.proofs.put.address.Reads as reads
use Rattle.digits.proofs.put.address.Lts as lts
use Rattle.digits.proofs.put.number.Reads as number-reads
use Rattle.digits.proofs.put.address.Goals as goal

-- the octets from the second, the third and the fourth on
abbrev fourth : ℕ → ℕ → List ℕ
fourth a mark = number_text (a % 256) mark

abbrev third : ℕ → ℕ → List ℕ
third a mark = number_text (a / 256 % 256) 46 ++ fourth a mark

abbrev second : ℕ → ℕ → List ℕ
second a mark = number_text (a / 65536 % 256) 46 ++ third a mark

octets : (a mark : ℕ) → address_text a mark ≡ number_text (a / 16777216) 46 ++ second a mark
unfolding dotted_text
octets a mark = simp append_assoc

pub number-b-requires : goal.number-b-requires
number-b-requires c =
    let fits : let s = c.args in
    Fits s.at (number_text (s.a / 16777216) 46 ++ second s.a s.mark) s.out.now = record { room = omega (arith, c.requires.room, ap length (octets c.args.a c.args.mark)) } in
    first_fits _ fits

pub number-c-requires : goal.number-c-requires
number-c-requires c =
    let fits : let s = c.args in
    Fits s.at (number_text (s.a / 16777216) 46 ++ second s.a s.mark) s.out.now = record { room = omega (arith, c.requires.room, ap length (octets c.args.a c.args.mark)) } in
    let fits_2 : Fits c.number-b.result (second c.args.a c.args.mark) c.number-b.new.out = rest_fits _ fits c.number-b.ensures in
    first_fits _ fits_2

pub number-d-requires : goal.number-d-requires
number-d-requires c =
    let fits : let s = c.args in
    Fits s.at (number_text (s.a / 16777216) 46 ++ second s.a s.mark) s.out.now = record { room = omega (arith, c.requires.room, ap length (octets c.args.a c.args.mark)) } in
    let fits_2 : Fits c.number-b.result (second c.args.a c.args.mark) c.number-b.new.out = rest_fits _ fits c.number-b.ensures in
    let fits_3 : let s = c.args in Fits c.number-c.result (third s.a s.mark) c.number-c.new.out = rest_fits _ fits_2 c.number-c.ensures in
    first_fits _ fits_3

pub number-requires : goal.number-requires
number-requires c =
    let fits : let s = c.args in
    Fits s.at (number_text (s.a / 16777216) 46 ++ second s.a s.mark) s.out.now = record { room = omega (arith, c.requires.room, ap length (octets c.args.a c.args.mark)) } in
    let fits_2 : Fits c.number-b.result (second c.args.a c.args.mark) c.number-b.new.out = rest_fits _ fits c.number-b.ensures in
    let fits_3 : let s = c.args in Fits c.number-c.result (third s.a s.mark) c.number-c.new.out = rest_fits _ fits_2 c.number-c.ensures in
    let fits_4 : let s = c.args in
    Fits c.number-d.result (fourth s.a s.mark) c.number-d.new.out = rest_fits _ fits_3 c.number-d.ensures in
    fits_4

pub returns : goal.returns
returns c =
    let fits : let s = c.args in
    Fits s.at (number_text (s.a / 16777216) 46 ++ second s.a s.mark) s.out.now = record { room = omega (arith, c.requires.room, ap length (octets c.args.a c.args.mark)) } in
    let fits_2 : Fits c.number-b.result (second c.args.a c.args.mark) c.number-b.new.out = rest_fits _ fits c.number-b.ensures in
    let fits_3 : let s = c.args in Fits c.number-c.result (third s.a s.mark) c.number-c.new.out = rest_fits _ fits_2 c.number-c.ensures in
    rw (octets c.args.a c.args.mark)
    (put_then _ fits c.number-b.ensures
    (put_then _ fits_2 c.number-c.ensures (put_then _ fits_3 c.number-d.ensures c.number.ensures)))
