-- How many bytes a text has: an address's and a row's, by its numbers; and how many it has at the most.
-- Assumes nothing.
use mathlib.Core.Path.{◌≡◌}
use Prim.Native.Nat.{ℕ, ◌+◌, ◌/◌, ◌%◌, ◌≤◌, ◌<◌}
use native.Mathlib.Omega.{arith}
use lib.ListN.{length, length-append}
use Rattle.routes.specs.Row.{row}
use Rattle.digits.specs.Digits.{decimal, dotted_text, row_text}
use Rattle.digits.proofs.Decimal.{digits_at_most}

pub length_dotted : (a : ℕ) → length (dotted_text a)
    ≡ length (decimal (a / 16777216)) + length (decimal (a / 65536 % 256)) + length (decimal (a / 256 % 256))
    + length (decimal (a % 256)) + 3
unfolding dotted_text
length_dotted a = simp length-append (omega arith)

pub length_row : (key hop : ℕ) → length (row_text (row key hop))
    ≡ length (dotted_text (key / 64)) + length (decimal (key % 64)) + length (decimal hop) + 3
unfolding row_text
length_row key hop = simp length-append (omega arith)

-- a row has at most 25 bytes, as `255.255.255.255/32 65535` with its LF
pub dotted_at_most : (a : ℕ) → a < 4294967296 → length (dotted_text a) ≤ 15
dotted_at_most a l =
    omega (
      arith,
      length_dotted a,
      digits_at_most 2 (a / 16777216) (omega arith),
      digits_at_most 2 (a / 65536 % 256) (omega arith),
      digits_at_most 2 (a / 256 % 256) (omega arith),
      digits_at_most 2 (a % 256) (omega arith),
    )

pub row_at_most : (key hop : ℕ) → key / 64 < 4294967296 → hop < 65536 → length (row_text (row key hop)) ≤ 25
row_at_most key hop net h =
    omega (
      arith,
      length_row key hop,
      dotted_at_most (key / 64) net,
      digits_at_most 1 (key % 64) (omega arith),
      digits_at_most 4 hop (omega arith),
    )
