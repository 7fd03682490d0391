-- Rule 3.7: the number of a row as the code has it.
-- Assumes nothing.
use Rattle.std.specs.Prelude.{◌≡◌, ℕ}
use Rattle.rows.specs.declared.RowFault.{RowFault}
use Rattle.rows.specs.RowNumber.{row_taken, row_shape, row_range, row_host_bits, row_replaced, row_no_room, row_zeros}
use Rattle.rows.specs.Reading.{number_of_fault}
use Rattle.feed.specs.declared.RowNumber.{RowNumber}
use Rattle.feed.specs.declared.RowNumber.TheVariants.{Taken, Shape, Range, HostBits, Replaced, NoRoomLeft, Zeros}

abbrev pub as_number : RowNumber → ℕ
as_number Taken = row_taken
as_number Shape = row_shape
as_number Range = row_range
as_number HostBits = row_host_bits
as_number Replaced = row_replaced
as_number NoRoomLeft = row_no_room
as_number Zeros = row_zeros

-- that a byte is the number
abbrev pub IsNumber : RowNumber → ℕ → Type 0
IsNumber number n = n ≡ as_number number

-- a row that is bad by itself has the number of its fault
abbrev pub IsFaultsNumber : RowFault → RowNumber → Type 0
IsFaultsNumber fault n = as_number n ≡ number_of_fault fault
