-- Rule 3.7: the number of a row, each with its name.
-- A new row number is its constant, its line in `other_names`, its line in `refusals` if it is a reason to refuse, and its check in the
-- order of checks (`Reading`, `Import` of `feed`).
-- Assumes nothing.
use Rattle.std.specs.Prelude.{List, [], ◌∷◌, ℕ}
use Prim.Native.String.{String}

abbrev pub row_taken : ℕ
row_taken = 0

abbrev pub row_shape : ℕ
row_shape = 1

abbrev pub row_range : ℕ
row_range = 2

abbrev pub row_host_bits : ℕ
row_host_bits = 3

abbrev pub row_replaced : ℕ
row_replaced = 4

abbrev pub row_no_room : ℕ
row_no_room = 5

abbrev pub row_zeros : ℕ
row_zeros = 6

-- a row number and the name that the program writes for it
pub record NamedRow : Type 0 where
  pub number : ℕ
  pub name : String

abbrev pub named : ℕ → String → NamedRow
named n s = record { number = n; name = s }

-- the row numbers after taken, in the order of the program's lines
abbrev pub other_names : List NamedRow
other_names =
    named row_shape "shape"
    ∷ named row_zeros "zeros"
    ∷ named row_range "range"
    ∷ named row_host_bits "hostbits"
    ∷ named row_replaced "replaced"
    ∷ named row_no_room "noroom"
    ∷ []

-- every row number
abbrev pub row_names : List NamedRow
row_names = named row_taken "taken" ∷ other_names

-- the reasons to refuse a row: every row number but taken and replaced
abbrev pub refusals : List NamedRow
refusals =
    named row_shape "shape"
    ∷ named row_zeros "zeros"
    ∷ named row_range "range"
    ∷ named row_host_bits "hostbits"
    ∷ named row_no_room "noroom"
    ∷ []
