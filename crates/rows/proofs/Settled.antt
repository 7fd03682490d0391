-- A row's reading, a pull and a reader are settled: two outcomes that keep the promise for one input are the same.
-- Assumes nothing.
use mathlib.Core.Path.{◌≡◌, refl, sym, ap, ◌∙◌}
use mathlib.Core.Bool.{cond}
use mathlib.Core.List.{List}
use mathlib.Core.Option.{Option, none, some}
use Prim.Native.Nat.{ℕ}
use lib.Dec.{eqb}
use denote.Ref.{Bor}
use Rattle.std.specs.Prelude.{Result, Ok, Err, Some, None}
use Rattle.std.specs.Prelude as code
use Rattle.rows.specs.declared.Row.{Row}
use Rattle.rows.specs.declared.RowFault.{RowFault}
use Rattle.rows.specs.declared.RowFault.TheVariants.{Shape, Zeros, Range, HostBits}
use Rattle.rows.specs.declared.RowPulled.{RowPulled}
use Rattle.rows.specs.declared.Reader.{Reader}
use Rattle.rows.specs.RowNumber.{row_shape, row_zeros, row_range}
use Rattle.rows.specs.Reading.{Reading, good, bad, read_row, reading_of}
use Rattle.rows.specs.Pull.{pull, next_reading, pull_gave, PulledBy}

-- the answer that a reading came from
answer_of : Reading → Result Row RowFault
answer_of (good k h) = Ok (record { key = k; hop = h })
answer_of (bad n) = Err (cond (eqb n row_shape) Shape (cond (eqb n row_zeros) Zeros (cond (eqb n row_range) Range HostBits)))

answer_of_reading : (r : Result Row RowFault) → answer_of (reading_of r) ≡ r
unfolding answer_of
answer_of_reading (Ok r) = refl
answer_of_reading (Err Shape) = refl
answer_of_reading (Err Zeros) = refl
answer_of_reading (Err Range) = refl
answer_of_reading (Err HostBits) = refl

-- what one row says by itself
pub read_row_settled : (row : List ℕ) (r r' : Result Row RowFault) → reading_of r ≡ read_row row → reading_of r' ≡ read_row row → r ≡ r'
read_row_settled row r r' e e' = sym (answer_of_reading r) ∙ (ap answer_of (e ∙ sym e') ∙ answer_of_reading r')

-- what a pull finds, and its next place
next_of : Option Reading → code.Option (Result Row RowFault)
next_of none = None
next_of (some x) = Some (answer_of x)

next_of_reading : (r : code.Option (Result Row RowFault)) → next_of (next_reading r) ≡ r
unfolding next_of
next_of_reading (Some r) = ap Some (answer_of_reading r)
next_of_reading None = refl

abbrev pulled : code.Option (Result Row RowFault) → ℕ → RowPulled
pulled r n = record { row = r; next = n }

pub pull_settled : (feed : List ℕ) (at : ℕ) (r r' : RowPulled) → pull_gave r ≡ pull feed at → pull_gave r' ≡ pull feed at → r ≡ r'
pull_settled feed at r r' e e' =
    sym (ap (λ x. pulled x r.next) (next_of_reading r.row))
    ∙ (ap (λ p. pulled (next_of p.reading) p.next) (e ∙ sym e') ∙ ap (λ x. pulled x r'.next) (next_of_reading r'.row))

-- a reader, new and after a pull
abbrev reader : Bor (List ℕ) → ℕ → Reader
reader f n = record { feed = f; place = n }

same_reader : (r r' : Reader) → r.feed ≡ r'.feed → r.place ≡ r'.place → r ≡ r'
same_reader r r' e f = ap (λ x. reader x r.place) e ∙ ap (reader r'.feed) f

pub reader_new_settled : (feed : Bor (List ℕ)) (r r' : Reader)
    → (r.feed ≡ feed) × (r.place ≡ 0) → (r'.feed ≡ feed) × (r'.place ≡ 0) → r ≡ r'
reader_new_settled feed r r' e e' = same_reader r r' (e.0 ∙ sym e'.0) (e.1 ∙ sym e'.1)

pub reader_pull_settled : (was : Reader) (row row' : code.Option (Result Row RowFault)) (is is' : Reader)
    → PulledBy was row is → PulledBy was row' is' → (row ≡ row') × (is ≡ is')
reader_pull_settled was row row' is is' e e' =
    let same = pull_settled was.feed.now was.place (pulled row is.place) (pulled row' is'.place) e.gave e'.gave in
    (ap (λ p. p.row) same, same_reader is is' (e.same_feed ∙ sym e'.same_feed) (ap (λ p. p.next) same))
