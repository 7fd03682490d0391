-- Bytes are put at a place one by one. A line is a name with a space after it and a number with an LF after it. The lines of one run more
-- are those of the runs before it with its own line behind them.
-- Assumes nothing.
use mathlib.Core.Path.{◌≡◌, refl, sym, ap, ◌∙◌}
use mathlib.Core.List.{List, [], ◌∷◌, ◌++◌, map, append_assoc, append-nil}
use Prim.Native.Nat.{ℕ, zero, suc, ◌+◌, ◌≤◌, ◌<◌, zero-le}
use native.Mathlib.Numerals.{add-one}
use native.Mathlib.Omega.{arith}
use lib.ListN.{length, get_or, take, drop, set, length-append, length-map, drop_of_length-le}
use Rattle.rows.specs.RowNumber.{NamedRow, named, row_names}
use Prim.Native.String.{String}
use denote.Ref.{Bor}
use denote.Enum.Declared.{tag_of}
use Rattle.std.proofs.lemmas.List.{get_or-map}
use Rattle.feed.specs.contracts.RowNumber.{the_type as number_type}
use Rattle.feed.specs.declared.RowNumber.{RowNumber}
use Rattle.feed.specs.declared.RowNumber.TheVariants.{Taken, Shape, Range, HostBits, Replaced, NoRoomLeft, Zeros}
use Rattle.feed.specs.RowNumber.{as_number}
use Rattle.feed.specs.declared.Counts.{Counts}
use Rattle.feed.specs.Counts.{rows_with}
use Rattle.digits.specs.Digits.{dotted_text}
use Rattle.program.specs.Program.{bytes, line_of, name_lines, count_lines, run_lines}
use Rattle.digits.specs.Putting.{number_text, Fits, Put}
use Rattle.digits.proofs.Putting.{first_fits, rest_fits, put_none, put_then, put_long, put_byte}

-- a name or an address with its space, and a number with its LF
line_parts : (name : List ℕ) (n : ℕ) → line_of name n ≡ (name ++ 32 ∷ []) ++ number_text n 10
unfolding line_of
line_parts name n = simp append_assoc

module _ (name : List ℕ) (n : ℕ) {at : ℕ} {old : List ℕ} (f : Fits at (line_of name n) old) where
  parts_fit : Fits at ((name ++ 32 ∷ []) ++ number_text n 10) old
  parts_fit = rw line_parts at f

  pub name_fits : Fits at (name ++ 32 ∷ []) old
  name_fits = first_fits (number_text n 10) parts_fit

  pub bare_fits : Fits at name old
  bare_fits = first_fits (32 ∷ []) name_fits

  pub put_space : {r : ℕ} {mid : List ℕ} → Put at name r old mid → (r < length mid) × Put at (name ++ 32 ∷ []) (r + 1) old (set mid r 32)
  put_space p =
      let room : at + length name < length old = omega (arith, name_fits.room, length-append name (32 ∷ [])) in
      (omega (arith, p.after, put_long p (omega arith)), put_byte p 32 room)

  module _ {r : ℕ} {mid : List ℕ} (p : Put at (name ++ 32 ∷ []) r old mid) where
    pub number_fits : Fits r (number_text n 10) mid
    number_fits = rest_fits (number_text n 10) parts_fit p

    pub put_line : {s : ℕ} {new : List ℕ} → Put r (number_text n 10) s mid new → Put at (line_of name n) s old new
    put_line q = rw line_parts (put_then (number_text n 10) parts_fit p q)

-- the lines of one run more
run_lines_next : (i : ℕ) (starts hops : List ℕ) → i < length starts → i < length hops
    → run_lines (take (suc i) starts) (take (suc i) hops)
    ≡ run_lines (take i starts) (take i hops) ++ line_of (dotted_text (get_or starts i 0)) (get_or hops i 0)
unfolding run_lines
run_lines_next i [] hops l k = absurd (omega arith)
run_lines_next i (a ∷ starts) [] l k = absurd (omega arith)
run_lines_next zero (a ∷ starts) (h ∷ hops) l k = append-nil _
run_lines_next (suc i) (a ∷ starts) (h ∷ hops) l k = rw (run_lines_next i starts hops (omega arith) (omega arith), append_assoc)

-- fewer runs have no longer lines
run_lines_grow : (i : ℕ) (starts hops : List ℕ) → length (run_lines (take i starts) (take i hops)) ≤ length (run_lines starts hops)
unfolding run_lines
run_lines_grow zero starts hops = zero-le
run_lines_grow (suc i) [] hops = zero-le
run_lines_grow (suc i) (a ∷ starts) [] = zero-le
run_lines_grow (suc i) (a ∷ starts) (h ∷ hops) = simp length-append (omega (arith, run_lines_grow i starts hops))

-- A turn of a walk over starts and hops side by side: the walk has the start and the hop at its place.
pub record Turn (starts hops : List ℕ) (i start hop : ℕ) : Type 0 where
  pub in_starts : i < length starts
  pub in_hops : i < length hops
  pub start_is : start ≡ get_or starts i 0
  pub hop_is : hop ≡ get_or hops i 0

pub at_turn : {starts hops : List ℕ} {i start hop : ℕ}
    → (i < length starts) × (i < length hops) × ((d : ℕ) → start ≡ get_or starts i d) × ((d : ℕ) → hop ≡ get_or hops i d)
    → Turn starts hops i start hop
at_turn t = record { in_starts = t.0; in_hops = t.1; start_is = t.2 0; hop_is = t.3 0 }

-- Where the lines of all runs have room, the line of run i does behind those of the runs before it, and makes the lines of one run more.
module _ (starts hops : List ℕ) {i start hop from at : ℕ} {old mid : List ℕ} (f : Fits from (run_lines starts hops) old)
    (t : Turn starts hops i start hop) (p : Put from (run_lines (take i starts) (take i hops)) at old mid) where
  abbrev text : List ℕ
  text = line_of (dotted_text start) hop

  next_lines : run_lines (take (suc i) starts) (take (suc i) hops) ≡ run_lines (take i starts) (take i hops) ++ text
  next_lines = rw (t.start_is, t.hop_is) (run_lines_next i starts hops t.in_starts t.in_hops)

  next_fits : Fits from (run_lines (take i starts) (take i hops) ++ text) old
  next_fits = record { room = omega (arith, f.room, ap length next_lines, run_lines_grow (suc i) starts hops) }

  pub run_fits : Fits at (line_of (dotted_text start) hop) mid
  run_fits = rest_fits text next_fits p

  pub put_run : {r : ℕ} {new : List ℕ} → Put at (line_of (dotted_text start) hop) r mid new
      → Put from (run_lines (take (i + 1) starts) (take (i + 1) hops)) r old new
  put_run q = rw (add-one, next_lines) (put_then text next_fits p q)

-- The lines of a table of row numbers: the first line has room where all have, the others behind it, and together they are all.
module _ (r : NamedRow) (rs : List NamedRow) (c : Counts) {at : ℕ} {old : List ℕ} (f : Fits at (name_lines (r ∷ rs) c) old) where
  pub first_name_fits : Fits at (line_of (bytes r.name) (rows_with r.number c)) old
  unfolding name_lines
  first_name_fits = first_fits (name_lines rs c) f

  module _ {s : ℕ} {mid : List ℕ} (p : Put at (line_of (bytes r.name) (rows_with r.number c)) s old mid) where
    pub rest_names_fit : Fits s (name_lines rs c) mid
    unfolding name_lines
    rest_names_fit = rest_fits (name_lines rs c) f p

    pub put_names : {t : ℕ} {new : List ℕ} → Put s (name_lines rs c) t mid new → Put at (name_lines (r ∷ rs) c) t old new
    unfolding name_lines
    put_names q = put_then (name_lines rs c) f p q

pub put_no_names : (c : Counts) (at : ℕ) (old : List ℕ) → Put at (name_lines [] c) at old old
unfolding name_lines
put_no_names c at old = put_none at old

-- Where the lines of the counts stand: the first i names have theirs, there is room for those of the others, and with these all are there.
pub record Naming (c : Counts) (from : ℕ) (old out : List ℕ) (at i : ℕ) : Type 0 where
  pub fits : Fits at (name_lines (drop i row_names) c) out
  pub goes_on : {s : ℕ} {new : List ℕ} → Put at (name_lines (drop i row_names) c) s out new → Put from (count_lines c) s old new

module _ (c : Counts) {from : ℕ} {old : List ℕ} (f : Fits from (count_lines c) old) where
  pub first_line_fits : Fits from (line_of (bytes "rows") c.rows) old
  unfolding count_lines
  first_line_fits = first_fits (name_lines row_names c) f

  pub naming_start : {at : ℕ} {out : List ℕ} → Put from (line_of (bytes "rows") c.rows) at old out → Naming c from old out at 0
  unfolding count_lines
  naming_start p = record { fits = rest_fits (name_lines row_names c) f p; goes_on = λ q. put_then (name_lines row_names c) f p q }

-- the name at a place of the table, and those behind it
names_left : (i : ℕ) → i < 7 → drop i row_names ≡ get_or row_names i (named 0 "") ∷ drop (i + 1) row_names
names_left zero l = refl
names_left (suc zero) l = refl
names_left (suc (suc zero)) l = refl
names_left (suc (suc (suc zero))) l = refl
names_left (suc (suc (suc (suc zero)))) l = refl
names_left (suc (suc (suc (suc (suc zero))))) l = refl
names_left (suc (suc (suc (suc (suc (suc zero)))))) l = refl
names_left (suc (suc (suc (suc (suc (suc (suc i))))))) l = absurd (omega arith)

-- a row number as the code has it in its bytes
tag_is : (n : RowNumber) → tag_of number_type n ≡ as_number n
tag_is Taken = refl
tag_is Shape = refl
tag_is Range = refl
tag_is HostBits = refl
tag_is Replaced = refl
tag_is NoRoomLeft = refl
tag_is Zeros = refl

-- a name and a number as the code's table has them, and as the table of names has them
abbrev pub coded : Bor (List ℕ) × RowNumber → List ℕ × ℕ
coded p = (p.0.now, as_number p.1)

abbrev pub tabled : NamedRow → List ℕ × ℕ
tabled r = (bytes r.name, r.number)

abbrev none_named : NamedRow
none_named = named 0 ""

-- the code's table, wherever its texts lie
abbrev entry : ℕ × ℕ → String → RowNumber → Bor (List ℕ) × RowNumber
entry p name n = (record { ref_ptr = p; now = bytes name }, n)

abbrev pub names_coded : (a b c d e f g : ℕ × ℕ) → List (Bor (List ℕ) × RowNumber)
names_coded a b c d e f g =
    entry a "taken" Taken
    ∷ entry b "shape" Shape
    ∷ entry c "zeros" Zeros
    ∷ entry d "range" Range
    ∷ entry e "hostbits" HostBits
    ∷ entry f "replaced" Replaced
    ∷ entry g "noroom" NoRoomLeft
    ∷ []

-- it says what the table of names does, name by name
module _ (ps : List (Bor (List ℕ) × RowNumber)) (same : map coded ps ≡ map tabled row_names) {i : ℕ} (l : i < 7)
    (d : Bor (List ℕ) × RowNumber) where
  same_there : coded (get_or ps i d) ≡ tabled (get_or row_names i none_named)
  same_there =
      let many : length ps ≡ 7 = sym (length-map ps coded) ∙ ap length same in
      sym (get_or-map coded ps i d ([], 0) (omega arith))
      ∙ (ap (λ xs. get_or xs i ([], 0)) same ∙ get_or-map tabled row_names i none_named ([], 0) l)

  module _ (c : Counts) where
    line_there : line_of (get_or ps i d).0.now (rows_with (tag_of number_type (get_or ps i d).1) c)
        ≡ line_of (bytes (get_or row_names i none_named).name) (rows_with (get_or row_names i none_named).number c)
    line_there = rw (tag_is (get_or ps i d).1) (ap (λ p. line_of p.0 (rows_with p.1 c)) same_there)

    module _ {from at : ℕ} {old out : List ℕ} (s : Naming c from old out at i) where
      left_fit : Fits at (name_lines (get_or row_names i none_named ∷ drop (i + 1) row_names) c) out
      left_fit = rw (names_left i l) at s.fits

      pub name_fits_next : Fits at (line_of (get_or ps i d).0.now (rows_with (tag_of number_type (get_or ps i d).1) c)) out
      name_fits_next = rw line_there (first_name_fits (get_or row_names i none_named) (drop (i + 1) row_names) c left_fit)

      pub naming_next : {r : ℕ} {new : List ℕ}
          → Put at (line_of (get_or ps i d).0.now (rows_with (tag_of number_type (get_or ps i d).1) c)) r out new
          → Naming c from old new r (i + 1)
      naming_next p =
          let q = rw line_there at p in
          record {
            fits = rest_names_fit (get_or row_names i none_named) (drop (i + 1) row_names) c left_fit q;
            goes_on = λ more. s.goes_on
                (rw (names_left i l) (put_names (get_or row_names i none_named) (drop (i + 1) row_names) c left_fit q more));
          }

pub naming_end : {c : Counts} {from at i : ℕ} {old out : List ℕ} → Naming c from old out at i → 7 ≤ i → Put from (count_lines c) at old out
naming_end {c} {from} {at} {i} {old} {out} s l =
    s.goes_on (rw drop_of_length-le (put_no_names c at out))
