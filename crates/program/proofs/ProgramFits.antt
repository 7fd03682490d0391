-- What the program writes for a feed is never longer than 45,180 bytes. A count is at most the rows, and so at most the 16,384 bytes of the
-- feed: five digits, which with the eight names make 102 bytes. 1,024 rows make at most 2,049 runs, and a run's line has at most 22 bytes:
-- 15 for the start, 5 for the hop, a space and an LF.
-- Assumes nothing.
use mathlib.Core.Path.{◌≡◌, refl, ap}
use mathlib.Core.Bool.{Bool, true, false, cond}
use mathlib.Core.List.{List, [], ◌∷◌, ◌++◌}
use Prim.Native.Nat.{ℕ, suc, ◌+◌, ◌*◌, ◌≤◌, ◌<◌}
use native.Mathlib.Omega.{arith}
use lib.ListN.{length, get_or, drop, length-append}
use lib.Dec.{ltb}
use borrow.Author.Tests.{ltb-false}
use Rattle.ground.specs.Slots.{written}
use Rattle.ground.proofs.Map.{get_d_map}
use Rattle.cidr.specs.Prefix.{addresses}
use Rattle.routes.specs.Row.{Row}
use Rattle.routes.specs.Plain.{plain}
use Rattle.routes.proofs.Row.{Has}
use Rattle.routes.proofs.Plain.{plain_at_most}
use Rattle.rows.proofs.Splitting.{rows_at_most}
use Rattle.feed.specs.declared.Counts.{Counts}
use Rattle.feed.specs.Counts.{counts_of, rows_with}
use Rattle.feed.specs.Import.{row_numbers, imported_list}
use Rattle.feed.proofs.Counting.{counts_fit}
use Rattle.feed.proofs.Importing.{numbers_of_rows, imported_in_room, imported_hop_fits}
use Rattle.runs.specs.Table.{run_starts, run_hops, starts_of, run_hops_of}
use Rattle.runs.proofs.Table.{table_of, runs_at_most}
use Rattle.digits.specs.Digits.{decimal, dotted_text}
use Rattle.program.specs.Program.{bytes, longest_feed, program_room, line_of, name_lines, count_lines, run_lines, program_text}
use Rattle.program.specs.Program.{ProgramOutcome, program_gave, program}
use Rattle.digits.proofs.Decimal.{digits_at_most}
use Rattle.digits.proofs.Sizes.{dotted_at_most}

-- a line is its name, its number, a space and an LF
pub line_length : (name : List ℕ) (n : ℕ) → length (line_of name n) ≡ length name + length (decimal n) + 2
unfolding line_of
line_length name n = simp length-append (omega arith)

-- Counts of at most five digits: 46 bytes of names, and 7 for each of the eight lines.
module _ (c : Counts) (rows : c.rows ≤ longest_feed) (of : (n : ℕ) → rows_with n c ≤ c.rows) where
  count_line : (name : List ℕ) (n : ℕ) → n ≤ longest_feed → length (line_of name n) ≤ length name + 7
  count_line name n l = omega (arith, line_length name n, digits_at_most 4 n (omega arith))

  named_line : (name : List ℕ) (n : ℕ) → length (line_of name (rows_with n c)) ≤ length name + 7
  named_line name n = count_line name (rows_with n c) (omega (arith, of n))

  pub count_lines_at_most : length (count_lines c) ≤ 102
  unfolding count_lines name_lines
  count_lines_at_most =
      simp length-append (omega (
        arith,
        count_line (bytes "rows") c.rows rows,
        named_line (bytes "taken") 0,
        named_line (bytes "shape") 1,
        named_line (bytes "zeros") 6,
        named_line (bytes "range") 2,
        named_line (bytes "hostbits") 3,
        named_line (bytes "replaced") 4,
        named_line (bytes "noroom") 5,
      ))

-- at most 22 bytes a run
run_lines_at_most : (starts hops : List ℕ) → ((i : ℕ) → i < length starts → get_or starts i 0 < addresses)
    → ((i : ℕ) → i < length hops → get_or hops i 0 ≤ 65535) → length (run_lines starts hops) ≤ 22 * length starts
unfolding run_lines
run_lines_at_most [] hops s h = omega arith
run_lines_at_most (a ∷ starts) [] s h = omega arith
run_lines_at_most (a ∷ starts) (n ∷ hops) s h =
    let rest = run_lines_at_most starts hops (λ i l. s (suc i) (omega arith)) (λ i l. h (suc i) (omega arith)) in
    let start = dotted_at_most a (s 0 (omega arith)) in
    let hop = digits_at_most 4 n (omega (arith, h 0 (omega arith))) in
    simp length-append (omega (arith, line_length (dotted_text a) n))

-- the lines of a list's run table, where no hop of the list is above 65,535
module _ (rows : List Row) (hops : (r : Row) → Has r rows → r.hop ≤ 65535) where
  hop_fits : (i : ℕ) → i < length (run_hops rows) → get_or (run_hops rows) i 0 ≤ 65535
  unfolding run_hops run_hops_of
  hop_fits i l =
      let paired = (table_of (plain rows)).paired in
      rw (get_d_map (plain rows) (starts_of (plain rows)) i (omega arith)) (plain_at_most rows _ 65535 hops)

  pub table_lines_at_most : length (run_lines (run_starts rows) (run_hops rows)) ≤ 22 * (2 * length rows + 1)
  unfolding run_starts
  table_lines_at_most =
      omega (arith, run_lines_at_most (run_starts rows) (run_hops rows) (table_of (plain rows)).below hop_fits, runs_at_most rows)

module _ (feed : List ℕ) where
  abbrev list : List Row
  list = imported_list program_room feed

  abbrev counts : Counts
  counts = counts_of (row_numbers program_room feed)

  rows_few : length feed ≤ longest_feed → length (row_numbers program_room feed) ≤ longest_feed
  rows_few l = omega (arith, numbers_of_rows program_room feed, rows_at_most feed)

  pub answer_at_most : length feed ≤ longest_feed
      → length (count_lines counts ++ run_lines (run_starts list) (run_hops list)) ≤ 45180
  answer_at_most l =
      let few = rows_few l in
      let fit = counts_fit (row_numbers program_room feed) 0 (omega arith) (omega arith) in
      let front = count_lines_at_most counts (unfold counts_of in few) fit.in_rows in
      let table = table_lines_at_most list (λ r m. imported_hop_fits program_room feed r m) in
      omega (arith, length-append (count_lines counts) (run_lines (run_starts list) (run_hops list)), imported_in_room program_room feed)

  pub program_fits : length (program_text feed) ≤ 45180
  unfolding program_text
  program_fits = go (ltb longest_feed (length feed)) refl
    where
      go : (b : Bool) → ltb longest_feed (length feed) ≡ b
          → length (cond b (bytes "feed too long\n") (count_lines counts ++ run_lines (run_starts list) (run_hops list))) ≤ 45180
      go true e = omega arith
      go false e = answer_at_most (ltb-false longest_feed (length feed) e)

  -- a caller of `program_text` may take as many bytes of the buffer as it returned
  pub program_within : (n : ℕ) (out buffer : List ℕ) → program_gave n out ≡ program feed buffer → n ≤ length out
  unfolding program written
  program_within n out buffer e =
      let count = ap (λ (o : ProgramOutcome). o.length) e in
      let left = ap (λ (o : ProgramOutcome). length o.buffer) e in
      omega (arith, length-append (program_text feed) (drop (length (program_text feed)) buffer))
