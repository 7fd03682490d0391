-- What an import promises its callers, from its contract alone. Where it is done: rows in = rows taken + rows replaced + rows refused,
-- reason by reason; the rows are the feed's; the list it leaves is well-formed and has exactly the prefixes of the taken rows, each with
-- the hop of its last row that was taken or replaced another; the report has the rows' numbers; and what lies past these is unchanged.
-- Where it is refused: the report is shorter than the number of rows, and all lent memory is as at entry.
-- Assumes nothing.
use mathlib.Core.Path.{◌≡◌, sym, ap, ◌∙◌}
use mathlib.Core.Bool.{true}
use mathlib.Core.List.{List, []}
use Prim.Native.Nat.{ℕ, ◌+◌, ◌≤◌, ◌<◌, min}
use native.Mathlib.Nat.{add-zero}
use native.Mathlib.Omega.{arith}
use lib.Dec.{leb}
use lib.ListN.{length, take, drop, length-map}
use lib.Seq.{take_at, drop_at}
use borrow.Author.Tests.{le-leb}
use Rattle.std.specs.Prelude.{Result, Ok, Err}
use Rattle.ground.specs.declared.Refusal.{Refusal}
use Rattle.ground.specs.declared.Refusal.TheVariants.{ReportShort}
use Rattle.ground.specs.Numbers.{report_short}
use Rattle.ground.specs.Slots.{written}
use Rattle.ground.proofs.Truth.{and_both}
use Rattle.routes.specs.Row.{rows_of, keys_of, hops_of, list_room}
use Rattle.routes.specs.WellFormed.{well_formed, good_rows}
use Rattle.routes.specs.Change.{listed}
use Rattle.routes.proofs.WellFormed.{parts_good}
use Rattle.routes.proofs.Columns.{rows_of_columns}
use Rattle.rows.specs.Rows.{rows_in}
use Rattle.rows.specs.RowNumber.{row_taken, row_shape, row_zeros, row_range, row_host_bits, row_replaced, row_no_room}
use Rattle.rows.specs.RowNumber.{refusals}
use Rattle.feed.specs.declared.Counts.{Counts}
use Rattle.feed.specs.Counts.{counts_of, no_counts, rows_with, rows_named}
use Rattle.feed.specs.Import.{row_numbers, imported_list, ImportLent, import_refused, import_accepted, import, end_number, import_gave}
use Rattle.feed.specs.LastRow.{last_hop, hop_listed}
use Rattle.ground.proofs.Slots.{length_written}
use Rattle.feed.proofs.Importing.{rows_taken_replaced_refused, numbers_of_rows, imported_good, imported_length, imported_in_room}
use Rattle.feed.proofs.Importing.{TakenFrom, listed_is_taken, taken_is_listed}
use Rattle.feed.proofs.LastRow.{last_row_wins}
use Rattle.feed.proofs.Outcome.{import_short, done_is_accepted, refused_is_short}

-- past what is written a slice is as it was
past : (new old : List ℕ) (n : ℕ) → n ≡ length new → drop n (written new old) ≡ drop n old
unfolding written
past new old n e = drop_at new _ n (sym e) ∙ ap (λ k. drop k old) (sym e)

-- an import that was done
module _ (feed : List ℕ) (l : ImportLent) {r : Result Counts Refusal} {c : Counts} {keys hops report : List ℕ}
    (g : import_gave r keys hops report ≡ import feed l) (ended : r ≡ Ok c) where
  abbrev room : ℕ
  room = list_room l.keys l.hops

  abbrev taken : ℕ
  taken = rows_with row_taken c

  gave : import_gave (Ok c) keys hops report ≡ import feed l
  gave = rw ended at g

  accepted : import_gave (Ok c) keys hops report ≡ import_accepted room feed l
  accepted = gave ∙ done_is_accepted feed l (sym (ap (λ o. o.number) gave))

  counts_are : c ≡ counts_of (row_numbers room feed)
  counts_are = ap (λ o. o.counts) accepted

  keys_are : keys ≡ written (keys_of (imported_list room feed)) l.keys
  keys_are = ap (λ o. o.keys) accepted

  hops_are : hops ≡ written (hops_of (imported_list room feed)) l.hops
  hops_are = ap (λ o. o.hops) accepted

  report_is : report ≡ written (row_numbers room feed) l.report
  report_is = ap (λ o. o.report) accepted

  -- demand 1: rows in are rows taken, rows replaced and rows refused, reason by reason
  pub rows_are_taken_replaced_refused : c.rows
      ≡ rows_with row_taken c
      + (rows_with row_replaced c
      + (rows_with row_shape c + (rows_with row_zeros c + (rows_with row_range c + (rows_with row_host_bits c + rows_with row_no_room c)))))
  unfolding rows_named
  rows_are_taken_replaced_refused = summed ∙ rw add-zero
    where
      summed : c.rows ≡ rows_with row_taken c + (rows_with row_replaced c + rows_named refusals c)
      summed = rw counts_are (rows_taken_replaced_refused room feed)

  numbers_are : c.rows ≡ length (row_numbers room feed)
  unfolding counts_of
  numbers_are = ap (λ k. k.rows) counts_are

  -- every row of the feed is counted, and no other
  pub rows_are_all_rows : c.rows ≡ length (rows_in feed)
  rows_are_all_rows = numbers_are ∙ numbers_of_rows room feed

  taken_are : taken ≡ length (imported_list room feed)
  taken_are = ap (rows_with row_taken) counts_are ∙ sym (imported_length room feed)

  -- the list that is left
  pub left_is_imported : rows_of taken keys hops ≡ imported_list (list_room l.keys l.hops) feed
  unfolding written
  left_is_imported = rw (taken_are, keys_are, hops_are) (rows_of_columns (imported_list room feed) _ _)

  taken_in_room : taken ≤ room
  taken_in_room = omega (arith, taken_are, imported_in_room room feed)

  -- both slices are as long as they were, so the room is the same
  same_room : list_room keys hops ≡ room
  unfolding list_room
  same_room =
      let list = imported_list room feed in
      let fits : length list ≤ min (min (length l.keys) (length l.hops)) 1048576 = imported_in_room room feed in
      rw (
        keys_are,
        hops_are,
        length_written (keys_of list) l.keys (simp length-map (omega arith)),
        length_written (hops_of list) l.hops (simp length-map (omega arith)),
      )

  pub left_well_formed : well_formed taken keys hops ≡ true
  unfolding well_formed
  left_well_formed =
      and_both (ap (leb taken) same_room ∙ le-leb taken room taken_in_room)
      (ap good_rows left_is_imported ∙ parts_good _ (imported_good room feed))

  -- the list has exactly the prefixes of the rows of the feed that were taken
  pub left_prefix_taken : (k : ℕ) → listed k (rows_of taken keys hops) ≡ true
      → TakenFrom (list_room l.keys l.hops) [] (rows_in feed) k
  unfolding imported_list
  left_prefix_taken k e = listed_is_taken room k (rows_in feed) (rw left_is_imported at e)

  pub taken_prefix_left : (k : ℕ) → TakenFrom (list_room l.keys l.hops) [] (rows_in feed) k
      → listed k (rows_of taken keys hops) ≡ true
  unfolding imported_list
  taken_prefix_left k t = rw left_is_imported (taken_is_listed room k (rows_in feed) t)

  -- the report has each row's number; bytes past the rows and slots past the taken count stay unchanged
  pub report_has_numbers : take c.rows report ≡ row_numbers (list_room l.keys l.hops) feed
  unfolding written
  report_has_numbers = ap (take c.rows) report_is ∙ take_at (row_numbers room feed) _ c.rows (sym numbers_are)

  -- the list has for each prefix the hop of its last row that the report numbers 0 or 4
  pub left_hop_is_last : (k : ℕ) → hop_listed k (rows_of taken keys hops) ≡ last_hop k (take c.rows report) (rows_in feed)
  left_hop_is_last k = rw (left_is_imported, report_has_numbers) (last_row_wins room feed k)

  pub report_past_rows : drop c.rows report ≡ drop c.rows l.report
  report_past_rows = rw report_is (past (row_numbers room feed) l.report c.rows numbers_are)

  pub keys_past_taken : drop taken keys ≡ drop taken l.keys
  keys_past_taken = rw keys_are (past (keys_of (imported_list room feed)) l.keys taken (simp length-map taken_are))

  pub hops_past_taken : drop taken hops ≡ drop taken l.hops
  hops_past_taken = rw hops_are (past (hops_of (imported_list room feed)) l.hops taken (simp length-map taken_are))

-- an import that was refused
module _ (feed : List ℕ) (l : ImportLent) {r : Result Counts Refusal} {keys hops report : List ℕ}
    (g : import_gave r keys hops report ≡ import feed l) (ended : r ≡ Err ReportShort) where
  -- 12 is given only where the report is shorter than the number of rows
  pub report_is_short : length l.report < length (rows_in feed)
  report_is_short = refused_is_short feed l (sym (ap (λ o. o.number) g) ∙ ap end_number ended)

  refused : import_gave r keys hops report ≡ import_refused l report_short
  refused = g ∙ import_short feed l report_is_short

  -- every count is 0
  pub counts_are_none : (import_gave r keys hops report).counts ≡ no_counts
  counts_are_none = ap (λ o. o.counts) refused

  -- all lent memory is as at entry
  pub all_as_at_entry : (keys ≡ l.keys) × (hops ≡ l.hops) × (report ≡ l.report)
  all_as_at_entry = (ap (λ o. o.keys) refused, ap (λ o. o.hops) refused, ap (λ o. o.report) refused)
