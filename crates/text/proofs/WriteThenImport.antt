-- From the contracts alone: where a list was written, an import of the text that has room for its rows is done, takes every row, and leaves
-- the list.
-- Assumes nothing.
use mathlib.Core.Path.{◌≡◌, refl, sym, ap, ◌∙◌}
use mathlib.Core.Logic.{⊎_elim}
use mathlib.Core.Bool.{true, false, not}
use mathlib.Core.List.Memᴰ
use mathlib.Core.List.{List, [], ◌∷◌}
use Prim.Native.Nat.{ℕ, zero, suc, ◌≤◌, ◌<◌}
use native.Mathlib.Omega.{arith}
use lib.Dec.{leb}
use lib.ListN.{length, get_or, take, replicate, length-map}
use borrow.Author.Tests.{leb-true}
use Rattle.ground.specs.Numbers.{done, ill_formed}
use Rattle.ground.specs.Slots.{written}
use Rattle.ground.proofs.Numbers.{outcome_here, accepted_is}
use Rattle.ground.proofs.Truth.{decided, and_left, and_right}
use Rattle.ground.proofs.Slots.{take_written}
use Rattle.routes.specs.Row.{rows_of, list_room, ListLent, rows_lent}
use Rattle.routes.specs.WellFormed.{good_rows, well_formed}
use Rattle.routes.proofs.Columns.{length_rows}
use Rattle.rows.specs.Rows.{rows_in}
use Rattle.rows.specs.RowNumber.{row_taken}
use Rattle.std.specs.Prelude.{Result, Ok}
use Rattle.ground.specs.declared.Refusal.{Refusal}
use Rattle.feed.specs.declared.Counts.{Counts}
use Rattle.feed.specs.Counts.{counts_of, rows_with}
use Rattle.feed.specs.Import.{row_numbers, imported_list, ImportLent, import, import_gave}
use Rattle.feed.proofs.Importing.{imported_length}
use Rattle.feed.proofs.Outcome.{import_long}
use Rattle.feed.proofs.Promise.{rows_are_all_rows, left_is_imported, report_has_numbers}
use Rattle.feed.proofs.Settled.{gave_one}
use Rattle.text.specs.Text.{text_of, WriteOutcome, wrote, write_gave, write_checks, write}
use Rattle.text.proofs.Lines.{rows_of_text}
use Rattle.text.proofs.ReadBack.{HopsFit, text_all_taken, text_imported}

-- the rows of slots of 16 bits have hops of 16 bits
rows_fit : (n : ℕ) (keys hops : List ℕ) → ((i : ℕ) → get_or hops i 0 < 65536) → HopsFit (rows_of n keys hops)
unfolding rows_of
rows_fit zero keys hops fit r m = absurd (Memᴰ.not-nil m)
rows_fit (suc n) [] hops fit r m = absurd (Memᴰ.not-nil m)
rows_fit (suc n) (k ∷ keys) [] fit r m = absurd (Memᴰ.not-nil m)
rows_fit (suc n) (k ∷ keys) (h ∷ hops) fit r m =
    ⊎_elim (λ q. rw q (fit 0)) (rows_fit n keys hops (λ i. fit (suc i)) r) (Memᴰ.cases_cons m)

-- what an import of a list's text gives: it is done, every row is taken, the list is left, and the report has 0 for each row
pub record ReadBackIn (l : ListLent) (r : Result Counts Refusal) (keys hops report : List ℕ) : Type 0 where
  pub counts : Counts
  pub ended : r ≡ Ok counts
  pub rows : counts.rows ≡ l.count
  pub taken : rows_with row_taken counts ≡ l.count
  pub list : rows_of l.count keys hops ≡ rows_lent l
  pub numbers : take l.count report ≡ replicate l.count row_taken

-- a list that was written
module _ (l : ListLent) (buffer : List ℕ) {n : ℕ} {out : List ℕ} (w : write_gave (Ok n) out ≡ write l buffer) where
  abbrev text : List ℕ
  text = text_of (rows_lent l)

  abbrev number_of : WriteOutcome → ℕ
  number_of o = o.number

  accepted : write_gave (Ok n) out ≡ wrote done (length text) (written text buffer)
  unfolding write
  accepted = w ∙ accepted_is number_of (write_checks l buffer) _ _ (λ k. refl) (sym (ap number_of w))

  refused : well_formed l.count l.keys l.hops ≡ false → write l buffer ≡ wrote ill_formed 0 buffer
  unfolding write write_checks
  refused e = outcome_here 10 _ _ _ (ap not e)

  well : well_formed l.count l.keys l.hops ≡ true
  well = ⊎_elim (λ e. e) (λ e. absurd (omega (arith, ap number_of (w ∙ refused e)))) (decided _)

  text_is : take n out ≡ text
  text_is =
      ap (take n) (ap (λ (o : WriteOutcome). o.buffer) accepted)
      ∙ take_written text buffer n (ap (λ (o : WriteOutcome). o.length) accepted)

  rows_good : good_rows (rows_lent l) ≡ true
  unfolding well_formed
  rows_good = and_right (leb l.count (list_room l.keys l.hops)) _ well

  count_is : length (rows_lent l) ≡ l.count
  unfolding well_formed list_room
  count_is =
      let fits = leb-true l.count (list_room l.keys l.hops) (and_left _ (good_rows (rows_lent l)) well) in
      length_rows l.count l.keys l.hops (omega arith) (omega arith)

  -- its text, imported where there is room for its rows
  module _ (fit : (i : ℕ) → get_or l.hops i 0 < 65536) (t : ImportLent) (enough : l.count ≤ list_room t.keys t.hops)
      (all-reported : l.count ≤ length t.report) (r : Result Counts Refusal) {keys hops report : List ℕ}
      (g : import_gave r keys hops report ≡ import (take n out) t) where
    abbrev room : ℕ
    room = list_room t.keys t.hops

    fits : HopsFit (rows_lent l)
    fits = rows_fit l.count l.keys l.hops fit

    imported : imported_list room text ≡ rows_lent l
    imported = text_imported (rows_lent l) rows_good fits room (omega (arith, count_is))

    numbers : row_numbers room text ≡ replicate l.count row_taken
    numbers = text_all_taken (rows_lent l) rows_good fits room (omega (arith, count_is)) ∙ ap (λ k. replicate k row_taken) count_is

    all_rows_lem : length (rows_in text) ≡ l.count
    all_rows_lem = ap length (rows_of_text (rows_lent l)) ∙ simp length-map count_is

    gave : import_gave r keys hops report ≡ import text t
    gave = rw text_is at g

    abbrev counts : Counts
    counts = counts_of (row_numbers room text)

    ended : r ≡ Ok counts
    ended = (gave_one (gave ∙ import_long text t (omega (arith, all_rows_lem)))).0

    rows_are : counts.rows ≡ l.count
    rows_are = rows_are_all_rows text t gave ended ∙ all_rows_lem

    taken_are : rows_with row_taken counts ≡ l.count
    taken_are = sym (imported_length room text) ∙ ap length imported ∙ count_is

    pub write_then_import : ReadBackIn l r keys hops report
    write_then_import = record {
      counts = counts;
      ended = ended;
      rows = rows_are;
      taken = taken_are;
      list = ap (λ k. rows_of k keys hops) (sym taken_are) ∙ left_is_imported text t gave ended ∙ imported;
      numbers = ap (λ k. take k report) (sym rows_are) ∙ report_has_numbers text t gave ended ∙ numbers;
    }
