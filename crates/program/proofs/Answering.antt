-- The program's import and build are never refused. A feed of at most 16,384 bytes has no more rows than that, so that the report is long
-- enough; the imported list is well-formed; and its at most 1,024 rows make at most 2,049 runs.
-- Assumes nothing.
use mathlib.Core.Path.{◌≡◌, refl, sym, ap, ◌∙◌}
use mathlib.Core.Bool.{true, false}
use mathlib.Core.List.{List}
use Prim.Native.Nat.{ℕ, ◌≤◌, ◌<◌}
use native.Mathlib.Omega.{arith}
use lib.ListN.{length, take}
use borrow.Author.Tests.{lt-ltb, le-ltb}
use Rattle.ground.specs.Numbers.{done}
use Rattle.ground.specs.Slots.{written}
use Rattle.ground.proofs.Numbers.{number_not_done}
use Rattle.ground.proofs.Slots.{length_written, take_written}
use Rattle.ground.proofs.Truth.{never_both}
use Rattle.routes.specs.Row.{Row, list_lent, rows_of, list_room}
use Rattle.routes.specs.Plain.{plain}
use Rattle.routes.specs.WellFormed.{well_formed, formed}
use Rattle.routes.proofs.Columns.{length_rows}
use Rattle.rows.proofs.Splitting.{rows_at_most}
use Rattle.feed.specs.declared.Counts.{Counts}
use Rattle.feed.specs.Counts.{counts_of}
use Rattle.feed.specs.Import.{ImportLent, row_numbers, import, import_gave}
use Rattle.feed.proofs.Outcome.{import_long}
use Rattle.feed.proofs.Settled.{gave_one}
use Rattle.feed.proofs.Promise.{left_is_imported, left_well_formed}
use Rattle.std.specs.Prelude.{Result, Ok, Err, IsOk}
use Rattle.ground.specs.declared.Refusal.{Refusal}
use Rattle.runs.specs.Table.{run_starts, run_hops}
use Rattle.runs.specs.Build.{BuildOutcome, slots_lent, built, build_gave, build, run_room}
use Rattle.runs.specs.Inside.Rows.{build_rows}
use Rattle.runs.proofs.Table.{table_of, runs_at_most}
use Rattle.routes.proofs.ListTest.{well_half}
use Rattle.runs.proofs.TableOutcomes.{build_well}
use Rattle.runs.proofs.WholeList.{in_keys, in_hops}
use Rattle.program.specs.Program.{bytes, longest_feed, program_room, program_text, program_gave, program}
use Rattle.digits.specs.Putting.{Put}
use Rattle.program.specs.Inside.Answering.{answer_text, Taken}
use Rattle.digits.proofs.Putting.{put_front}

-- an import of a feed that isn't too long into room for 1,024 rows
module _ (feed : List ℕ) (l : ImportLent) (short : length feed ≤ longest_feed) (report : length l.report ≡ longest_feed)
    (keys : length l.keys ≡ program_room) (hops : length l.hops ≡ program_room)
    (r : Result Counts Refusal) {keys' hops' report' : List ℕ} (g : import_gave r keys' hops' report' ≡ import feed l) where
  room_is : list_room l.keys l.hops ≡ program_room
  unfolding list_room
  room_is = rw (keys, hops)

  done_with : r ≡ Ok (counts_of (row_numbers (list_room l.keys l.hops) feed))
  done_with = (gave_one (g ∙ import_long feed l (omega (arith, rows_at_most feed)))).0

  pub import_done : IsOk r
  import_done = rw done_with refl

  pub import_taken : (c : Counts) → r ≡ Ok c → Taken feed c keys' hops'
  import_taken c e = record {
    counts = let same : Ok c ≡ Ok (counts_of (row_numbers program_room feed)) = sym e ∙ (done_with ∙ rw room_is) in cc;
    list = left_is_imported feed l g e ∙ rw room_is;
    well = left_well_formed feed l g e;
  }

-- the first n slots of two slices are a list's run table
pub record TableLeft (rows : List Row) (n : ℕ) (starts hops : List ℕ) : Type 0 where
  pub in_starts : n ≤ length starts
  pub in_hops : n ≤ length hops
  pub starts_are : take n starts ≡ run_starts rows
  pub hops_are : take n hops ≡ run_hops rows

-- a build that is done gave runs
done_gave_runs : (b : Result ℕ Refusal) (starts hops : List ℕ) → (build_gave b starts hops).number ≡ done → IsOk b
done_gave_runs (Ok n) starts hops e = refl
done_gave_runs (Err x) starts hops e = absurd (never_both (rw e) (number_not_done x))

-- a build of a well-formed list of at most 1,024 rows into room for 2,049 runs
module _ (count : ℕ) (keys hops starts rhops : List ℕ) (w : well_formed count keys hops ≡ true) (few : length keys ≡ program_room)
    (s : length starts ≡ 2049) (h : length rhops ≡ 2049) where
  abbrev rows : List Row
  rows = rows_of count keys hops

  runs_few : length (run_starts (rows_of count keys hops)) ≤ 2049
  runs_few =
      let half = well_half count keys hops w in
      let in-k = in_keys count keys hops half in
      omega (arith, runs_at_most rows, length_rows count keys hops in-k (in_hops count keys hops half))

  paired : length (run_hops (rows_of count keys hops)) ≡ length (run_starts (rows_of count keys hops))
  unfolding run_hops run_starts
  paired = (table_of (plain rows)).paired

  in_room : length (run_starts (rows_of count keys hops)) ≤ run_room starts rhops
  unfolding run_room
  in_room = rw (s, h) runs_few

  abbrev left : BuildOutcome
  left = built done (length (run_starts rows)) (written (run_starts rows) starts) (written (run_hops rows) rhops)

  build_done : build (list_lent count keys hops) (slots_lent starts rhops) ≡ left
  unfolding formed
  build_done =
      build_well false (list_lent count keys hops) (slots_lent starts rhops) w
      ∙ unfold build_rows in rw (le-ltb (run_room starts rhops) (length (run_starts rows)) in_room)

  module _ (b : Result ℕ Refusal) (starts' rhops' : List ℕ)
      (g : build_gave b starts' rhops' ≡ build (list_lent count keys hops) (slots_lent starts rhops)) where
    pub never_refused : IsOk b
    never_refused = done_gave_runs b starts' rhops' (ap (λ (o : BuildOutcome). o.number) (g ∙ build_done))

    pub table_left : {n : ℕ} → b ≡ Ok n → TableLeft (rows_of count keys hops) n starts' rhops'
    table_left {n} e = record {
      in_starts =
          let long = length_written (run_starts rows) starts (omega (arith, runs_few)) in
          omega (arith, count_is, ap length starts_left, runs_few);
      in_hops =
          let long = length_written (run_hops rows) rhops (omega (arith, runs_few, paired)) in
          omega (arith, count_is, ap length hops_left, runs_few);
      starts_are = ap (take n) starts_left ∙ take_written (run_starts rows) starts n count_is;
      hops_are = ap (take n) hops_left ∙ take_written (run_hops rows) rhops n (count_is ∙ sym paired);
    }
      where
        gave : built done n starts' rhops' ≡ left
        gave = sym (ap (λ x. build_gave x starts' rhops') e) ∙ g ∙ build_done

        count_is : n ≡ length (run_starts rows)
        count_is = ap (λ (o : BuildOutcome). o.runs) gave

        starts_left : starts' ≡ written (run_starts rows) starts
        starts_left = ap (λ (o : BuildOutcome). o.starts) gave

        hops_left : rhops' ≡ written (run_hops rows) rhops
        hops_left = ap (λ (o : BuildOutcome). o.hops) gave

same_outcome : {n n' : ℕ} {buffer buffer' : List ℕ} → n ≡ n' → buffer ≡ buffer' → program_gave n buffer ≡ program_gave n' buffer'
same_outcome e e' = cc

-- the program's text, by the length of the feed
module _ (feed : List ℕ) where
  pub long_program : longest_feed < length feed → program_text feed ≡ bytes "feed too long\n"
  unfolding program_text
  long_program l = rw (lt-ltb longest_feed (length feed) l)

  pub short_program : length feed ≤ longest_feed → program_text feed ≡ answer_text feed
  unfolding program_text
  short_program l = rw (le-ltb longest_feed (length feed) l)

  -- the text at the buffer's front is what is promised
  pub put_program : {text : List ℕ} {r : ℕ} {old new : List ℕ} → program_text feed ≡ text → Put 0 text r old new
      → program_gave r new ≡ program feed old
  unfolding program
  put_program e p = rw e (same_outcome (put_front p).bytes (put_front p).slots)
