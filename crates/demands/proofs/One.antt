-- Demand 1: any feed, list, table or address may be handed to any entry. A refused call says which fault it met first, by number, and
-- changes no lent memory. Import carries on past a bad row: every row gets its number, and rows in = rows taken + rows replaced + rows
-- refused, reason by reason. Each answer here is any that keeps its entry's contract. An entry of the library that isn't here refuses
-- nothing; the exports give the same outcomes (c_answers and host, `Exports`; c_structs, `Structs`), but that run lookups are also lent
-- memory for the last address, a number over slices and bytes over run bytes, and these two have fields here.
-- Its definitions: `first_fault`, `check_order` (ground, `Numbers`), and of each entry its outcome, its checks and its `Gave`.
-- Assumes nothing.
use mathlib.Core.Path.{◌≡◌, refl, sym, ap, ◌∙◌}
use mathlib.Core.Bool.{Bool, true, false, cond}
use mathlib.Core.List.{List}
use mathlib.Core.Option.{none}
use Prim.Native.Nat.{ℕ, ◌+◌, ◌*◌, ◌/◌, ◌<◌}
use native.Mathlib.Omega.{arith}
use lib.ListN.{length, get_or, take}
use lib.Dec.{eqb}
use borrow.Author.Tests.{ne_eqb}
use Rattle.std.specs.Prelude as code
use Rattle.std.specs.Prelude.{Result, Ok, Err}
use Rattle.ground.specs.declared.Refusal.{Refusal}
use Rattle.ground.specs.declared.Refusal.TheVariants.{ReportShort}
use Rattle.ground.specs.Numbers.{first_fault, outcome, done}
use Rattle.ground.proofs.Truth.{cond_false}
use Rattle.ground.proofs.Numbers.{outcome_refused, one_number}
use Rattle.routes.specs.Row.{ListLent, list_room}
use Rattle.routes.specs.Lookup.{looked_up, LookupOutcome, lookup_gave, plain_lookup, lookup_checks, half_lookup, half_checks}
use Rattle.rows.specs.Rows.{rows_in}
use Rattle.rows.specs.RowNumber.{row_taken, row_shape, row_zeros, row_range, row_host_bits, row_replaced, row_no_room}
use Rattle.feed.specs.declared.Counts.{Counts}
use Rattle.feed.specs.Counts.{rows_with}
use Rattle.feed.specs.Import.{ImportLent, ImportOutcome, import_gave, import, import_checks, import_refused, row_numbers, end_number, TallyGave}
use Rattle.feed.proofs.Promise.{rows_are_taken_replaced_refused, rows_are_all_rows, report_has_numbers}
use Rattle.feed.proofs.TallyPromise.{done_as_import, tally_untouched}
use Rattle.feed.proofs.Outcome.{not_done_is_refused}
use Rattle.lookup.specs.declared.Probed.{Probed}
use Rattle.lookup.specs.declared.Held.{Held}
use Rattle.runs.specs.Table.{RunsLent}
use Rattle.runs.specs.Build.{SlotsLent, BuildOutcome, built, build_gave, build_of, build_checks}
use Rattle.lookup.specs.Bytes.{hop_at}
use Rattle.lookup.specs.Lookup.{RunLookupOutcome, probed, run_lookup_gave, run_lookup, run_checks}
use Rattle.lookup.specs.Lookup.{BytesLookupOutcome, held, bytes_lookup_gave, bytes_lookup, bytes_checks}
use Rattle.runs.specs.Pair.{Pair, pair_gave, pair_check, pair_checks}
use Rattle.text.specs.Text.{WriteOutcome, wrote, write_gave, write, write_checks}
use Rattle.why.specs.declared.Reason.{Reason}
use Rattle.why.specs.Why.{WhyOutcome, told, why_gave, why, why_checks}
use Rattle.why.specs.Text.{why_text, why_text_checks}
use Rattle.segment.specs.declared.Packed.{Packed}
use Rattle.segment.specs.Pack.{PackLent, PackOutcome, pack_refused, pack_gave, pack, pack_checks}
use Rattle.packed.specs.Lookup.{SegmentLent, packed_gave, packed_lookup, packed_checks}
use Rattle.edit.specs.declared.Edit.{Edit}
use Rattle.edit.specs.Edit.{Edited, edit_refused, edit_gave, announce, announce_checks, withdraw, withdraw_checks}
use Rattle.split.specs.Split.{SplitLent, SplitOutcome, split_into, split_gave, split, split_checks}
use Rattle.c_answers.specs.Exports.{lookup_for_c, run_lookup_for_c, probed_gave_c, probed_for_c}
use Rattle.host.specs.Exports.{HeldForC, held_gave_c, held_for_c, held_checks}
use Rattle.demands.proofs.Orders.{InOrder, orders}
use Rattle.demands.proofs.First.{First, first_of}

-- the number of what a lookup over a list or a segment gives
abbrev looked : LookupOutcome → ℕ
looked o = o.number

-- an import with a lent tally: its first fault as of any call, and on a refusal the three slices and the tally as they were
pub record TallyFirst (feed : List ℕ) (l : ImportLent) (tally : Counts) (number : ℕ) (keys hops report : List ℕ) (left : Counts) : Type 0 where
  pub names_first : number ≡ first_fault (import_checks feed l)
  pub in_order : InOrder (import_checks feed l)
  pub leaves_all : (number ≡ done → ⊥) → (keys ≡ l.keys) × (hops ≡ l.hops) × (report ≡ l.report) × (left ≡ tally)

import_first : (feed : List ℕ) (l : ImportLent) → First (λ (o : ImportOutcome). o.number) (import_checks feed l) (import_refused l) (import feed l)
unfolding import
import_first feed l = first_of (λ (o : ImportOutcome). o.number) _ _ _ (λ n. refl) refl (orders.imports feed l) _ refl

tally_first : (feed : List ℕ) (l : ImportLent) (tally : Counts) (r : Result (Unit {0}) Refusal) (keys hops report : List ℕ) (left : Counts)
    → TallyGave feed l tally r keys hops report left → TallyFirst feed l tally (end_number r) keys hops report left
tally_first feed l tally r keys hops report left g = record {
  names_first = g.number ∙ (import_first feed l).names_first;
  in_order = orders.imports feed l;
  leaves_all = λ fault.
      let is = (import_first feed l).leaves_all (λ z. fault (g.number ∙ z)) in (
        g.keys_left ∙ ap (λ (o : ImportOutcome). o.keys) is,
        g.hops_left ∙ ap (λ (o : ImportOutcome). o.hops) is,
        g.report_left ∙ ap (λ (o : ImportOutcome). o.report) is,
        tally_untouched feed l tally g (short r g.number fault),
      );
}
  where
    short : (r : Result (Unit {0}) Refusal) → end_number r ≡ (import feed l).number → (end_number r ≡ done → ⊥) → r ≡ Err ReportShort
    short (Ok u) is fault = absurd (fault refl)
    short (Err e) is fault =
        ap Err (one_number e ReportShort (is ∙ ap (λ (o : ImportOutcome). o.number) (not_done_is_refused feed l (λ z. fault (is ∙ z)))))

-- a hop in run bytes is a number of two bytes, so C finds the number above it
module _ (bytes : List ℕ) (a : ℕ) (small : (i : ℕ) → get_or bytes i 0 < 256) where
  hop_below : (bytes_lookup bytes a).hop < 65536
  unfolding bytes_lookup outcome hop_at
  hop_below = go (eqb (first_fault (bytes_checks bytes)) done) _ _ _ _ (small _) (small _)
    where
      go : (b : Bool) (x y last number : ℕ) → x < 256 → y < 256 → (cond b (held done (x * 256 + y) last) (held number 0 0)).hop < 65536
      go true x y last number l m = omega arith
      go false x y last number l m = omega arith

  held_first : (last : List ℕ) (r : ℕ) (left : List ℕ) → held_gave_c r left ≡ held_for_c bytes a last
      → First (λ (o : HeldForC). o.answer / 65536) (held_checks bytes last) (λ n. held_gave_c (lookup_for_c (looked_up n 0)) last)
      (held_gave_c r left)
  unfolding held_for_c lookup_for_c
  held_first last r left =
      first_of (λ (o : HeldForC). o.answer / 65536) _ _ _ (λ n. omega arith) (omega (arith, hop_below)) (orders.held bytes last)
      (held_gave_c r left)

-- a run lookup over slices that is refused: what C gets, and the lent number as it was
probed_left : (t : RunsLent) (a last r left : ℕ) → probed_gave_c r left ≡ probed_for_c (run_lookup t a) last
    → (first_fault (run_checks t) ≡ done → ⊥)
    → probed_gave_c r left ≡ probed_gave_c (run_lookup_for_c (probed (first_fault (run_checks t)) 0 0 0)) last
unfolding probed_for_c run_lookup
probed_left t a last r left e fault =
    let n = first_fault (run_checks t) in
    e
    ∙ rw (outcome_refused (run_checks t) (λ m. probed m 0 0 0) _ n refl fault)
    (ap (probed_gave_c (run_lookup_for_c (probed n 0 0 0))) (cond_false _ _ (ne_eqb n done fault)))

pub record One : Type 0 where
  pub plain_lookup_lem : (l : ListLent) (a : ℕ) (r : Result ℕ Refusal) → lookup_gave r ≡ plain_lookup l a
      → First looked (lookup_checks l) (λ n. looked_up n 0) (lookup_gave r)
  pub half_lookup_lem : (l : ListLent) (a : ℕ) (r : Result ℕ Refusal) → lookup_gave r ≡ half_lookup l a
      → First looked (half_checks l) (λ n. looked_up n 0) (lookup_gave r)
  pub imports : (feed : List ℕ) (l : ImportLent) (r : Result Counts Refusal) (keys hops report : List ℕ) → import_gave r keys hops report ≡ import feed l
      → First (λ o. o.number) (import_checks feed l) (import_refused l) (import_gave r keys hops report)
  pub tally : (feed : List ℕ) (l : ImportLent) (tally : Counts) (r : Result (Unit {0}) Refusal) (keys hops report : List ℕ) (left : Counts)
      → TallyGave feed l tally r keys hops report left → TallyFirst feed l tally (end_number r) keys hops report left
  pub builds : (half : Bool) (l : ListLent) (s : SlotsLent) (r : Result ℕ Refusal) (starts hops : List ℕ) → build_gave r starts hops ≡ build_of half l s
      → First (λ o. o.number) (build_checks half l s) (λ n. built n 0 s.starts s.hops) (build_gave r starts hops)
  pub pair_check_lem : (p : Pair) (r : Result (Unit {0}) Refusal) → pair_gave r ≡ pair_check p → (pair_gave r ≡ first_fault (pair_checks p)) × InOrder (pair_checks p)
  pub run_lookup_lem : (t : RunsLent) (a : ℕ) (r : Result Probed Refusal) → run_lookup_gave r ≡ run_lookup t a
      → First (λ o. o.number) (run_checks t) (λ n. probed n 0 0 0) (run_lookup_gave r)
  pub bytes_lookup_lem : (bytes : List ℕ) (a : ℕ) (r : Result Held Refusal) → bytes_lookup_gave r ≡ bytes_lookup bytes a
      → First (λ o. o.number) (bytes_checks bytes) (λ n. held n 0 0) (bytes_lookup_gave r)
  pub bytes_lookup_for_c : (bytes : List ℕ) (a : ℕ) → ((i : ℕ) → get_or bytes i 0 < 256) → (last : List ℕ) (r : ℕ) (left : List ℕ)
      → held_gave_c r left ≡ held_for_c bytes a last
      → First (λ o. o.answer / 65536) (held_checks bytes last) (λ n. held_gave_c (lookup_for_c (looked_up n 0)) last) (held_gave_c r left)
  pub run_lookup_for_c_lem : (t : RunsLent) (a last r left : ℕ) → probed_gave_c r left ≡ probed_for_c (run_lookup t a) last
      → (first_fault (run_checks t) ≡ done → ⊥)
      → probed_gave_c r left ≡ probed_gave_c (run_lookup_for_c (probed (first_fault (run_checks t)) 0 0 0)) last
  pub packs : (q : ℕ) (p : Pair) (l : PackLent) (r : Result Packed Refusal) (words bases hops : List ℕ) → pack_gave r words bases hops ≡ pack q p l
      → First (λ o. o.number) (pack_checks q p l) (pack_refused l) (pack_gave r words bases hops)
  pub packed_lookup_lem : (s : SegmentLent) (a : ℕ) (r : Result ℕ Refusal) → packed_gave r ≡ packed_lookup s a
      → First looked (packed_checks s a) (λ n. looked_up n 0) (packed_gave r)
  pub announces : (net len hop : ℕ) (p : Pair) (r : Result Edit Refusal) (keys hops starts rhops : List ℕ)
      → edit_gave r keys hops starts rhops ≡ announce net len hop p
      → First (λ o. o.number) (announce_checks net len hop p) (edit_refused p) (edit_gave r keys hops starts rhops)
  pub withdraws : (net len : ℕ) (p : Pair) (r : Result Edit Refusal) (keys hops starts rhops : List ℕ)
      → edit_gave r keys hops starts rhops ≡ withdraw net len p
      → First (λ o. o.number) (withdraw_checks net len p) (edit_refused p) (edit_gave r keys hops starts rhops)
  pub splits : (k : ℕ) (l : ListLent) (out : SplitLent) (r : Result ℕ Refusal) (keys labels : List ℕ) → split_gave r keys labels ≡ split k l out
      → First (λ o. o.number) (split_checks k l out) (λ n. split_into n 0 out.keys out.labels) (split_gave r keys labels)
  pub writes : (l : ListLent) (buffer : List ℕ) (r : Result ℕ Refusal) (out : List ℕ) → write_gave r out ≡ write l buffer
      → First (λ o. o.number) (write_checks l buffer) (λ n. wrote n 0 buffer) (write_gave r out)
  pub whys : (l : ListLent) (a : ℕ) (places : List ℕ) (r : Result (code.Option Reason) Refusal) (left : List ℕ) → why_gave r left ≡ why l a places
      → First (λ o. o.number) (why_checks l a places) (λ n. told n 0 none places) (why_gave r left)
  pub why_texts : (l : ListLent) (a : ℕ) (buffer : List ℕ) (r : Result ℕ Refusal) (out : List ℕ) → write_gave r out ≡ why_text l a buffer
      → First (λ o. o.number) (why_text_checks l a buffer) (λ n. wrote n 0 buffer) (write_gave r out)

pub refusals : One
unfolding plain_lookup half_lookup import build_of pair_check run_lookup bytes_lookup pack packed_lookup announce withdraw split write why why_text
refusals = record {
  plain_lookup_lem = λ l a r. first_of looked _ _ _ (λ n. refl) refl (orders.lookup l) (lookup_gave r);
  half_lookup_lem = λ l a r. first_of looked _ _ _ (λ n. refl) refl (orders.half l) (lookup_gave r);
  imports = λ feed l r keys hops report.
      first_of (λ (o : ImportOutcome). o.number) _ _ _ (λ n. refl) refl (orders.imports feed l) (import_gave r keys hops report);
  tally = tally_first;
  builds = λ half l s r starts hops.
      first_of (λ (o : BuildOutcome). o.number) _ _ _ (λ n. refl) refl (orders.build half l s) (build_gave r starts hops);
  pair_check_lem = λ p r e. (e, orders.pair p);
  run_lookup_lem = λ t a r. first_of (λ (o : RunLookupOutcome). o.number) _ _ _ (λ n. refl) refl (orders.run t) (run_lookup_gave r);
  bytes_lookup_lem = λ bytes a r.
      first_of (λ (o : BytesLookupOutcome). o.number) _ _ _ (λ n. refl) refl (orders.in_bytes bytes) (bytes_lookup_gave r);
  bytes_lookup_for_c = held_first;
  run_lookup_for_c_lem = probed_left;
  packs = λ q p l r words bases hops.
      first_of (λ (o : PackOutcome). o.number) _ _ _ (λ n. refl) refl (orders.pack q p l) (pack_gave r words bases hops);
  packed_lookup_lem = λ s a r. first_of looked _ _ _ (λ n. refl) refl (orders.packed s a) (packed_gave r);
  announces = λ net len hop p r keys hops starts rhops.
      first_of (λ (o : Edited). o.number) _ _ _ (λ n. refl) refl (orders.announce net len hop p) (edit_gave r keys hops starts rhops);
  withdraws = λ net len p r keys hops starts rhops.
      first_of (λ (o : Edited). o.number) _ _ _ (λ n. refl) refl (orders.withdraw net len p) (edit_gave r keys hops starts rhops);
  splits = λ k l out r keys labels.
      first_of (λ (o : SplitOutcome). o.number) _ _ _ (λ n. refl) refl (orders.split k l out) (split_gave r keys labels);
  writes = λ l buffer r out. first_of (λ (o : WriteOutcome). o.number) _ _ _ (λ n. refl) refl (orders.write l buffer) (write_gave r out);
  whys = λ l a places r left.
      first_of (λ (o : WhyOutcome). o.number) _ _ _ (λ n. refl) refl (orders.why l a places) (why_gave r left);
  why_texts = λ l a buffer r out.
      first_of (λ (o : WriteOutcome). o.number) _ _ _ (λ n. refl) refl (orders.why_text l a buffer) (write_gave r out);
}

-- an import that is done: every row of the feed is counted, as taken, as replaced or under one reason, and has its number in the
-- report
pub record EveryRow (feed : List ℕ) (l : ImportLent) (c : Counts) (report : List ℕ) : Type 0 where
  pub all_rows_lem : c.rows ≡ length (rows_in feed)
  pub taken_replaced_refused : c.rows
      ≡ rows_with row_taken c
      + (rows_with row_replaced c
      + (rows_with row_shape c + (rows_with row_zeros c + (rows_with row_range c + (rows_with row_host_bits c + rows_with row_no_room c)))))
  pub each_numbered : take c.rows report ≡ row_numbers (list_room l.keys l.hops) feed

pub every_row : (feed : List ℕ) (l : ImportLent) (r : Result Counts Refusal) {c : Counts} (keys hops report : List ℕ) → import_gave r keys hops report ≡ import feed l
    → r ≡ Ok c → EveryRow feed l c report
every_row feed l r keys hops report g ended = record {
  all_rows_lem = rows_are_all_rows feed l g ended;
  taken_replaced_refused = rows_are_taken_replaced_refused feed l g ended;
  each_numbered = report_has_numbers feed l g ended;
}

-- the same of the counts in a lent tally
pub every_row_tally : (feed : List ℕ) (l : ImportLent) (tally : Counts) (r : Result (Unit {0}) Refusal) (keys hops report : List ℕ) (left : Counts)
    → TallyGave feed l tally r keys hops report left → r ≡ Ok tt → EveryRow feed l left report
every_row_tally feed l tally r keys hops report left g ended =
    every_row feed l (Ok left) keys hops report (done_as_import feed l tally g ended) refl
