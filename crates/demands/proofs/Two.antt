-- Demand 2: every address gets the hop of the longest listed prefix that matches it, or 0 if none matches. The run table says the same as
-- the list at every address, and its hop holds until the last address that it gives; a packed segment says the same at every address of its
-- segment. A list written as text reads back as the same list. Each answer here is any that keeps its entry's contract.
-- Its definitions: `plain_lookup`, `lookup_gave` (routes, `Lookup`); `holds`, `length_of` (cidr, `Prefix`); `build`, `build_gave` (runs,
-- `Build`); `run_lookup`, `run_lookup_gave`, `bytes_lookup`, `bytes_lookup_gave` (lookup, `Lookup`); `HoldsUntil` (lookup, `HoldsUntil`);
-- `run_bytes`, `start_at` (lookup, `Bytes`); `held_for_c`, `held_gave_c` (host, `Exports`); `pack`, `pack_gave` (segment, `Pack`); `packed_lookup`,
-- `packed_gave` (packed, `Lookup`); `write`, `write_gave` (text, `Text`); `import`, `import_gave` (feed, `Import`).
-- Assumes nothing.
use mathlib.Core.Path.{◌≡◌, refl, sym, ap, ◌∙◌}
use mathlib.Core.Logic.{◌⊎◌, inl, inr, ⊎_elim}
use mathlib.Core.Bool.{true, false}
use mathlib.Core.List.{List, ◌++◌}
use Prim.Native.Nat.{ℕ, ◌/◌, ◌≤◌, ◌<◌}
use native.Mathlib.Omega.{arith}
use lib.ListN.{length, get_or, take}
use Rattle.std.specs.Prelude.{Result, Ok, Err}
use Rattle.ground.specs.declared.Refusal.{Refusal}
use Rattle.feed.specs.declared.Counts.{Counts}
use Rattle.ground.specs.Numbers.{done}
use Rattle.ground.specs.Slots.{written}
use Rattle.ground.proofs.Truth.{not-false}
use Rattle.ground.proofs.Slots.{take_written}
use Rattle.ground.proofs.Numbers.{accepted_fault, accepted_is, no_fault}
use Rattle.cidr.specs.Prefix.{addresses}
use Rattle.routes.specs.Row.{Row, ListLent, rows_lent, list_room}
use Rattle.routes.specs.Plain.{plain}
use Rattle.routes.specs.WellFormed.{well_formed, formed}
use Rattle.routes.proofs.LookupOutcome.{plain_accepted}
use Rattle.routes.specs.Lookup.{LookupOutcome, looked_up, lookup_gave, plain_lookup, lookup_checks}
use Rattle.routes.proofs.Plain.{NoMatch, Longest, plain_cases}
use Rattle.lookup.specs.declared.Probed.{Probed}
use Rattle.lookup.specs.declared.Held.{Held}
use Rattle.runs.specs.Table.{runs_lent, run_starts, run_hops}
use Rattle.lookup.specs.Bytes.{run_bytes, start_at}
use Rattle.runs.specs.Build.{SlotsLent, BuildOutcome, built, build_gave, build, build_of, build_checks}
use Rattle.lookup.specs.Lookup.{run_lookup_gave, run_lookup, BytesLookupOutcome, bytes_lookup_gave, bytes_lookup}
use Rattle.runs.specs.Pair.{Pair, list_of}
use Rattle.lookup.proofs.Found.{last_in}
use Rattle.lookup.proofs.Lookups.{bytes_lookup_plain}
use Rattle.lookup.proofs.HoldsUntil.{HoldsUntil, holds_as, bytes_hold_until}
use Rattle.lookup.proofs.BuildThenLookup.{build_then_lookup, build_then_holds}
use Rattle.runs.proofs.Table.{same_count}
use Rattle.segment.specs.Pack.{PackLent, pack_gave, pack}
use Rattle.packed.specs.Lookup.{segment_lent, packed_gave, packed_lookup}
use Rattle.segment.proofs.PackThenLookup.{pack_then_lookup}
use Rattle.text.specs.Text.{write_gave, write}
use Rattle.text.proofs.WriteThenImport.{ReadBackIn, write_then_import}
use Rattle.feed.specs.Import.{ImportLent, import_gave, import}
use Rattle.c_answers.specs.Exports.{lookup_for_c, address_bytes}
use Rattle.host.specs.Exports.{HeldForC, held_gave_c, held_for_c}
use Rattle.host.proofs.HeldCarried.{held_carried}

-- an accepted plain lookup gives the hop of the longest listed prefix that holds the address, or 0 where none does
module _ (l : ListLent) (a : ℕ) (r : Result ℕ Refusal) (e : lookup_gave r ≡ plain_lookup l a) (d : (lookup_gave r).number ≡ done) where
  looked : lookup_gave r ≡ looked_up done (plain (rows_lent l) a)
  unfolding plain_lookup
  looked = e ∙ accepted_is (λ (o : LookupOutcome). o.number) (lookup_checks l) _ _ (λ n. refl) (ap (λ (o : LookupOutcome). o.number) (sym e) ∙ d)

  pub longest_match : (NoMatch (rows_lent l) a × ((lookup_gave r).hop ≡ 0))
      ⊎ ((x : Row) × Longest (rows_lent l) a x × ((lookup_gave r).hop ≡ x.hop))
  longest_match =
      let hop = ap (λ (o : LookupOutcome). o.hop) looked in
      ⊎_elim (λ w. inl (w.0, hop ∙ w.1)) (λ w. inr (w.0, w.1, hop ∙ w.2)) (plain_cases (rows_lent l) a)

-- run lookup in what an accepted build left gives what plain lookup gives, at every address
pub run_table_says : (l : ListLent) (t : SlotsLent) {n : ℕ} {starts hops : List ℕ} → build_gave (Ok n) starts hops ≡ build l t
    → {a : ℕ} (r : Result Probed Refusal) (p : Result ℕ Refusal) → a < addresses → run_lookup_gave r ≡ run_lookup (runs_lent n starts hops) a
    → lookup_gave p ≡ plain_lookup l a → ((run_lookup_gave r).number ≡ done) × ((run_lookup_gave r).hop ≡ (lookup_gave p).hop)
run_table_says l t = build_then_lookup l t

-- plain lookup gives that hop at every address up to the last one that the run lookup gives, and another at the next
pub run_table_holds : (l : ListLent) (t : SlotsLent) {n : ℕ} {starts hops : List ℕ} → build_gave (Ok n) starts hops ≡ build l t
    → {a : ℕ} (r : Result Probed Refusal) → a < addresses → run_lookup_gave r ≡ run_lookup (runs_lent n starts hops) a
    → HoldsUntil (λ b. (plain_lookup l b).hop) a (run_lookup_gave r).last
run_table_holds l t = build_then_holds l t

-- the four bytes in which C gets the last address, read as run bytes give a start, are that address
pub last_reads_back : (last : ℕ) (rest : List ℕ) → start_at (address_bytes last ++ rest) 0 ≡ last
unfolding start_at
last_reads_back last rest = omega arith

-- the same of lookup in the run bytes of those runs
module _ (l : ListLent) (t : SlotsLent) {n : ℕ} {starts hops : List ℕ} (b : build_gave (Ok n) starts hops ≡ build l t) where
  left : built done n starts hops
      ≡ built done (length (run_starts (rows_lent l))) (written (run_starts (rows_lent l)) t.starts) (written (run_hops (rows_lent l)) t.hops)
  unfolding build_of
  left = b ∙ accepted_is (λ (o : BuildOutcome). o.number) (build_checks false l t) _ _ (λ n. refl) (ap (λ (o : BuildOutcome). o.number) (sym b))

  well : well_formed l.count l.keys l.hops ≡ true
  unfolding build_of build_checks formed
  well =
      let none = accepted_fault (λ (o : BuildOutcome). o.number) (build_checks false l t) _ _ (λ n. refl) (ap (λ (o : BuildOutcome). o.number) (sym b)) in
      not-false _ (no_fault _ 10 _ none).0

  count_is : n ≡ length (run_starts (rows_lent l))
  count_is = ap (λ (o : BuildOutcome). o.runs) left

  bytes_are : run_bytes (take n starts) (take n hops) ≡ run_bytes (run_starts (rows_lent l)) (run_hops (rows_lent l))
  bytes_are =
      let s = ap (take n) (ap (λ (o : BuildOutcome). o.starts) left) ∙ take_written _ t.starts n count_is in
      let h = ap (take n) (ap (λ (o : BuildOutcome). o.hops) left) ∙ take_written _ t.hops n (count_is ∙ sym (same_count (rows_lent l))) in
      rw (s, h)

  module _ (a : ℕ) (r : Result Held Refusal) (below : a < addresses)
      (e : bytes_lookup_gave r ≡ bytes_lookup (run_bytes (take n starts) (take n hops)) a) where
    in_table : bytes_lookup_gave r ≡ bytes_lookup (run_bytes (run_starts (rows_lent l)) (run_hops (rows_lent l))) a
    in_table = e ∙ ap (λ bytes. bytes_lookup bytes a) bytes_are

    pub run_bytes_say : (p : Result ℕ Refusal) → lookup_gave p ≡ plain_lookup l a
        → ((bytes_lookup_gave r).number ≡ done) × ((bytes_lookup_gave r).hop ≡ (lookup_gave p).hop)
    run_bytes_say p e' =
        let found = in_table ∙ bytes_lookup_plain (rows_lent l) a below in (
          ap (λ (o : BytesLookupOutcome). o.number) found,
          ap (λ (o : BytesLookupOutcome). o.hop) found ∙ sym (ap (λ (o : LookupOutcome). o.hop) (e' ∙ plain_accepted l a well)),
        )

    pub run_bytes_hold : HoldsUntil (λ b. (plain_lookup l b).hop) a (bytes_lookup_gave r).last
    run_bytes_hold =
        rw (ap (λ (o : BytesLookupOutcome). o.last) in_table)
        (holds_as (λ b. ap (λ (o : LookupOutcome). o.hop) (plain_accepted l b well)) (bytes_hold_until (rows_lent l) a below))

  -- and of what C gets with four bytes or more lent for the last address: it returns that hop with number 0, and its first four bytes, read
  -- with the highest in front, are the last address
  module _ (a x : ℕ) (lent out : List ℕ) (below : a < addresses) (room : 4 ≤ length lent)
      (e : held_gave_c x out ≡ held_for_c (run_bytes (take n starts) (take n hops)) a lent) where
    hop_alone : (h : ℕ) → lookup_for_c (looked_up done h) ≡ h
    unfolding lookup_for_c
    hop_alone h = omega arith

    pub run_bytes_hold_for_c : (x ≡ (plain_lookup l a).hop) × HoldsUntil (λ b. (plain_lookup l b).hop) a (start_at out 0)
    unfolding written
    run_bytes_hold_for_c =
        let last = last_in (run_starts (rows_lent l)) a in
        let r = Ok (record { hop = plain (rows_lent l) a; last = last }) in
        let gave = sym (ap (λ bytes. bytes_lookup bytes a) bytes_are ∙ bytes_lookup_plain (rows_lent l) a below) in
        let is = e ∙ sym (held_carried (run_bytes (take n starts) (take n hops)) a r gave refl lent room) in (
          ap (λ (o : HeldForC). o.answer) is ∙ hop_alone _ ∙ sym (ap (λ (o : LookupOutcome). o.hop) (plain_accepted l a well)),
          rw (ap (λ (o : HeldForC). o.last) is, last_reads_back last) (run_bytes_hold a r below gave),
        )

-- packed lookup in what an accepted packing left gives the plain answer, at every address of the segment
pub packed_segment_says : (q : ℕ) (p : Pair) (l : PackLent) {w n m : ℕ} {words bases hops : List ℕ}
    → pack_gave (Ok (record { width = w; words = n; hops = m })) words bases hops ≡ pack q p l → (ws bs hs : List ℕ) → take n ws ≡ take n words → take n bs ≡ take n bases
    → take m hs ≡ take m hops → (r : Result ℕ Refusal) (a : ℕ) → a / 65536 ≡ q → packed_gave r ≡ packed_lookup (segment_lent w ws bs hs) a
    → packed_gave r ≡ looked_up done (plain (list_of p) a)
packed_segment_says q p l left ws bs hs ew eb eh = pack_then_lookup q p l left ws bs hs ew eb eh

-- an import of what an accepted list writer left, given room for it, takes every row and leaves that list
pub text_reads_back : (l : ListLent) (buffer : List ℕ) {n : ℕ} {out : List ℕ} → write_gave (Ok n) out ≡ write l buffer
    → ((i : ℕ) → get_or l.hops i 0 < 65536) → (t : ImportLent) → l.count ≤ list_room t.keys t.hops → l.count ≤ length t.report
    → (r : Result Counts Refusal) {keys hops report : List ℕ} → import_gave r keys hops report ≡ import (take n out) t
    → ReadBackIn l r keys hops report
text_reads_back l buffer w fit t enough all-reported r g = write_then_import l buffer w fit t enough all-reported r g
