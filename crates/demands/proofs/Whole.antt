-- The whole way through C: import of a feed, build of what it left, and lookup of any address in what the build left, each unpacked as C
-- unpacks it, give the plain answer of the list that the feed's rows give, and the last address until which it holds. Run hops are slots of
-- 16 bits.
-- Its definitions: `imported_list` (feed, `Import`); `plain` (routes, `Plain`); `HoldsUntil` (lookup, `HoldsUntil`); what C gets
-- (c_structs, `Structs`; c_answers, `Exports`).
-- Assumes nothing.
use mathlib.Core.Path.{◌≡◌, refl, sym, ap, ◌∙◌}
use mathlib.Core.Logic.{⊎_elim}
use mathlib.Core.Bool.{false}
use mathlib.Core.List.{List}
use Prim.Native.Nat.{ℕ, ◌+◌, ◌*◌, ◌/◌, ◌%◌, ◌≤◌, ◌<◌}
use native.Mathlib.Omega.{arith}
use lib.ListN.{length, get_or, take}
use lib.Dec.{eqb}
use borrow.Author.Tests.{eqb-true, eqb-false, ltb-false}
use Rattle.std.specs.Prelude.{Result, Ok, Err}
use Rattle.ground.specs.declared.Refusal.{Refusal}
use Rattle.ground.specs.Slots.{written}
use Rattle.ground.proofs.Truth.{decided}
use Rattle.ground.proofs.Slots.{take_written}
use Rattle.ground.proofs.Numbers.{accepted_is, no_fault}
use Rattle.ground.specs.Numbers.{done}
use Rattle.cidr.specs.Prefix.{addresses}
use Rattle.routes.specs.Row.{Row, list_lent, rows_lent, list_room}
use Rattle.routes.specs.Plain.{plain}
use Rattle.feed.specs.Import.{ImportLent, import_gave, import, imported_list}
use Rattle.feed.proofs.Promise.{left_is_imported}
use Rattle.runs.specs.Table.{runs_lent, run_starts, run_hops}
use Rattle.runs.specs.Build.{SlotsLent, BuildOutcome, built, build, build_of, build_checks, run_room}
use Rattle.lookup.specs.Lookup.{RunLookupOutcome, run_lookup, run_checks}
use Rattle.lookup.proofs.Lookups.{run_lookup_plain}
use Rattle.lookup.proofs.HoldsUntil.{HoldsUntil, holds_until}
use Rattle.runs.proofs.Table.{same_count}
use Rattle.c_structs.specs.declared.WhelkCounts.{WhelkCounts}
use Rattle.c_structs.specs.Structs.{host_import_gave, counts_in}
use Rattle.c_answers.specs.Exports.{BuildForC, build_gave_c, built_for_c, build_for_c}
use Rattle.c_answers.specs.Exports.{run_lookup_for_c, ProbedForC, probed_gave_c, probed_for_c}
use Rattle.demands.proofs.Orders.{orders}
use Rattle.demands.proofs.First.{First, first_of}

-- C's two parts of one number
unpacked : (n m : ℕ) → m < 4294967296 → ((4294967296 * n + m) / 4294967296 ≡ n) × ((4294967296 * n + m) % 4294967296 ≡ m)
unpacked n m l = (omega arith, omega arith)

hop_unpacked : (p h : ℕ) → h < 65536 → ((4294967296 * p + (65536 * 0 + h)) / 65536 % 65536 ≡ 0) × ((4294967296 * p + (65536 * 0 + h)) % 65536 ≡ h)
hop_unpacked p h l = (omega arith, omega arith)

module _ (feed : List ℕ) (l : ImportLent) (w : WhelkCounts) (keys hops report : List ℕ)
    (imported : host_import_gave w keys hops report ≡ import feed l) (import_done : w.number ≡ done)
    (s : SlotsLent) (b : ℕ) (starts rhops : List ℕ)
    (build_is : build_gave_c b starts rhops ≡ build_for_c (build (list_lent w.taken keys hops) s)) (build_done : b / 4294967296 ≡ done)
    (slots : (j : ℕ) → get_or rhops j 0 < 65536) where
  -- the list that the import left has the feed's rows
  gave : import_gave (Ok (counts_in w)) keys hops report ≡ import feed l
  gave = rw (← import_done) imported

  rows_are : rows_lent (list_lent w.taken keys hops) ≡ imported_list (list_room l.keys l.hops) feed
  rows_are = left_is_imported feed l gave refl

  -- the build was accepted
  abbrev o : BuildOutcome
  o = build (list_lent w.taken keys hops) s

  answer_is : b ≡ 4294967296 * o.number + o.runs
  unfolding built_for_c build_for_c
  answer_is = ap (λ (x : BuildForC). x.answer) build_is

  refusal : First (λ (x : BuildOutcome). x.number) (build_checks false (list_lent w.taken keys hops) s)
      (λ n. built n 0 s.starts s.hops) (build (list_lent w.taken keys hops) s)
  unfolding build_of
  refusal = first_of (λ (x : BuildOutcome). x.number) _ _ _ (λ n. refl) refl (orders.build false (list_lent w.taken keys hops) s) _ refl

  accepted : o.number ≡ done
  accepted = ⊎_elim
      (λ e. eqb-true o.number done e)
      (λ e.
      let other = eqb-false o.number done e in
      let none : o.runs ≡ 0 = ap (λ (x : BuildOutcome). x.runs) (refusal.leaves_all other) in
      absurd (other (sym (unpacked o.number 0 (omega arith)).0 ∙ ap (λ n. (4294967296 * o.number + n) / 4294967296) (sym none)
      ∙ ap (λ n. n / 4294967296) (sym answer_is) ∙ build_done)))
      (decided (eqb o.number done))

  -- so it left the run table, and C unpacks its count
  abbrev table : List Row
  table = rows_lent (list_lent w.taken keys hops)

  is_built : build (list_lent w.taken keys hops) s
      ≡ built done (length (run_starts table)) (written (run_starts table) s.starts) (written (run_hops table) s.hops)
  unfolding build_of
  is_built = accepted_is (λ (x : BuildOutcome). x.number) (build_checks false (list_lent w.taken keys hops) s) _ _ (λ n. refl) accepted

  few : length (run_starts table) ≤ 2097153
  unfolding build_checks run_room
  few =
      let none = sym refusal.names_first ∙ accepted in
      let fits = (no_fault _ 12 _ (no_fault _ 10 _ none).1).0 in
      omega (arith, ltb-false (run_room s.starts s.hops) (length (run_starts table)) fits)

  count_is : b % 4294967296 ≡ length (run_starts table)
  count_is =
      let runs_are = ap (λ (x : BuildOutcome). x.runs) is_built in
      ap (λ n. n % 4294967296) answer_is ∙ (unpacked o.number o.runs (omega (arith, few, runs_are))).1 ∙ runs_are

  starts_are : take (b % 4294967296) starts ≡ run_starts table
  unfolding build_for_c
  starts_are =
      ap (take (b % 4294967296)) (ap (λ (x : BuildForC). x.starts) build_is ∙ ap (λ (x : BuildOutcome). x.starts) is_built)
      ∙ take_written (run_starts table) s.starts (b % 4294967296) count_is

  hops_are : take (b % 4294967296) rhops ≡ run_hops table
  unfolding build_for_c
  hops_are =
      ap (take (b % 4294967296)) (ap (λ (x : BuildForC). x.hops) build_is ∙ ap (λ (x : BuildOutcome). x.hops) is_built)
      ∙ take_written (run_hops table) s.hops (b % 4294967296) (count_is ∙ sym (same_count table))

  -- lookup of any address gives a hop of the table
  small : (a : ℕ) → (run_lookup (runs_lent (b % 4294967296) starts rhops) a).number ≡ done
      → (run_lookup (runs_lent (b % 4294967296) starts rhops) a).hop < 65536
  unfolding run_lookup
  small a e =
      let t = runs_lent (b % 4294967296) starts rhops in
      rw (accepted_is (λ (x : RunLookupOutcome). x.number) (run_checks t) _ _ (λ n. refl) e) (slots _)

  module _ (a x last lent : ℕ) (below : a < addresses)
      (e : probed_gave_c x last ≡ probed_for_c (run_lookup (runs_lent (b % 4294967296) starts rhops) a) lent) where
    pub whole_way : (x / 65536 % 65536 ≡ done) × (x % 65536 ≡ plain (imported_list (list_room l.keys l.hops) feed) a)
    unfolding run_lookup_for_c probed_for_c
    whole_way =
        let found = run_lookup_plain table (b % 4294967296) starts rhops count_is starts_are hops_are a below in
        let t = runs_lent (b % 4294967296) starts rhops in
        let parts : x ≡ 4294967296 * (run_lookup t a).probes + (65536 * 0 + (run_lookup t a).hop) =
        rw found.0 at (ap (λ (o : ProbedForC). o.answer) e) in
        let c = hop_unpacked (run_lookup t a).probes (run_lookup t a).hop (small a found.0) in (
          ap (λ n. n / 65536 % 65536) parts ∙ c.0,
          ap (λ n. n % 65536) parts ∙ c.1 ∙ found.1 ∙ ap (λ rows. plain rows a) rows_are,
        )

    pub whole_way_holds : HoldsUntil (plain (imported_list (list_room l.keys l.hops) feed)) a last
    unfolding probed_for_c
    whole_way_holds =
        let found = run_lookup_plain table (b % 4294967296) starts rhops count_is starts_are hops_are a below in
        let t = runs_lent (b % 4294967296) starts rhops in
        let is : last ≡ (run_lookup t a).last = rw found.0 at (ap (λ (o : ProbedForC). o.last) e) in
        rw (is, ← rows_are) (holds_until table (b % 4294967296) starts rhops count_is starts_are hops_are a below)
