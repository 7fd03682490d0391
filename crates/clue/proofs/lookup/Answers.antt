-- `clue::lookup` meets its contract: the checks in their order, then what the clue's place among the entries says (`HintOutcomes`). The hop of
-- the clue of all 32 bits, which the search finds, is the plain answer (`Final`).
-- Assumes nothing.
use Rattle.std.proofs.Common.{rules, ◌≡◌, ◌<◌, Bool, true, false, ℕ, List, length, take, sym, ap, ◌∙◌, arith}
use Rattle.ground.specs.Numbers.{done}
use Rattle.ground.specs.Column.{ascends}
use Rattle.routes.specs.Row.{Row, rows_of, list_lent, rows_lent}
use Rattle.routes.specs.WellFormed.{well_formed}
use Rattle.std.specs.Prelude.{Result, Ok}
use Rattle.routes.specs.Place.{place_in}
use Rattle.entries.specs.Clue.{clue_of, hop_around}
use Rattle.entries.specs.Entries.{EntriesLent, entries_lent, its_entries}
use Rattle.clue.specs.Lookup.{hinted, is_final}
use Rattle.entries.proofs.Cut.{list_test, cut_keys, cut_hops, cut_list, cut_well}
use Rattle.entries.proofs.Rows.{well_prefixes}
use Rattle.entries.proofs.EntryTest.{its_ascend, its_place}
use Rattle.clue.proofs.Final.{search_is_plain}
use Rattle.clue.proofs.HintOutcomes.{hint_long, hint_ill, hint_other, hint_final, hint_searched, final_at, marked_at, stored_at, none_at}
use Rattle.clue.proofs.lookup.Goals as goal
use Rattle.clue.proofs.lookup.Goals.{in-Ok+else-marks-at-eq0, in_default}

-- whether the entries are the list's, which the code asks of the slices cut to the count
theirs : {b : Bool} (count : ℕ) (keys hops : List ℕ) (e : EntriesLent) → well_formed count keys hops ≡ true
    → b ≡ its_entries (rows_of (length (take count keys)) (take count keys) (take count hops)) e
    → its_entries (rows_lent (list_lent count keys hops)) e ≡ b
theirs count keys hops e well is = sym (is ∙ ap (λ rows. its_entries rows e) (cut_list count keys hops well))

-- the clue's place among the entries' keys, which ascend
placed : {p found : Result ℕ ℕ} {key clue : ℕ} (rows : List Row) (ekeys ehops marks : List ℕ) → its_entries rows (entries_lent ekeys ehops marks) ≡ true
    → (ascends ekeys ≡ true → found ≡ place_in ekeys key) → key ≡ clue → found ≡ p → place_in ekeys clue ≡ p
placed rows ekeys ehops marks its is k arm = sym (sym arm ∙ is (its_ascend rows ekeys ehops marks its) ∙ ap (place_in ekeys) k)

-- the clue's place among them has a mark
marked_place : {found : Result ℕ ℕ} {key clue : ℕ} (rows : List Row) (ekeys ehops marks : List ℕ) → its_entries rows (entries_lent ekeys ehops marks) ≡ true
    → (ascends ekeys ≡ true → found ≡ place_in ekeys key) → key ≡ clue → (at : ℕ) → found ≡ Ok at → at < length marks
marked_place rows ekeys ehops marks its is k at arm = (its_place _ _ _ _ its _ _ (placed rows ekeys ehops marks its is k arm)).1

pub returns-then-len-gt32 : goal.returns-then-len-gt32
returns-then-len-gt32 c = sym (hint_long _ _ _ _ c.if-len-gt32.true)

pub returns-then-not-list_ok : goal.returns-then-not-list_ok
returns-then-not-list_ok c = sym (hint_ill _ _ _ _ c.if-len-gt32.false (list_test _ _ _ _ c.if-not-list_ok.ensures))

pub slice_bounds-rkeys-end : goal.slice_bounds-rkeys-end
slice_bounds-rkeys-end c = cut_keys _ _ _ (list_test _ _ _ _ c.if-not-list_ok.ensures)

pub slice_bounds-rhops-end : goal.slice_bounds-rhops-end
slice_bounds-rhops-end c = cut_hops _ _ _ (list_test _ _ _ _ c.if-not-list_ok.ensures)

pub entries_ok-requires : goal.entries_ok-requires
entries_ok-requires c = cut_well _ _ _ (list_test _ _ _ _ c.if-not-list_ok.ensures)

pub returns-then-not-entries_ok : goal.returns-then-not-entries_ok
returns-then-not-entries_ok c =
    let well = list_test _ c.args.count c.args.keys.now c.args.hops.now c.if-not-list_ok.ensures in
    sym (hint_other _ _ _ _ c.if-len-gt32.false well (theirs _ _ _ _ well c.if-not-entries_ok.ensures))

pub bounds-marks-at : goal.bounds-marks-at
bounds-marks-at c =
    let well = list_test _ c.args.count c.args.keys.now c.args.hops.now c.if-not-list_ok.ensures in
    let its = theirs _ _ _ (entries_lent c.args.ekeys.now c.args.ehops.now c.args.marks.now) well c.if-not-entries_ok.ensures in
    search (rules, marked_place _ _ _ _ its c.place_of.ensures c.clue_key.ensures)

pub offset_bounds-ehops-at : goal.offset_bounds-ehops-at
offset_bounds-ehops-at c =
    let well = list_test _ c.args.count c.args.keys.now c.args.hops.now c.if-not-list_ok.ensures in
    let its = theirs _ _ _ (entries_lent c.args.ekeys.now c.args.ehops.now c.args.marks.now) well c.if-not-entries_ok.ensures in
    let place = placed _ _ _ _ its c.place_of.ensures c.clue_key.ensures c.in-Ok.is in
    omega (arith, its_place _ _ _ _ its _ _ place)

pub bounds-ehops-at : goal.bounds-ehops-at
bounds-ehops-at c =
    let well = list_test _ c.args.count c.args.keys.now c.args.hops.now c.if-not-list_ok.ensures in
    let its = theirs _ _ _ (entries_lent c.args.ekeys.now c.args.ehops.now c.args.marks.now) well c.if-not-entries_ok.ensures in
    let place = placed _ _ _ _ its c.place_of.ensures c.clue_key.ensures c.in-Ok.is in
    (its_place _ _ _ _ its _ _ place).0

pub returns-then-marks-at-eq0 : goal.returns-then-marks-at-eq0
returns-then-marks-at-eq0 c =
    let well = list_test _ c.args.count c.args.keys.now c.args.hops.now c.if-not-list_ok.ensures in
    let its = theirs _ _ _ (entries_lent c.args.ekeys.now c.args.ehops.now c.args.marks.now) well c.if-not-entries_ok.ensures in
    let place = placed _ _ _ _ its c.place_of.ensures c.clue_key.ensures c.in-Ok.is in
    sym
    (hint_final _ _ _ _ c.if-len-gt32.false well its (final_at _ _ _ place c.if-marks-at-eq0.true)
    ∙ ap (λ h. hinted done h true) (stored_at _ _ _ place))

pub hop_around-requires-clause-well_formed_list : goal.hop_around-requires-clause-well_formed_list
hop_around-requires-clause-well_formed_list c = cut_well _ _ _ (list_test _ _ _ _ c.if-not-list_ok.ensures)

pub returns : goal.returns
returns c =
    let well = list_test _ c.args.count c.args.keys.now c.args.hops.now c.if-not-list_ok.ensures in
    let its = theirs _ _ _ (entries_lent c.args.ekeys.now c.args.ehops.now c.args.marks.now) well c.if-not-entries_ok.ensures in
    let not_final : is_final (entries_lent c.args.ekeys.now c.args.ehops.now c.args.marks.now) (clue_of c.args.len c.args.a) ≡ false =
    elim c.match-place_of.branch [
      | in-Ok+else-marks-at-eq0 w ↦ marked_at _ _ _ (placed _ _ _ _ its c.place_of.ensures c.clue_key.ensures w.in-Ok.is) w.if-marks-at-eq0.false
      | in_default w ↦ none_at _ _ _ (placed _ _ _ _ its c.place_of.ensures c.clue_key.ensures w.in_default.is)
    ] in
    ap (λ h. hinted done h false)
    (c.hop_around.ensures
    ∙ ap (λ rows. hop_around rows (clue_of 32 c.args.a)) (cut_list _ _ _ well)
    ∙ search_is_plain _ (well_prefixes _ _ _ well) c.args.a)
    ∙ sym (hint_searched _ _ _ _ c.if-len-gt32.false well its not_final)
