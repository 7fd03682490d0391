-- The run table of an answer: `starts_of` and `run_hops_of` are one, no other lists are, and that of n rows has at most 2 n + 1 runs.
-- Assumes nothing.
use mathlib.Core.Path.{◌≡◌, refl, sym, ◌∙◌}
use mathlib.Core.Bool.{Bool, true, false, ◌||◌, false≢true}
use mathlib.Core.List.{List, [], ◌∷◌, map}
use Prim.Native.Nat.{ℕ, zero, suc, ◌+◌, ◌-◌, ◌*◌, ◌≤◌, ◌<◌}
use native.Mathlib.Numerals.{add-one}
use native.Mathlib.Omega.{arith}
use lib.ListN.{length, get_or, length-map}
use lib.Seq.{ext_get_or}
use lib.Dec.{eqb}
use borrow.Author.Tests.{eqb-false}
use Rattle.ground.proofs.Truth.{or_neither, or_cases}
use Rattle.ground.proofs.Map.{get_d_map}
use Rattle.ground.specs.Stretch.{counted, turns}
use Rattle.ground.specs.Stretch.Picks.{Picks, picks, picks_front, only_picks}
use Rattle.ground.specs.Stretch.Count.{counted_is, counted_le, counted_or_le, counted_point_le}
use Rattle.ground.specs.Stretch.Turns.{turns_at_first, turns_of_ne, stays_of_same, same_between_turns}
use Rattle.cidr.specs.Prefix.{addresses, network, end_of}
use Rattle.cidr.proofs.Turn.{holds_stays}
use Rattle.routes.specs.Row.{Row, those}
use Rattle.routes.specs.Plain.{matching, plain}
use Rattle.runs.specs.Table.{RunTable, starts_of, run_hops_of, run_starts, run_hops}
use Rattle.runs.specs.Table.Laws.{starts_are}

-- the numbers at which f turns are the starts of a run table of f
table_of_turns : (f : ℕ → ℕ) (starts : List ℕ) → Picks (turns f) 0 addresses starts → RunTable f starts (map f starts)
table_of_turns f starts k = record {
  paired = length-map starts f;
  some_run = front.0;
  first = front.1;
  ascend = k.ascend;
  below = k.below;
  differ = differ';
  answers = λ i a l le lt next. get_d_map f starts i l ∙ same_between_turns 0 f addresses starts k i a l le lt next;
}
  where
    front : (0 < length starts) × (get_or starts 0 0 ≡ 0)
    front = picks_front (turns f) 0 addresses starts k (omega arith) (turns_at_first 0 f)

    differ' : (i : ℕ) → i + 1 < length starts → get_or (map f starts) i 0 ≡ get_or (map f starts) (i + 1) 0 → ⊥
    differ' i l e =
        let later = get_or starts (i + 1) 0 in
        let gt = k.ascend i l in
        let lt = k.below (i + 1) l in
        let here = get_d_map f starts i (omega arith) in
        let there = get_d_map f starts (i + 1) l in
        let before = later - 1 in
        let same = same_between_turns 0 f addresses starts k i before (omega arith) (omega arith) (omega arith) (λ more. omega arith) in
        let equal : f later ≡ f (later - 1) = cc in
        false≢true (sym (stays_of_same 0 f later (omega arith) equal) ∙ k.pass (i + 1) l)

-- the starts of a run table of f are the numbers at which f turns
turns_of_table : (f : ℕ → ℕ) (starts hops : List ℕ) → RunTable f starts hops → Picks (turns f) 0 addresses starts
turns_of_table f starts hops t = record {
  pass = pass';
  from = λ i l. omega arith;
  below = t.below;
  ascend = t.ascend;
  before = λ a ge lt first. absurd (omega (arith, t.first, first t.some_run));
  between = between';
}
  where
    later_turns : (i : ℕ) → i + 1 < length starts → turns f (get_or starts (i + 1) 0) ≡ true
    later_turns i l =
        let later = get_or starts (i + 1) 0 in
        let gt = t.ascend i l in
        let lt = t.below (i + 1) l in
        let before = t.answers i (later - 1) (omega arith) (omega arith) (omega arith) (λ more. omega arith) in
        let here = t.answers (i + 1) later l (omega arith) lt (λ more. t.ascend (i + 1) more) in
        turns_of_ne 0 f later (λ e. t.differ i l (cc))

    pass' : (i : ℕ) → i < length starts → turns f (get_or starts i 0) ≡ true
    pass' zero l = rw t.first (turns_at_first 0 f)
    pass' (suc i) l = rw add-one at (later_turns i (omega arith))

    between' : (i a : ℕ) → i < length starts → get_or starts i 0 < a → a < addresses → (i + 1 < length starts → a < get_or starts (i + 1) 0)
        → turns f a ≡ false
    between' i a l gt lt next =
        let before = t.answers i (a - 1) l (omega arith) (omega arith) (λ more. omega (arith, next more)) in
        let here = t.answers i a l (omega arith) lt next in
        stays_of_same 0 f a (omega arith) (cc)

pub table_of : (f : ℕ → ℕ) → RunTable f (starts_of f) (run_hops_of f)
unfolding run_hops_of
table_of f = rw starts_are (table_of_turns f _ (picks (turns f) 0 addresses))

pub same_count : (rows : List Row) → length (run_hops rows) ≡ length (run_starts rows)
unfolding run_hops run_starts
same_count rows = (table_of (plain rows)).paired

pub only_table : (f : ℕ → ℕ) (starts hops : List ℕ) → RunTable f starts hops → (starts ≡ starts_of f) × (hops ≡ run_hops_of f)
unfolding run_hops_of
only_table f starts hops t = (same_starts, rw (← same_starts) same_hops)
  where
    same_starts : starts ≡ starts_of f
    same_starts = rw starts_are (only_picks (turns f) 0 addresses starts (turns_of_table f starts hops t))

    hop_at_lem : (i : ℕ) → i < length hops → get_or hops i 0 ≡ get_or (map f starts) i 0
    hop_at_lem i l =
        let in_range : i < length starts = omega (arith, t.paired) in
        let here = t.answers i (get_or starts i 0) in_range (omega arith) (t.below i in_range) (λ more. t.ascend i more) in
        here ∙ sym (get_d_map f starts i in_range)

    same_hops : hops ≡ map f starts
    same_hops = ext_get_or 0 hops (map f starts) (rw length-map t.paired) hop_at_lem

-- the addresses at which the plain answer may turn: 0, and each prefix's network and one past its end
abbrev edge : List Row → ℕ → Bool
edge [] a = eqb a 0
edge (r ∷ rs) a = eqb a (network r.key) || (eqb a (end_of r.key) || edge rs a)

-- at any other address the same rows match as one before
same_off_edge : (rows : List Row) (a : ℕ) → edge rows a ≡ false → (0 < a) × (matching a rows ≡ matching (a - 1) rows)
unfolding matching those
same_off_edge [] a e = (omega (arith, eqb-false a 0 e), refl)
same_off_edge (r ∷ rs) a e =
    let start = or_neither (eqb a (network r.key)) _ e in
    let end = or_neither (eqb a (end_of r.key)) _ start.1 in
    let rest = same_off_edge rs a end.1 in
    let Holds-same = holds_stays r.key a (eqb-false _ _ start.0) (eqb-false _ _ end.0) in
    (rest.0, rw (Holds-same, rest.1))

turns_at_edge : (rows : List Row) (a : ℕ) → turns (plain rows) a ≡ true → edge rows a ≡ true
unfolding plain
turns_at_edge rows a t = go (edge rows a) refl
  where
    go : (b : Bool) → edge rows a ≡ b → b ≡ true
    go true e = refl
    go false e =
        let same = same_off_edge rows a e in
        sym (stays_of_same 0 (plain rows) a same.0 (rw same.1)) ∙ t

edges_at_most : (rows : List Row) (lo n : ℕ) → counted (edge rows) lo n ≤ 2 * length rows + 1
edges_at_most [] lo n = counted_point_le 0 lo n
edges_at_most (r ∷ rs) lo n =
    let net = network r.key in
    let end = end_of r.key in
    let later : ℕ → Bool = λ a. eqb a end || edge rs a in
    let both = counted_or_le (edge (r ∷ rs)) (λ a. eqb a net) later lo n (λ a ge lt. or_cases (eqb a net) (later a)) in
    let rest = counted_or_le later (λ a. eqb a end) (edge rs) lo n (λ a ge lt. or_cases (eqb a end) (edge rs a)) in
    omega (arith, counted_point_le net lo n, counted_point_le end lo n, edges_at_most rs lo n)

pub runs_at_most : (rows : List Row) → length (run_starts rows) ≤ 2 * length rows + 1
unfolding run_starts
runs_at_most rows =
    let turn = counted_le (turns (plain rows)) (edge rows) 0 addresses (λ a ge lt. turns_at_edge rows a) in
    rw (starts_are, ← counted_is (turns (plain rows)) 0 addresses) (omega (arith, edges_at_most rows 0 addresses))
