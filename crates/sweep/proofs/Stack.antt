-- How the stack of open prefixes goes with the address. Closing what has ended leaves it true at a later address (`closing`), and before
-- the next event nothing closes and nothing opens, so the answer stays (`answer_stays`). A row whose network is the address holds it
-- (`opening`); once the next row's network is past it, all rows ahead are (`all_open`), and the last open hop is the answer over all rows
-- (`standing_answer`).
-- Assumes nothing.
use mathlib.Core.Path.{◌≡◌, refl, sym, ap, ◌∙◌}
use mathlib.Core.Bool.{true}
use mathlib.Core.Logic.{⊎_elim}
use mathlib.Core.List.{List, [], ◌∷◌, ◌++◌, map, map-append}
use Prim.Native.Nat.{ℕ, ◌+◌, ◌-◌, ◌≤◌, ◌<◌}
use native.Mathlib.Nat.{eq-or-lt_of_le}
use native.Mathlib.Numerals.{add-one}
use native.Mathlib.Omega.{arith}
use lib.ListN.{length, get_or, take, set, length-append, length-map, length-set}
use lib.Seq.{take-take, get_or-take, length-take-le, take-suc-set}
use Rattle.ground.proofs.Map.{map_take}
use Rattle.cidr.specs.Prefix.{network, length_of, end_of, holds}
use Rattle.cidr.proofs.Prefix.{within_holds, size_pos}
use Rattle.routes.specs.Row.{Row, rows_of, those}
use Rattle.routes.specs.Plain.{matching}
use Rattle.routes.proofs.RowsOf.{row_at}
use Rattle.sweep.specs.Sweep.{last_or, ends_of, all_rows, answer, Sorted, From, Stack, Falling, Closed, BeforeEvent, Event}
use Rattle.sweep.proofs.Sorted.{prefix_there, beyond}
use Rattle.sweep.proofs.Matched.{Matched, matched, at_most_33, ends_fall, ends_past}
use Rattle.sweep.proofs.Matched.{those_after, still_matched, none_ahead, grow_in}

-- before any row the stack is empty
pub standing_start : {keys hops ends open-hops : List ℕ} {start : ℕ} → From keys start → length ends ≡ 33 → length open-hops ≡ 33
    → Stack keys hops ends open-hops 0 0 start start
unfolding matching rows_of those
standing_start from e e' = record {
  within = omega arith;
  passed = λ i l. absurd (omega arith);
  ahead = λ i l m. from i m;
  deep = refl;
  ends_are = refl;
  hops_are = refl;
  ends_room = e;
  hops_room = e';
}

module _ {keys hops ends open-hops : List ℕ} {row depth at next : ℕ} (s : Sorted keys hops)
    (k : Stack keys hops ends open-hops row depth at next) where
  open_rows : Matched keys hops at row (matching at (rows_of row keys hops))
  open_rows = matched s at row k.within

  pub few_open : depth ≤ 33
  few_open = rw k.deep (at_most_33 s open_rows)

  end_is : (i : ℕ) → i < depth → get_or ends i 0 ≡ get_or (ends_of (matching at (rows_of row keys hops))) i 0
  end_is i l = sym (get_or-take depth ends i 0 l) ∙ ap (λ xs. get_or xs i 0) k.ends_are

  pub falling : Falling ends depth
  falling = record {
    few = few_open;
    falls = λ i j l lt. rw (end_is i (omega arith), end_is j lt) (ends_fall s open_rows i j l (rw length-map (omega (arith, k.deep))));
  }

  pub before_event : (limit : ℕ) → at < limit → at < next → BeforeEvent keys ends row depth at limit
  before_event limit lt lt' = record {
    before = lt;
    few = few_open;
    row_past = λ l. omega (arith, k.ahead row (omega arith) l);
    end_past = λ pos. rw (end_is (depth - 1) (omega arith)) (ends_past s open_rows (depth - 1) (rw length-map (omega (arith, k.deep))));
  }

  -- the ended prefixes are closed
  pub closing : (to d : ℕ) → at ≤ to → Closed ends depth to d → Stack keys hops ends open-hops row d to next
  closing to d le c = record {
    within = k.within;
    passed = λ i l. omega (arith, k.passed i l);
    ahead = k.ahead;
    deep = sym (ap length is ∙ length-take-le d _ (omega (arith, k.deep, c.upto)));
    ends_are = column (λ r. end_of r.key) ends k.ends_are;
    hops_are = column (λ r. r.hop) open-hops k.hops_are;
    ends_room = k.ends_room;
    hops_room = k.hops_room;
  }
    where
      is : matching to (rows_of row keys hops) ≡ take d (matching at (rows_of row keys hops))
      is =
          still_matched s at to le open_rows k.passed
          ∙ those_after to _ d (λ i l. rw (end_is i (omega (arith, c.upto))) at (c.kept i l))
          (λ i l lt. let in_use : i < depth = omega (arith, k.deep) in rw (end_is i in_use) at (c.gone i l in_use))

      column : (f : Row → ℕ) (xs : List ℕ) → take depth xs ≡ map f (matching at (rows_of row keys hops))
          → take d xs ≡ map f (matching to (rows_of row keys hops))
      column f xs e = rw (is, map_take, ← e) (sym (take-take d depth xs c.upto))

  -- the answer where the sweep stands, with the rows ahead beyond the address
  pub standing_answer : (base : ℕ) → at < next → answer base (all_rows keys hops) at ≡ last_or base (take depth open-hops)
  unfolding answer
  standing_answer base lt =
      let whole : length keys ≡ row + (length keys - row) = omega (arith, k.within) in
      let all : matching at (all_rows keys hops) ≡ matching at (rows_of row keys hops) =
      ap (λ n. matching at (rows_of n keys hops)) whole
      ∙ none_ahead s at row (length keys - row) (omega arith) (λ i l m. omega (arith, k.ahead i l m)) in
      rw (all, k.hops_are)

  -- the same stack, with more known of the rows ahead
  pub onward : (a : ℕ) → (row < length keys → a ≤ network (get_or keys row 0)) → Stack keys hops ends open-hops row depth at a
  onward a h = record {
    within = k.within;
    passed = k.passed;
    ahead = beyond s a row h;
    deep = k.deep;
    ends_are = k.ends_are;
    hops_are = k.hops_are;
    ends_room = k.ends_room;
    hops_room = k.hops_room;
  }

module _ {keys hops ends open-hops : List ℕ} {row depth at next : ℕ} (s : Sorted keys hops)
    (k : Stack keys hops ends open-hops row depth at next) where
  -- up to the next event nothing closes, so the answer stays
  pub answer_stays : (base limit event : ℕ) → Event keys ends row depth at limit event → (a : ℕ) → at ≤ a → a < event
      → answer base (all_rows keys hops) a ≡ last_or base (take depth open-hops)
  answer_stays base limit event e a l lt = standing_answer s (onward s still event e.row_to) base lt
    where
      still : Stack keys hops ends open-hops row depth a next
      still = closing s k a depth l record {
        upto = omega arith;
        kept = λ i m. omega (arith, e.end_to (omega arith), (falling s k).falls i (depth - 1) (omega arith) (omega arith));
        gone = λ i m n. absurd (omega arith);
      }

  -- where the next row's network isn't the address, all rows from there on are past it
  pub all_open : at ≤ next → (row < length keys → network (get_or keys row 0) ≡ at → ⊥) → Stack keys hops ends open-hops row depth at (at + 1)
  all_open le h = onward s k (at + 1) (λ l. let other = h l in omega (arith, k.ahead row (omega arith) l))

-- a row whose network is the address is opened
module _ {keys hops ends open-hops : List ℕ} {row depth at : ℕ} (s : Sorted keys hops)
    (k : Stack keys hops ends open-hops row depth at at) (here : network (get_or keys row 0) ≡ at) (l : row < length keys) where
  holds_here : holds (get_or keys row 0) at ≡ true
  holds_here =
      within_holds (get_or keys row 0) at (prefix_there s row l) (omega arith) (omega (arith, size_pos (length_of (get_or keys row 0))))

  one_more : matching at (rows_of (row + 1) keys hops) ≡ matching at (rows_of row keys hops) ++ row_at keys hops row ∷ []
  one_more = rw add-one (grow_in s at row l holds_here)

  deeper : depth + 1 ≡ length (matching at (rows_of (row + 1) keys hops))
  deeper = rw (one_more, length-append) (omega (arith, k.deep))

  pub room_above : depth < 33
  room_above = omega (arith, deeper, at_most_33 s (matched s at (row + 1) (omega arith)))

  pub opening : Stack keys hops (set ends depth (end_of (get_or keys row 0))) (set open-hops depth (get_or hops row 0))
      (row + 1) (depth + 1) at at
  opening = record {
    within = omega arith;
    passed = passed';
    ahead = λ i m n. k.ahead i (omega arith) n;
    deep = deeper;
    ends_are = column (λ r. end_of r.key) ends k.ends_are k.ends_room;
    hops_are = column (λ r. r.hop) open-hops k.hops_are k.hops_room;
    ends_room = length-set ends depth _ ∙ k.ends_room;
    hops_room = length-set open-hops depth _ ∙ k.hops_room;
  }
    where
      passed' : (i : ℕ) → i < row + 1 → network (get_or keys i 0) ≤ at
      passed' i m = ⊎_elim
          (λ (q : i ≡ row). rw q (omega arith))
          (λ lt. k.passed i lt)
          (eq-or-lt_of_le (omega arith))

      column : (f : Row → ℕ) (xs : List ℕ) → take depth xs ≡ map f (matching at (rows_of row keys hops)) → length xs ≡ 33
          → take (depth + 1) (set xs depth (f (row_at keys hops row))) ≡ map f (matching at (rows_of (row + 1) keys hops))
      column f xs e room = rw (add-one depth, one_more, map-append, ← e) (take-suc-set xs depth _ (omega (arith, room_above)))

-- what opening the rows that begin at an address goes by
pub ruleset opens = (room_above, opening, all_open)
