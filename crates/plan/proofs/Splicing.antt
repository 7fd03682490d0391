-- The run table after an edit, as a splice of the one before it. Inside the prefix the answer after the edit is what the sweep over the rows
-- inside says with the new own hop as its base, so the runs measured there are the new table's, and the seams found are its seams.
-- Assumes nothing.
use mathlib.Core.Path.{◌≡◌, refl, sym, ap, ◌∙◌}
use mathlib.Core.Bool.{Bool, true, false, cond}
use mathlib.Core.List.{List}
use Prim.Native.Nat.{ℕ, ◌+◌, ◌-◌, ◌≤◌, ◌<◌}
use native.Mathlib.Omega.{arith}
use lib.ListN.{length, get_or}
use lib.Dec.{ltb, leb}
use borrow.Author.Tests.{eqb-true, leb-false}
use Rattle.ground.specs.Column.{lower}
use Rattle.ground.specs.Stretch.Count.{counted_is}
use Rattle.ground.proofs.Truth.{and_right, or_neither}
use Rattle.cidr.specs.Prefix.{addresses, network, length_of, end_of, is_prefix}
use Rattle.cidr.proofs.Prefix.{prefix_parts, size_pos, within_holds, end_within}
use Rattle.routes.specs.Row.{Row}
use Rattle.routes.specs.Plain.{plain}
use Rattle.routes.proofs.WellFormed.{HalfGood}
use Rattle.runs.specs.Table.{run_starts, run_hops}
use Rattle.runs.proofs.Table.{same_count}
use Rattle.within.specs.declared.inside.Middle.{Middle}
use Rattle.plan.specs.declared.table.Splice.{Splice}
use Rattle.within.specs.Middle.{Measured}
use Rattle.within.specs.Own.{enclosing_hop}
use Rattle.within.specs.Seams.{Outside, RunsOf, Seams}
use Rattle.plan.specs.Splice.{spliced, starts_inside, hops_inside, new_starts, new_hops, Splices}
use Rattle.plan.specs.Joints.{joins_before, joins_behind, Seamed}
use Rattle.plan.specs.Edited.{edited_rows}
use Rattle.plan.specs.Plan.{inside_of}
use Rattle.within.proofs.Inner.{inner_same}
use Rattle.within.proofs.InnerAnswer.{inner_sweep}
use Rattle.within.proofs.Places.{place_le_past, past_in, joins_some, inner_front, inner_paired, first_hop}
use Rattle.within.proofs.Tables.{runs_agree, table_runs, edit_outside, table_starts, table_hops, table_count}
use Rattle.plan.proofs.Joining.{at_most_one}
use Rattle.plan.proofs.Edited.{edited_but_for, edited_half}
use Rattle.plan.proofs.NewTable.{by_first, joined_spliced}

-- a number more or none, and one that is taken from either side of a sum
one_more_not : (n : ℕ) (b : Bool) → n < n + cond b 0 1 → b ≡ false
one_more_not n true l = absurd (omega arith)
one_more_not n false l = refl

either_side : (i m : ℕ) (b : Bool) → 0 < m → (b ≡ true → 0 < i) → i - cond b 1 0 + m ≡ i + (m - cond b 1 0)
either_side i m true some may = omega (arith, may refl)
either_side i m false some may = omega arith

module _ (k h : ℕ) (pre : is_prefix k ≡ true) (rows : List Row) (half : HalfGood rows)
    (base : ℕ) (own : base ≡ enclosing_hop k (edited_rows k h rows)) where
  abbrev after : List Row
  after = edited_rows k h rows

  abbrev net : ℕ
  net = network k

  abbrev end : ℕ
  end = end_of k

  -- the answer inside
  abbrev g : ℕ → ℕ
  g = inside_of k base rows

  half_after : HalfGood (edited_rows k h rows)
  half_after = edited_half k h rows pre half

  some_addresses : network k < end_of k
  some_addresses = omega (arith, size_pos (length_of k))

  inside_answer : (a : ℕ) → network k ≤ a → a < end_of k → plain (edited_rows k h rows) a ≡ inside_of k base rows a
  inside_answer a from to =
      let same = inner_same k rows after (edited_but_for k h rows) half.ascends half_after.ascends in
      rw (own, same) (sym (inner_sweep k pre after half_after a (within_holds k a (prefix_parts k pre) from to)))

  outside : Outside (plain rows) (plain (edited_rows k h rows)) (network k) (end_of k) addresses
  outside = edit_outside k rows after (edited_but_for k h rows) half_after.ascends (end_within k (prefix_parts k pre))

  inside : RunsOf (plain (edited_rows k h rows)) (network k) (end_of k - network k) (starts_inside g (network k) (end_of k))
      (hops_inside g (network k) (end_of k))
  inside = runs_agree g (plain after) net (end - net) _ _ (λ a from to. inside_answer a from (omega (arith, some_addresses)))
      record { starts_are = refl; hops_are = refl }

  pub some_inside : 0 < length (starts_inside (inside_of k base rows) (network k) (end_of k))
  some_inside = (inner_front (plain after) net end some_addresses _ _ inside).0

  module _ (m : Middle) (measured : Measured (inside_of k base rows) (network k) (end_of k) m)
      (s : Splice) (seamed : Seamed (run_starts rows) (run_hops rows) (network k) (end_of k) m s) where
    abbrev i : ℕ
    i = lower net (run_starts rows)

    abbrev j : ℕ
    j = lower (end + 1) (run_starts rows)

    abbrev before : Bool
    before = joins_before (run_starts rows) (run_hops rows) net m.first

    abbrev behind : Bool
    behind = joins_behind (run_starts rows) (run_hops rows) end m.last

    first_is : m.first ≡ plain (edited_rows k h rows) (network k)
    first_is = measured.first_is ∙ sym (inside_answer net (omega arith) some_addresses)

    last_is : m.last ≡ plain (edited_rows k h rows) (end_of k - 1)
    last_is = measured.last_is ∙ sym (inside_answer (end - 1) (omega (arith, some_addresses)) (omega (arith, some_addresses)))

    seams : Seams (plain (edited_rows k h rows)) (network k) (end_of k) addresses (run_starts rows) (run_hops rows) i j before behind
    seams = record {
      place = refl;
      past = refl;
      joins_before_lem = ap (joins_before (run_starts rows) (run_hops rows) net) first_is;
      joins_behind_lem = ap (joins_behind (run_starts rows) (run_hops rows) end) last_is;
    }

    runs_inside : m.runs ≡ length (starts_inside (inside_of k base rows) (network k) (end_of k))
    runs_inside = measured.count ∙ counted_is _ net (end - net)

    low_high : (i ≤ j) × (j ≤ length (run_starts rows)) × (before ≡ true → 0 < i)
    low_high = (
      place_le_past (plain rows) (plain after) net end addresses outside _ _ (table_runs rows) i j before behind seams,
      past_in (plain rows) (plain after) net end addresses outside _ _ (table_runs rows) i j before behind seams,
      joins_some (plain rows) (plain after) net end addresses outside _ _ (table_runs rows) i j before behind seams,
    )

    to_is : s.to ≡ s.from + length (starts_inside (inside_of k base rows) (network k) (end_of k)) + cond behind 0 1
    to_is = rw runs_inside at seamed.to_is

    pub new_starts_lem : run_starts (edited_rows k h rows)
        ≡ new_starts (inside_of k base rows) (network k) (end_of k) s (run_starts rows)
    new_starts_lem =
        let front = inner_front (plain after) net end some_addresses _ _ inside in
        table_starts rows after net end outside i j before behind seams _ _ inside
        ∙ rw seamed.past_is (joined_spliced i j before behind end s.first (starts_inside g net end) (run_starts rows) front.0
        (omega (arith, low_high)) low_high.2 s.from s.to seamed.from_is to_is (rw front.1 seamed.first_is))

    pub new_count : s.to + (length (run_starts rows) - s.past) ≡ length (run_starts (edited_rows k h rows))
    new_count =
        let new = table_count rows after net end outside i j before behind seams _ _ inside in
        let first = either_side i (length (starts_inside g net end)) before some_inside low_high.2 in
        omega (arith, new, first, to_is, seamed.from_is, seamed.past_is)

    -- where the first run inside joins the one before, it has that one's hop
    first_shared : get_or (hops_inside (inside_of k base rows) (network k) (end_of k)) 0 0
        ≡ cond before (get_or (run_hops rows) (i - 1) 0) (get_or (hops_inside (inside_of k base rows) (network k) (end_of k)) 0 0)
    first_shared = go before refl
      where
        there : get_or (hops_inside g net end) 0 0 ≡ m.first
        there = first_hop (plain after) net end some_addresses _ _ inside ∙ sym first_is

        go : (b : Bool) → before ≡ b
            → get_or (hops_inside g net end) 0 0 ≡ cond b (get_or (run_hops rows) (i - 1) 0) (get_or (hops_inside g net end) 0 0)
        go true e = there ∙ eqb-true m.first (get_or (run_hops rows) (i - 1) 0) (and_right (ltb 0 net) _ e)
        go false e = refl

    pub new_hops_lem : run_hops (edited_rows k h rows) ≡ new_hops (inside_of k base rows) (network k) (end_of k) s (run_hops rows)
    new_hops_lem =
        let as_many = inner_paired (plain after) net end some_addresses _ _ inside in
        let some : 0 < length (hops_inside g net end) = omega (arith, some_inside, as_many) in
        let old = same_count rows in
        table_hops rows after net end outside i j before behind seams _ _ inside
        ∙ rw (seamed.past_is, seamed.hop_is) (joined_spliced i j before behind (get_or (run_hops rows) (j - 1) 0)
        (get_or (hops_inside g net end) 0 0) (hops_inside g net end) (run_hops rows) some (omega (arith, old, low_high)) low_high.2
        s.from s.to seamed.from_is (rw as_many to_is) first_shared
        ∙ ap (λ xs. spliced s.from s.to j (get_or (run_hops rows) (j - 1) 0) xs (run_hops rows)) (sym (by_first (hops_inside g net end) some)))

    pub splices : Splices (length (starts_inside (inside_of k base rows) (network k) (end_of k))) (network k) (end_of k)
        (length (run_starts rows)) s
    splices = record {
      some = some_addresses;
      fits = end_within k (prefix_parts k pre);
      from_old = omega (arith, seamed.from_is, seamed.past_is, low_high);
      past_old = omega (arith, seamed.past_is, low_high);
      behind = omega (arith, to_is);
      one_more = omega (arith, to_is, at_most_one behind);
      is_address = λ l.
          let more = one_more_not _ behind (rw to_is at l) in
          leb-false addresses end (or_neither (leb addresses end) _ more).0;
    }
