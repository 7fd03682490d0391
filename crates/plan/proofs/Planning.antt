-- What the plan of an edit is made of, and that it is one: the rows inside the prefix are a part of both slices and begin in it, the old
-- table's columns are a run table's, and what was found gives the counts, the changed number and the table after the edit.
-- Assumes nothing.
use mathlib.Core.Path.{◌≡◌, refl, sym, ap, ◌∙◌, subst}
use mathlib.Core.Bool.{Bool, true, cond}
use mathlib.Core.List.{List, [], ◌∷◌}
use Prim.Native.Nat.{ℕ, ◌+◌, ◌-◌, ◌*◌, ◌≤◌, ◌<◌}
use native.Mathlib.Omega.{arith}
use lib.ListN.{length, take, drop}
use lib.Dec.{eqb}
use Rattle.ground.specs.Column.{is_in, lower}
use Rattle.ground.specs.Stretch.{turns_from}
use Rattle.ground.specs.Stretch.Count.{counted_at_most}
use Rattle.ground.proofs.Truth.{never_both}
use Rattle.ground.proofs.Ascends.{ascends_of}
use Rattle.cidr.specs.Prefix.{key_of, network, length_of, size, end_of, is_prefix}
use Rattle.cidr.proofs.Prefix.{prefix_parts, network_key, size_pos, end_within}
use Rattle.routes.specs.Row.{Row}
use Rattle.routes.specs.Plain.{plain}
use Rattle.routes.proofs.Row.{Has}
use Rattle.routes.proofs.RowsOf.{row_at}
use Rattle.routes.proofs.WellFormed.{HalfGood, half_parts}
use Rattle.routes.proofs.Columns.{length_rows}
use Rattle.runs.specs.Table.{run_starts, run_hops}
use Rattle.runs.proofs.Table.{table_of}
use Rattle.sweep.specs.Sweep.{all_rows, answer, Sorted, From}
use Rattle.sweep.proofs.Sorted.{in_order, keys_are}
use Rattle.within.specs.declared.inside.Middle.{Middle}
use Rattle.plan.specs.declared.table.Splice.{Splice}
use Rattle.within.specs.Middle.{Measured}
use Rattle.within.specs.Own.{enclosing_hop, inner, outer_size}
use Rattle.plan.specs.Joints.{OldTable, Seamed}
use Rattle.plan.specs.Edited.{edited_rows}
use Rattle.plan.specs.Plan.{Planned}
use Rattle.within.proofs.Inner.{inner_has, inner_later}
use Rattle.within.proofs.InnerPlaces.{inner_part, inner_sorted}
use Rattle.within.proofs.Nearest.{row_listed}
use Rattle.within.proofs.Changed.{outer_fits, changed_own}
use Rattle.plan.proofs.Edited.{edited_but_for, edited_half, edited_length}
use Rattle.plan.proofs.Splicing.{splices, new_starts_lem, new_count, new_hops_lem}

-- what a prefix is named by is its key's network, an address
pub network_is : (net len : ℕ) → len ≤ 32 → net ≡ network (key_of net len)
network_is net len short = sym (network_key net len (omega (arith, short)))

pub network_small : (net len : ℕ) → is_prefix (key_of net len) ≡ true → len ≤ 32 → net < 4294967296
network_small net len ok short = omega (arith, network_is net len short, (prefix_parts (key_of net len) ok).within)

-- a list's run table
pub old_table : (rows : List Row) {starts rhops : List ℕ} → starts ≡ run_starts rows → rhops ≡ run_hops rows → OldTable starts rhops
unfolding run_starts run_hops
old_table rows e q =
    let t = table_of (plain rows) in
    rw (e, q) record { paired = t.paired; some = t.some_run; first = t.first; ascend = ascends_of _ t.ascend }

-- a listed key is one of some
pub listed_some : (k : ℕ) (keys : List ℕ) → is_in k keys ≡ true → 0 < length keys
unfolding is_in
listed_some k [] e = never_both e refl
listed_some k (x ∷ xs) e = omega arith

-- as many runs as were measured are no more than there are addresses
pub few_runs : {g : ℕ → ℕ} {net end : ℕ} {m : Middle} → Measured g net end m → end ≤ 4294967296 → m.runs ≤ 4294967296
few_runs {g} {net} {end} w fits = omega (arith, w.count, counted_at_most (turns_from net g) net (end - net))

module _ {keys hops : List ℕ} (s : Sorted keys hops) (k : ℕ) (pre : is_prefix k ≡ true) where
  abbrev rows : List Row
  rows = all_rows keys hops

  half : HalfGood (all_rows keys hops)
  half = half_parts rows s.half

  module _ {net end f u : ℕ} (begins : net ≡ network k) (ends : end ≡ end_of k)
      (from : f ≡ lower (k + 1) keys) (upto : u ≡ lower (end_of k * 64) keys) where
    pub some_addresses : (net < end) × (end ≤ 4294967296)
    some_addresses = (omega (arith, begins, ends, size_pos (length_of k)), omega (arith, ends, end_within k (prefix_parts k pre)))

    -- the rows inside begin in the prefix
    pub part_from : From (take (u - f) (drop f keys)) net
    part_from i l =
        let p = inner_sorted s k pre from upto in
        let r = row_at (take (u - f) (drop f keys)) (take (u - f) (drop f hops)) i in
        let m : Has r (inner k rows) = subst (Has r) (sym (inner_part s k pre from upto)) (row_listed p i l) in
        omega (arith, begins, inner_later k (prefix_parts k pre) rows half r (inner_has k rows r m))

    -- and hold no more than it
    pub part_fits : outer_size (network k) (all_rows (take (u - f) (drop f keys)) (take (u - f) (drop f hops))) ≤ size (length_of k)
    part_fits = rw (inner_part s k pre from upto) at (outer_fits k pre rows half)

    module _ (h : ℕ) {listed : Bool} (found : listed ≡ is_in k keys) (may : h ≡ 0 → listed ≡ true)
        {old base : ℕ} (before : old ≡ enclosing_hop k (all_rows keys hops)) (after : base ≡ enclosing_hop k (edited_rows k h (all_rows keys hops)))
        {m : Middle}
        (measured : Measured (answer base (all_rows (take (u - f) (drop f keys)) (take (u - f) (drop f hops)))) net end m)
        {starts rhops : List ℕ} (its-starts : starts ≡ run_starts (all_rows keys hops)) (its-hops : rhops ≡ run_hops (all_rows keys hops))
        {sp : Splice} (seamed : Seamed starts rhops net end m sp)
        {changed n r : ℕ}
        (changes : changed ≡ cond (eqb old base) 0 (size (length_of k)
        - outer_size (network k) (all_rows (take (u - f) (drop f keys)) (take (u - f) (drop f hops)))))
        (rows_are : n ≡ cond (eqb h 0) (length keys - 1) (cond listed (length keys) (length keys + 1)))
        (runs_are : r ≡ sp.to + (length starts - sp.past)) where
      measured_inner : Measured (answer base (inner k (all_rows keys hops))) (network k) (end_of k) m
      measured_inner = rw (← inner_part s k pre from upto, begins, ends) at measured

      seamed_there : Seamed (run_starts (all_rows keys hops)) (run_hops (all_rows keys hops)) (network k) (end_of k) m sp
      seamed_there = rw (begins, ends, its-starts, its-hops) at seamed

      as_many : length (all_rows keys hops) ≡ length keys
      as_many = length_rows (length keys) keys hops (omega arith) (omega (arith, s.paired))

      pub planned : Planned k h keys hops starts rhops
          record { from = f; upto = u; base = base; rows = n; runs = r; changed = changed; splice = sp }
      planned = rw (its-starts, its-hops) record {
        total_is = rw its-starts at runs_are;
        rows_are = rows_are ∙ (rw as_many at (edited_length k h rows listed (in_order s) (found ∙ ap (is_in k) (sym (keys_are s))) may));
        runs_are = (rw its-starts at runs_are) ∙ new_count k h pre rows half base after m measured_inner sp seamed_there;
        changed_is = (rw (before, after, ← inner_part s k pre from upto) at changes)
            ∙ sym (changed_own k pre rows half (edited_rows k h rows) (edited_but_for k h rows) (edited_half k h rows pre half));
        from_is = from;
        upto_is = upto;
        splices = splices k h pre rows half base after m measured_inner sp seamed_there;
        starts_are = new_starts_lem k h pre rows half base after m measured_inner sp seamed_there;
        hops_are = new_hops_lem k h pre rows half base after m measured_inner sp seamed_there;
      }
