-- The writing of a planned edit: the rows inside the prefix are a part of the whole slices as of their front, both rooms are enough, and the
-- spliced columns are the run table afterwards.
-- Assumes nothing.
use mathlib.Core.Path.{◌≡◌, sym, ap, ◌∙◌}
use mathlib.Core.Bool.{true}
use mathlib.Core.List.{List}
use Prim.Native.Nat.{ℕ, ◌+◌, ◌-◌, ◌≤◌}
use native.Mathlib.Omega.{arith}
use lib.ListN.{length, take, drop}
use lib.Seq.{length-take-le, take-take}
use Rattle.ground.specs.Slots.{rewritten}
use Rattle.ground.proofs.Moves.{drop_take}
use Rattle.cidr.specs.Prefix.{network, end_of}
use Rattle.routes.specs.Row.{keys_of, hops_of, list_room}
use Rattle.routes.specs.WellFormed.{half_formed}
use Rattle.runs.specs.Table.{run_starts, run_hops}
use Rattle.runs.specs.Build.{run_room}
use Rattle.runs.specs.Pair.{Pair, list_of}
use Rattle.runs.proofs.Agreed.{agreed_half, agreed_room}
use Rattle.runs.proofs.WholeList.{in_keys, in_hops, in_starts, in_rhops, slices_rows, slices_sorted}
use Rattle.sweep.specs.Sweep.{all_rows, answer, Sorted, From}
use Rattle.std.specs.Prelude.{Result, IsOk}
use Rattle.plan.specs.declared.Plan.{Plan}
use Rattle.within.specs.Own.{inner}
use Rattle.plan.specs.Found.{FoundIn}
use Rattle.plan.specs.Edited.{edited_rows}
use Rattle.plan.specs.Splice.{starts_inside, new_starts, new_hops, Splices, Spliced}
use Rattle.edit.specs.Inside.Writing.{MayWrite, Wrote}
use Rattle.edit.proofs.Accepted.{fit}
use Rattle.within.proofs.InnerPlaces.{inner_places, inner_part, inner_sorted}
use Rattle.plan.proofs.Planning.{part_from}

-- a part that ends within the front of a slice
part_of_front : (f u n : ℕ) (xs : List ℕ) → f ≤ u → u ≤ n → take (u - f) (drop f (take n xs)) ≡ take (u - f) (drop f xs)
part_of_front f u n xs l m = rw (drop_take f n xs) (take-take (u - f) (n - f) (drop f xs) (omega arith))

module _ {k h : ℕ} {f : Result ℕ ℕ} {plan : Plan} {p : Pair} (w : MayWrite k h f plan p) where
  abbrev keys : List ℕ
  keys = p.list.keys

  abbrev hops : List ℕ
  hops = p.list.hops

  abbrev count : ℕ
  count = p.list.count

  -- the rows inside, in the whole slices
  abbrev part : List ℕ → List ℕ
  part xs = take (plan.upto - plan.from) (drop plan.from xs)

  half : half_formed p.list.count p.list.keys p.list.hops ≡ true
  half = agreed_half p w.agreed

  sorted : Sorted (take p.list.count p.list.keys) (take p.list.count p.list.hops)
  sorted = slices_sorted count keys hops half

  places : (plan.from ≤ plan.upto) × (plan.upto ≤ p.list.count)
  places =
      let in_front = inner_places sorted k w.prefix w.planned.from_is w.planned.upto_is in
      (in_front.0, omega (arith, in_front.1, length-take-le count keys (in_keys count keys hops half)))

  pub part_within : (plan.from ≤ plan.upto) × (plan.upto ≤ length p.list.keys) × (plan.upto ≤ length p.list.hops)
  part_within = (
    places.0,
    omega (arith, places, in_keys count keys hops half),
    omega (arith, places, in_hops count keys hops half),
  )

  part_keys : part (take p.list.count p.list.keys) ≡ part p.list.keys
  part_keys = part_of_front plan.from plan.upto count keys places.0 places.1

  part_hops : part (take p.list.count p.list.hops) ≡ part p.list.hops
  part_hops = part_of_front plan.from plan.upto count hops places.0 places.1

  pub part_sorted : Sorted (part p.list.keys) (part p.list.hops)
  part_sorted = rw (part_keys, part_hops) at (inner_sorted sorted k w.prefix w.planned.from_is w.planned.upto_is)

  inside_is : inner k (all_rows (take p.list.count p.list.keys) (take p.list.count p.list.hops))
      ≡ all_rows (part p.list.keys) (part p.list.hops)
  inside_is = inner_part sorted k w.prefix w.planned.from_is w.planned.upto_is ∙ rw (part_keys, part_hops)

  -- what the edit needs is within both rooms
  rooms : (length (edited_rows k h (list_of p)) ≤ list_room p.list.keys p.list.hops)
      × (length (run_starts (edited_rows k h (list_of p))) ≤ run_room p.table.starts p.table.hops)
  rooms = fit (edited_rows k h (list_of p)) p w.fits

  same_list : all_rows (take p.list.count p.list.keys) (take p.list.count p.list.hops) ≡ list_of p
  same_list = slices_rows count keys hops half

  old_runs : (p.table.count ≤ length p.table.starts) × (p.table.count ≤ length p.table.hops)
  old_runs = (
    in_starts p.table.count p.table.starts p.table.hops (agreed_room p w.agreed),
    in_rhops p.table.count p.table.starts p.table.hops (agreed_room p w.agreed),
  )

  old_count : length (take p.table.count p.table.starts) ≡ p.table.count
  old_count = length-take-le p.table.count p.table.starts old_runs.0

  new_runs : (plan.splice.to + (p.table.count - plan.splice.past) ≤ length p.table.starts)
      × (plan.splice.to + (p.table.count - plan.splice.past) ≤ length p.table.hops)
  unfolding run_room
  new_runs =
      let total = rw old_count at w.planned.total_is in
      let after = rw same_list at w.planned.runs_are in
      (omega (arith, total, after, rooms), omega (arith, total, after, rooms))

  -- what the writing of the row asks
  pub row_asks : (half_formed p.list.count p.list.keys p.list.hops ≡ true)
      × FoundIn (take p.list.count p.list.keys) k f
      × (h ≡ 0 → IsOk f)
      × (length (edited_rows k h (list_of p)) ≤ list_room p.list.keys p.list.hops)
  row_asks = (half, w.found, w.may, rooms.0)

  module _ {net end : ℕ} (begins : net ≡ network k) (ends : end ≡ end_of k) where
    -- what the splicing asks
    pub splice_asks : From (part p.list.keys) net
        × Splices (length (starts_inside (answer plan.base (all_rows (part p.list.keys) (part p.list.hops))) net end)) net end
        p.table.count plan.splice
        × (p.table.count ≤ length p.table.starts)
        × (p.table.count ≤ length p.table.hops)
        × (plan.splice.to + (p.table.count - plan.splice.past) ≤ length p.table.starts)
        × (plan.splice.to + (p.table.count - plan.splice.past) ≤ length p.table.hops)
    splice_asks = (
      rw part_keys at (part_from sorted k w.prefix begins ends w.planned.from_is w.planned.upto_is),
      rw (begins, ends) (rw (inside_is, old_count) at w.planned.splices),
      old_runs.0,
      old_runs.1,
      new_runs.0,
      new_runs.1,
    )

    pub wrote : {keys' hops' starts' rhops' : List ℕ}
        → (keys' ≡ rewritten (keys_of (edited_rows k h (list_of p))) p.list.count p.list.keys)
        × (hops' ≡ rewritten (hops_of (edited_rows k h (list_of p))) p.list.count p.list.hops)
        → Spliced (answer plan.base (all_rows (part p.list.keys) (part p.list.hops))) net end p.table.count plan.splice
        p.table.starts p.table.hops starts' rhops'
        → Wrote k h p keys' hops' starts' rhops'
    wrote row runs = record {
      keys_are = row.0;
      hops_are = row.1;
      starts_are = runs.starts_are ∙ ap (λ xs. rewritten xs p.table.count p.table.starts) (rw (begins, ends) new_starts_lem);
      rhops_are = runs.hops_are ∙ ap (λ xs. rewritten xs p.table.count p.table.hops) (rw (begins, ends) new_hops_lem);
    }
      where
        new_starts_lem : new_starts (answer plan.base (all_rows (part p.list.keys) (part p.list.hops))) (network k) (end_of k)
            plan.splice (take p.table.count p.table.starts) ≡ run_starts (edited_rows k h (list_of p))
        new_starts_lem = sym (rw (inside_is, same_list) at w.planned.starts_are)

        new_hops_lem : new_hops (answer plan.base (all_rows (part p.list.keys) (part p.list.hops))) (network k) (end_of k)
            plan.splice (take p.table.count p.table.hops) ≡ run_hops (edited_rows k h (list_of p))
        new_hops_lem = sym (rw (inside_is, same_list) at w.planned.hops_are)
