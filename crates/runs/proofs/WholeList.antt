-- The sweep over a whole list: its slices are sorted where the list is well-formed or a half, its answer with base 0 is the plain answer,
-- and so the turns of that answer over all addresses are the list's run table.
-- Assumes nothing.
use mathlib.Core.Path.{◌≡◌, refl, sym, ap, ◌∙◌, fun_ext}
use mathlib.Core.Bool.{Bool, true, false}
use mathlib.Core.List.{List, [], ◌∷◌, map}
use Prim.Native.Nat.{ℕ, ◌+◌, ◌*◌, ◌≤◌, ◌<◌}
use native.Mathlib.Omega.{arith}
use lib.ListN.{length, take}
use lib.Seq.{length-take-le}
use lib.Dec.{leb}
use borrow.Author.Tests.{leb-true, leb-false, le-leb, lt-ltb, le-ltb}
use Rattle.ground.proofs.Truth.{and_right}
use Rattle.ground.specs.Numbers.{done, no_room}
use Rattle.ground.specs.Stretch.{picked, counted, turns}
use Rattle.ground.specs.Stretch.Count.{counted_is}
use Rattle.cidr.specs.Prefix.{holds}
use Rattle.routes.specs.Row.{Row, rows_of, hops_of, list_room, those}
use Rattle.routes.specs.WellFormed.{well_formed, half_formed, formed}
use Rattle.routes.specs.Plain.{matching, plain}
use Rattle.routes.proofs.RowsOf.{rows_taken}
use Rattle.routes.proofs.ListTest.{half_room}
use Rattle.routes.proofs.Columns.{length_rows}
use Rattle.routes.proofs.LastMatch.{last_hop, plain_last}
use Rattle.runs.specs.Table.{run_starts, run_hops, run_hops_of}
use Rattle.runs.specs.Table.Laws.{starts_are}
use Rattle.runs.specs.Build.{slots_lent, built, run_room}
use Rattle.runs.specs.Inside.Rows.{build_rows}
use Rattle.sweep.specs.Sweep.{last_or, all_rows, answer, Sorted, RunsWritten}
use Rattle.sweep.proofs.Sorted.{in_order}
use Rattle.runs.proofs.Table.{runs_at_most}

-- the hop that a walk over the rows keeps is that of the last row that holds the address
pub last_is : (a h : ℕ) (rows : List Row) → last_hop h a rows ≡ last_or h (hops_of (matching a rows))
unfolding last_hop last_or matching those
last_is a h [] = refl
last_is a h (r ∷ rs) = go (holds r.key a) refl (λ h'. last_is a h' rs)
  where
    go : (b : Bool) → holds r.key a ≡ b → ((h' : ℕ) → last_hop h' a rs ≡ last_or h' (hops_of (matching a rs)))
        → last_hop h a (r ∷ rs) ≡ last_or h (hops_of (matching a (r ∷ rs)))
    go true e rec = rw e (rec r.hop)
    go false e rec = rw e (rec h)

module _ {keys hops : List ℕ} (s : Sorted keys hops) where
  pub answer_plain : answer 0 (all_rows keys hops) ≡ plain (all_rows keys hops)
  unfolding answer
  answer_plain = fun_ext (λ a. sym (plain_last a (all_rows keys hops) (in_order s) ∙ last_is a 0 (all_rows keys hops)))

  pub whole_starts : picked (turns (answer 0 (all_rows keys hops))) 0 4294967296 ≡ run_starts (all_rows keys hops)
  unfolding run_starts
  whole_starts = rw answer_plain (sym (starts_are (plain (all_rows keys hops))))

  pub whole_hops : map (answer 0 (all_rows keys hops)) (picked (turns (answer 0 (all_rows keys hops))) 0 4294967296)
      ≡ run_hops (all_rows keys hops)
  unfolding run_hops run_hops_of
  whole_hops = rw answer_plain (rw (sym (starts_are (plain (all_rows keys hops)))))

  whole_count : counted (turns (answer 0 (all_rows keys hops))) 0 4294967296 ≡ length (run_starts (all_rows keys hops))
  whole_count = counted_is (turns (answer 0 (all_rows keys hops))) 0 4294967296 ∙ ap length whole_starts

  at_most_twice : length (run_starts (all_rows keys hops)) ≤ 2 * length keys + 1
  at_most_twice =
      let rows : length (all_rows keys hops) ≡ length keys = length_rows (length keys) keys hops (omega arith) (omega (arith, s.paired)) in
      rw rows at (runs_at_most (all_rows keys hops))

-- what the list test says
pub list_test : (count : ℕ) (keys hops : List ℕ) {b : Bool} → b ≡ formed false count keys hops → well_formed count keys hops ≡ b
unfolding formed
list_test count keys hops e = sym e

-- a list whose rows are in order, label 0 or not, as the slices of its rows
module _ (count : ℕ) (keys hops : List ℕ) (e : half_formed count keys hops ≡ true) where
  pub in_keys : count ≤ length keys
  unfolding list_room
  in_keys = omega (arith, half_room count keys hops e)

  pub in_hops : count ≤ length hops
  unfolding list_room
  in_hops = omega (arith, half_room count keys hops e)

  pub keys_taken : count ≡ length (take count keys)
  keys_taken = sym (length-take-le count keys in_keys)

  pub hops_taken : count ≡ length (take count hops)
  hops_taken = sym (length-take-le count hops in_hops)

  pub slices_rows : all_rows (take count keys) (take count hops) ≡ rows_of count keys hops
  slices_rows = rw (length-take-le count keys in_keys) (rows_taken count keys hops)

  pub slices_sorted : Sorted (take count keys) (take count hops)
  unfolding half_formed
  slices_sorted = record {
    paired = rw (length-take-le count hops in_hops) (sym (length-take-le count keys in_keys));
    half = rw slices_rows (and_right (leb count (list_room keys hops)) _ e);
  }

-- What a build of the rows says in each of its answers.
module _ {keys hops : List ℕ} (s : Sorted keys hops) (room : ℕ) where
  pub room_twice : 2 * length keys < room → true ≡ leb (length (run_starts (all_rows keys hops))) room
  room_twice l = sym (le-leb (length (run_starts (all_rows keys hops))) room (omega (arith, at_most_twice s)))

  pub room_counted : {n : ℕ} → n ≡ counted (turns (answer 0 (all_rows keys hops))) 0 4294967296
      → leb n room ≡ leb (length (run_starts (all_rows keys hops))) room
  room_counted e = ap (λ n. leb n room) (e ∙ whole_count s)

same_built : {n n' : ℕ} {s s' h h' : List ℕ} → n ≡ n' → s ≡ s' → h ≡ h' → built done n s h ≡ built done n' s' h'
same_built p q r = cc

module _ {keys hops : List ℕ} (s : Sorted keys hops) (starts rhops : List ℕ) where
  pub rows_no_room : leb (length (run_starts (all_rows keys hops))) (run_room starts rhops) ≡ false
      → built no_room 0 starts rhops ≡ build_rows (all_rows keys hops) (slots_lent starts rhops)
  unfolding build_rows
  rows_no_room e = rw (lt-ltb (run_room starts rhops) (length (run_starts (all_rows keys hops))) (leb-false _ _ e))

  module _ (e : leb (length (run_starts (all_rows keys hops))) (run_room starts rhops) ≡ true) where
    pub room_for_runs : (counted (turns (answer 0 (all_rows keys hops))) 0 4294967296 ≤ length starts)
        × (counted (turns (answer 0 (all_rows keys hops))) 0 4294967296 ≤ length rhops)
    unfolding run_room
    room_for_runs =
        let few = leb-true (length (run_starts (all_rows keys hops))) (run_room starts rhops) e in
        (omega (arith, whole_count s), omega (arith, whole_count s))

    pub rows_runs : {n : ℕ} {starts' rhops' : List ℕ}
        → RunsWritten (answer 0 (all_rows keys hops)) 0 4294967296 starts rhops n starts' rhops'
        → built done n starts' rhops' ≡ build_rows (all_rows keys hops) (slots_lent starts rhops)
    unfolding build_rows
    rows_runs w =
        rw (le-ltb (run_room starts rhops) (length (run_starts (all_rows keys hops))) (leb-true _ _ e))
        (same_built (w.count ∙ whole_count s) (w.starts_are ∙ rw (whole_starts s)) (w.hops_are ∙ rw (whole_hops s)))

-- A count of runs within the room is within both slices.
module _ (runs : ℕ) (starts rhops : List ℕ) (l : runs ≤ run_room starts rhops) where
  pub in_starts : runs ≤ length starts
  unfolding run_room
  in_starts = omega arith

  pub in_rhops : runs ≤ length rhops
  unfolding run_room
  in_rhops = omega arith

  pub starts_taken : runs ≡ length (take runs starts)
  starts_taken = sym (length-take-le runs starts in_starts)

  pub rhops_taken : runs ≡ length (take runs rhops)
  rhops_taken = sym (length-take-le runs rhops in_rhops)

  pub runs_paired : length (take runs rhops) ≡ length (take runs starts)
  runs_paired = rw (length-take-le runs rhops in_rhops) (sym (length-take-le runs starts in_starts))

-- what a build of rows goes by, and the slices of a list's rows
pub ruleset building = (rows_no_room, room_for_runs, rows_runs)

pub ruleset sliced = (keys_taken, hops_taken, slices_sorted, slices_rows)
