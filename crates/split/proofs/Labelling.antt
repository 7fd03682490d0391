-- The walk along the rows from place k on, with the open prefixes of the first half. Their networks don't fall, so the sweep over the first
-- half, all of whose rows were opened, moves on to each of them; the last open hop is the first half's plain answer there, with which the
-- row's hop makes its label.
-- Assumes nothing.
use mathlib.Core.Path.{◌≡◌, refl, sym, ap, ◌∙◌}
use mathlib.Core.Logic.{⊎_elim}
use mathlib.Core.List.{List, [], ◌∷◌, map}
use Prim.Native.Nat.{ℕ, zero, suc, ◌+◌, ◌-◌, ◌≤◌, ◌<◌}
use native.Mathlib.Omega.{arith}
use lib.Bits.{bit_xor}
use lib.ListN.{length, get_or, take, drop, set, length-map, length-take, length-drop}
use lib.Seq.{length-take-le, get_or-take, get_or-drop}
use lib.Dec.{leb}
use borrow.Author.Tests.{leb-true, leb-false}
use Rattle.ground.specs.Slots.{written}
use Rattle.ground.proofs.Truth.{decided}
use Rattle.cidr.specs.Prefix.{network}
use Rattle.routes.specs.Row.{Row, row}
use Rattle.routes.specs.Plain.{plain}
use Rattle.routes.proofs.Row.{has_at}
use Rattle.routes.proofs.RowsOf.{row_at, rows_taken, rows_front, row_there}
use Rattle.routes.proofs.WellFormed.{half_parts}
use Rattle.routes.proofs.Columns.{length_rows}
use Rattle.runs.proofs.WholeList.{answer_plain}
use Rattle.sweep.specs.Sweep.{last_or, all_rows, Sorted, Stack}
use Rattle.sweep.proofs.Sorted.{climbs}
use Rattle.sweep.proofs.Stack.{onward, standing_answer, few_open}
use Rattle.split.specs.Split.{relabelled, first_half}
use Rattle.split.specs.Inside.Labels.{AllOpen, Labelled, labels_from}
use Rattle.split.proofs.Halves.{first_half_good}
use Rattle.split.proofs.Covering.{label_is}
use Rattle.split.proofs.Filling.{Filling, filling_start, filling_next, filling_end}

-- what a function makes of a list, at a place
map_at : {A B : Type 0} (f : A → B) (xs : List A) (i : ℕ) (d : A) (e : B) → i < length xs → get_or (map f xs) i e ≡ f (get_or xs i d)
map_at f [] i d e l = absurd (omega arith)
map_at f (x ∷ xs) zero d e l = refl
map_at f (x ∷ xs) (suc i) d e l = map_at f xs i d e (omega arith)

module _ {keys hops : List ℕ} (s : Sorted keys hops) {k : ℕ} (within : k ≤ length keys) where
  abbrev rows : List Row
  rows = all_rows keys hops

  as_many : length rows ≡ length keys
  as_many = length_rows (length keys) keys hops (omega arith) (omega (arith, s.paired))

  -- the first half's rows, as the slices have them
  pub first_rows : all_rows (take k keys) (take k hops) ≡ first_half k rows
  unfolding first_half
  first_rows = rw (length-take-le k keys within) (rows_taken k keys hops ∙ sym (rows_front k (length keys) keys hops within))

  pub first_sorted : Sorted (take k keys) (take k hops)
  first_sorted = record {
    paired = rw (length-take-le k hops (omega (arith, s.paired))) (sym (length-take-le k keys within));
    half = rw first_rows (first_half_good k rows (half_parts rows s.half));
  }

  -- networks don't fall
  network_climbs : (i j : ℕ) → i < j → j < length keys → network (get_or keys i 0) ≤ network (get_or keys j 0)
  network_climbs i j l m = omega (arith, climbs s i j l m)

  pub first_behind : (j : ℕ) → k ≤ j → j < length keys
      → (i : ℕ) → i < length (take k keys) → network (get_or (take k keys) i 0) ≤ network (get_or keys j 0)
  first_behind j l m i lt =
      let small : i < k = omega (arith, length-take k keys) in
      rw (get_or-take k keys i 0 small) (network_climbs i j (omega arith) m)

  -- the labels
  pub labels_long : length (labels_from k rows) ≡ length keys - k
  unfolding labels_from
  labels_long = simp (length-map, length-drop) (omega (arith, as_many))

  pub label_at : (slot : ℕ) → k + slot < length keys → get_or (labels_from k rows) slot 0
      ≡ bit_xor (get_or hops (k + slot) 0) (plain (first_half k rows) (network (get_or keys (k + slot) 0)))
  unfolding labels_from
  label_at slot l =
      let d : Row = row 0 0 in
      let left : slot < length (drop k rows) = omega (arith, length-drop k rows, as_many) in
      let here : get_or (drop k rows) slot d ≡ row_at keys hops (k + slot)
      = get_or-drop k rows slot d ∙ row_there (length keys) keys hops (k + slot) d l l (omega (arith, s.paired)) in
      let label = label_is k rows (half_parts rows s.half) (get_or (drop k rows) slot d) (has_at (drop k rows) slot d left) in
      map_at (λ r. r.hop) (map (relabelled (first_half k rows)) (drop k rows)) slot d 0 (rw length-map left)
      ∙ ap (λ r. r.hop) (map_at (relabelled (first_half k rows)) (drop k rows) slot d d left ∙ label)
      ∙ rw here

-- Where the walk stands: at row i, with the labels of the rows before it written.
pub record Labelling (keys hops : List ℕ) (k : ℕ) (old labels ends open-hops : List ℕ) (row depth at i : ℕ) : Type 0 where
  pub stack : Stack (take k keys) (take k hops) ends open-hops row depth at (at + 1)
  pub all : row ≡ length (take k keys)
  pub behind : (j : ℕ) → i ≤ j → j < length keys → at ≤ network (get_or keys j 0)
  pub filling : Filling (labels_from k (all_rows keys hops)) old labels (i - k)
  pub from : k ≤ i

module _ {keys hops : List ℕ} (s : Sorted keys hops) {k : ℕ} where
  pub labelling_start : {labels ends open-hops : List ℕ} {row depth at : ℕ} → Labelled k keys labels
      → AllOpen (take k keys) (take k hops) ends open-hops row depth at
      → Labelling keys hops k labels labels ends open-hops row depth at k
  labelling_start l o =
      let none : k - k ≡ 0 = omega arith in
      record {
        stack = o.stack;
        all = o.all;
        behind = λ j m lt. o.reached (network (get_or keys j 0)) (first_behind s l.within j m lt);
        filling = rw none (filling_start _ _ (omega (arith, labels_long s l.within, l.room)));
        from = omega arith;
      }

  module _ (within : k ≤ length keys) {old labels ends open-hops : List ℕ} {row depth at i : ℕ}
      (w : Labelling keys hops k old labels ends open-hops row depth at i) where
    module _ (l : i < length keys) where
      module _ {to : ℕ} (here : to ≡ network (get_or keys i 0)) where
        pub may_go : Stack (take k keys) (take k hops) ends open-hops row depth at to × (at ≤ to)
        may_go =
            let first = first_sorted s within in
            (onward first w.stack to (λ m. absurd (omega (arith, w.all))), omega (arith, w.behind i (omega arith) l))

        module _ {ends' open-hops' : List ℕ} {row' depth' at' : ℕ}
            (moved : (at' ≡ to) × Stack (take k keys) (take k hops) ends' open-hops' row' depth' to (to + 1)) where
          pub may_look : (depth' ≤ 33) × (length open-hops' ≡ 33)
          may_look = (few_open (first_sorted s within) moved.1, moved.1.hops_room)

          -- every row of the first half was opened
          still_all : row' ≡ length (take k keys)
          still_all = ⊎_elim
              (λ q. omega (arith, leb-true (length (take k keys)) row' q, moved.1.within))
              (λ q. let lt = leb-false (length (take k keys)) row' q in
              absurd (omega (arith, moved.1.ahead row' (omega arith) lt, first_behind s within i w.from l row' lt)))
              (decided (leb (length (take k keys)) row'))

          -- the last open hop is the first half's plain answer
          last_open : last_or 0 (take depth' open-hops') ≡ plain (first_half k (all_rows keys hops)) to
          last_open =
              let first = first_sorted s within in
              sym (standing_answer first moved.1 0 (omega arith)) ∙ ap (λ f. f to) (answer_plain first)
              ∙ ap (λ rs. plain rs to) (first_rows s within)

          pub labelling_next : {hop slot : ℕ} → hop ≡ last_or 0 (take depth' open-hops') → slot ≡ i - k
              → Labelling keys hops k old (set labels slot (bit_xor (get_or hops i 0) hop)) ends' open-hops' row' depth' at' (i + 1)
          labelling_next {hop} e slot_is =
              let more : i + 1 - k ≡ i - k + 1 = omega (arith, w.from) in
              let there : k + (i - k) ≡ i = omega (arith, w.from) in
              record {
                stack = rw moved.0 moved.1;
                all = still_all;
                behind = λ j m lt. omega (arith, moved.0, network_climbs s within i j (omega arith) lt);
                filling = rw (more, slot_is) (filling_next w.filling (omega (arith, labels_long s within, w.from))
                    (rw (e, last_open, here) (rw there at (sym (label_at s within (i - k) (omega (arith, w.from)))))));
                from = omega (arith, w.from);
              }

    pub labelling_end : length keys ≤ i → labels ≡ written (labels_from k (all_rows keys hops)) old
    labelling_end l = filling_end w.filling (omega (arith, labels_long s within, w.from))
