-- A run table rewritten in place, column by column: the old numbers up to a slot, the runs inside the prefix from there on, one number more
-- where a slot is left for it before the block, and the block, the old numbers from a place on.
-- Assumes nothing.
use Rattle.std.specs.Prelude.{◌≡◌, List, ◌∷◌, ◌++◌, map, ℕ, ◌+◌, ◌-◌, ◌≤◌, ◌<◌, length, take, drop, ltb}
use Rattle.ground.specs.Slots.{rewritten}
use Rattle.ground.specs.Stretch.{picked, turns_from}
use Rattle.plan.specs.declared.table.Splice.{Splice}
use Rattle.within.specs.Seams.{one}

-- a column with the inside from slot `from` on, the number e behind it if the block goes further up than that, and the block from `past` on
abbrev pub spliced : ℕ → ℕ → ℕ → ℕ → List ℕ → List ℕ → List ℕ
spliced from to past e inner old = take from old ++ (inner ++ (one (ltb (from + length inner) to) e ++ drop past old))

-- the runs of an answer g over the addresses from net up to end
abbrev pub starts_inside : (ℕ → ℕ) → ℕ → ℕ → List ℕ
starts_inside g net end = picked (turns_from net g) net (end - net)

abbrev pub hops_inside : (ℕ → ℕ) → ℕ → ℕ → List ℕ
hops_inside g net end = map g (starts_inside g net end)

-- the new table by the old one: its starts, in which slot `from` has a number of its own, and its hops
abbrev pub new_starts : (ℕ → ℕ) → ℕ → ℕ → Splice → List ℕ → List ℕ
new_starts g net end s old = spliced s.from s.to s.past end (s.first ∷ drop 1 (starts_inside g net end)) old

abbrev pub new_hops : (ℕ → ℕ) → ℕ → ℕ → Splice → List ℕ → List ℕ
new_hops g net end s old = spliced s.from s.to s.past s.hop (hops_inside g net end) old

-- a splice of m runs into a table of n: the block begins behind the inside or one slot further up, and there end is an address
pub record Splices (m net end n : ℕ) (s : Splice) : Type 0 where
  pub some : net < end
  pub fits : end ≤ 4294967296
  pub from_old : s.from ≤ s.past
  pub past_old : s.past ≤ n
  pub behind : s.from + m ≤ s.to
  pub one_more : s.to ≤ s.from + m + 1
  pub is_address : s.from + m < s.to → end < 4294967296

-- the table of n runs that the slices had was rewritten
pub record Spliced (g : ℕ → ℕ) (net end n : ℕ) (s : Splice) (starts rhops starts' rhops' : List ℕ) : Type 0 where
  pub starts_are : starts' ≡ rewritten (new_starts g net end s (take n starts)) n starts
  pub hops_are : rhops' ≡ rewritten (new_hops g net end s (take n rhops)) n rhops
