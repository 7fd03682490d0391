-- The walk over a run table from block to block. More runs have begun at a later address; one has begun at every address, since the first
-- start is 0. So where the walk stands at a block it may go on to the next one, with that block's hop as the last.
-- Assumes nothing.
use mathlib.Core.Path.{◌≡◌, refl, ◌∙◌}
use mathlib.Core.Bool.{Bool, true, false, not}
use mathlib.Core.List.{List}
use Prim.Native.Nat.{ℕ, zero, suc, ◌+◌, ◌-◌, ◌*◌, ◌≤◌, ◌<◌}
use native.Mathlib.Omega.{arith}
use lib.ListN.{length, get_or}
use lib.Dec.{eqb}
use borrow.Author.Tests.{lt-ltb, le-ltb, ne_eqb}
use Rattle.ground.specs.Column.{ascends, lower}
use Rattle.ground.specs.Stretch.{turns_from}
use Rattle.ground.proofs.Lower.{lower_le, lower_within, lower_beyond, lower_mono}
use Rattle.segment.specs.declared.Walk.{Walk}
use Rattle.segment.specs.Packed.{bit}
use Rattle.segment.specs.Inside.Blocks.{Runs, begun, hop_at, hop_in, Stands, Before}

module _ {starts rhops : List ℕ} (t : Runs starts rhops) where
  pub some_begun : (a : ℕ) → 0 < begun starts a
  some_begun a = lower_within (a + 1) starts t.ascend 0 t.some_run (omega (arith, t.first))

  pub begun_place : (a : ℕ) → begun starts a - 1 < length rhops
  begun_place a = omega (arith, lower_le (a + 1) starts, t.paired, some_begun a)

  pub begun_first : (a : ℕ) {n : ℕ} → (ascends starts ≡ true → n ≡ lower (a + 1) starts) → n ≡ begun starts a
  begun_first a is = is t.ascend

-- how many runs have begun at an address, found by a walk along the starts
module _ (starts : List ℕ) (at n : ℕ) (a : ascends starts ≡ true) (known : n ≤ begun starts at) where
  pub begun_stops : n < length starts → at < get_or starts n 0 → n ≡ begun starts at
  begun_stops l m = omega (arith, lower_beyond (at + 1) starts a n l (omega arith))

  pub begun_more : n < length starts → get_or starts n 0 ≤ at → n + 1 ≤ begun starts at
  begun_more l m = omega (arith, lower_within (at + 1) starts a n l (omega arith))

  pub begun_all : length starts ≤ n → length starts ≡ begun starts at
  begun_all l = omega (arith, lower_le (at + 1) starts)

pub ruleset begun_walk = (begun_stops, begun_more, begun_all)

pub stands_at : (starts rhops : List ℕ) (at n hop : ℕ) → n ≡ begun starts at → hop ≡ get_or rhops (n - 1) 0
    → Stands starts rhops at (record { begun = n; hop = hop })
unfolding hop_at
stands_at starts rhops at n hop is e = record { begun_is = is; hop_is = e ∙ rw is }

-- where no run begins on the way to an address, the walk stands there with the hop that it has
module _ {starts rhops : List ℕ} (t : Runs starts rhops) (at n : ℕ) (known : n ≤ begun starts at) where
  pub next_start : (n ≡ length starts → ⊥) → n < length starts
  next_start f = omega (arith, lower_le (at + 1) starts, known, f)

  module _ {hop : ℕ} (kept : hop ≡ get_or rhops (n - 1) 0) where
    pub stays_behind : n ≡ length starts → Stands starts rhops at (record { begun = n; hop = hop })
    stays_behind e = stands_at starts rhops at n hop (e ∙ begun_all starts at n t.ascend known (omega (arith, e))) kept

    pub stays_before : n < length starts → at < get_or starts n 0 → Stands starts rhops at (record { begun = n; hop = hop })
    stays_before l m = stands_at starts rhops at n hop (begun_stops starts at n t.ascend known l m) kept

-- what the walk goes by
pub ruleset walked = (some_begun, begun_place, begun_first, stands_at)

-- what it goes by where no run begins on the way, and for the run that does
pub ruleset went_on = (next_start, stays_behind, stays_before, begun_more)

pub one_more : (t size : ℕ) → 0 < t → (t - 1) * size + size ≡ t * size
one_more zero size l = absurd (omega arith)
one_more (suc t) size l = let one : suc t - 1 ≡ t = omega arith in rw one (omega arith)

-- it has the hop of the last run that has begun
pub hop_kept : {starts rhops : List ℕ} {base size t : ℕ} {s : Walk} → Before starts rhops base size t s → s.hop ≡ get_or rhops (s.begun - 1) 0
unfolding hop_at
hop_kept b = b.stands.hop_is ∙ rw b.stands.begun_is refl

-- The walk stands at the block before block t: it may go on to that block, whose bit is 1 exactly where its hop isn't that before it.
module _ {starts rhops : List ℕ} {base size t : ℕ} {s : Walk} (b : Before starts rhops base size t s) (some : 0 < t) where
  pub may_go_on : s.begun ≤ begun starts (base + t * size)
  may_go_on =
      omega (arith, one_more t size some, b.stands.begun_is, lower_mono (base + (t - 1) * size + 1) (base + t * size + 1) (omega (arith, one_more t size some)) starts)

  module _ {n : ℕ} (l : t < n) {next : Walk} (st : Stands starts rhops (base + t * size) next) {z : Bool} (e : z ≡ not (eqb next.hop s.hop)) where
    pub bit_found : bit (hop_in starts rhops base size) n t ≡ z
    unfolding bit turns_from hop_in
    bit_found = rw (e, st.hop_is, b.stands.hop_is, lt-ltb t n l, ne_eqb t 0 (λ q. omega arith))

-- the walk stands at a block, and so before the next one
pub stands_before : (starts rhops : List ℕ) (base size t : ℕ) {s : Walk} → Stands starts rhops (base + t * size) s
    → Before starts rhops base size (t + 1) s
stands_before starts rhops base size t st = let one : t + 1 - 1 ≡ t = omega arith in record { stands = rw one st }

-- the first bit is 1
pub bit_first : (hop : ℕ → ℕ) (n : ℕ) → 0 < n → bit hop n 0 ≡ true
unfolding bit turns_from
bit_first hop n l = rw (lt-ltb 0 n l)

pub bit_none : (hop : ℕ → ℕ) (n b : ℕ) → n ≤ b → bit hop n b ≡ false
unfolding bit
bit_none hop n b l = rw (le-ltb b n l)
