-- The sweep over the first half moves on from row to row until all were opened. A step to a row's network opens that row at least.
-- Assumes nothing.
use mathlib.Core.Path.{◌≡◌}
use mathlib.Core.Logic.{⊎_elim}
use mathlib.Core.List.{List}
use Prim.Native.Nat.{ℕ, ◌+◌, ◌≤◌, ◌<◌}
use native.Mathlib.Omega.{arith}
use lib.ListN.{length, get_or}
use lib.Dec.{leb}
use borrow.Author.Tests.{leb-true, leb-false}
use Rattle.ground.proofs.Truth.{decided}
use Rattle.cidr.specs.Prefix.{network}
use Rattle.sweep.specs.Sweep.{Sorted, Stack}
use Rattle.sweep.proofs.Stack.{onward}
use Rattle.split.specs.Inside.Labels.{AllOpen}

-- some rows were opened, and the sweep stands no further than the networks go
pub record Opening (keys hops ends open-hops : List ℕ) (row depth at : ℕ) : Type 0 where
  pub sorted : Sorted keys hops
  pub stack : Stack keys hops ends open-hops row depth at (at + 1)
  pub reached : (to : ℕ) → ((i : ℕ) → i < length keys → network (get_or keys i 0) ≤ to) → at ≤ to

pub opening_start : {keys hops ends open-hops : List ℕ} {row depth at : ℕ} → Sorted keys hops
    → (at ≡ 0) × Stack keys hops ends open-hops row depth 0 1 → Opening keys hops ends open-hops row depth at
opening_start s e = record {
  sorted = s;
  stack = rw e.0 e.1;
  reached = λ to h. omega (arith, e.0);
}

module _ {keys hops ends open-hops : List ℕ} {row depth at to : ℕ} (o : Opening keys hops ends open-hops row depth at)
    (l : row < length keys) (here : to ≡ network (get_or keys row 0)) where
  pub may_step : Stack keys hops ends open-hops row depth at to × (at ≤ to)
  may_step = (onward o.sorted o.stack to (λ m. omega arith), omega (arith, o.stack.ahead row (omega arith) l))

  module _ {ends' open-hops' : List ℕ} {row' depth' at' : ℕ}
      (moved : (at' ≡ to) × Stack keys hops ends' open-hops' row' depth' to (to + 1)) where
    pub opened_more : row < row'
    opened_more =
        ⊎_elim (λ e. absurd (omega (arith, moved.1.ahead row (leb-true row' row e) l))) (λ e. leb-false row' row e)
        (decided (leb row' row))

    pub opening_next : Opening keys hops ends' open-hops' row' depth' at'
    opening_next = record {
      sorted = o.sorted;
      stack = rw moved.0 moved.1;
      reached = λ t h. omega (arith, moved.0, h row l);
    }

pub opening_end : {keys hops ends open-hops : List ℕ} {row depth at : ℕ} → Opening keys hops ends open-hops row depth at → length keys ≤ row
    → AllOpen keys hops ends open-hops row depth at
opening_end o l = record { stack = o.stack; all = omega (arith, o.stack.within); reached = o.reached }

-- what the loop goes by
pub ruleset opens_all = (opening_start, opened_more, opening_next, opening_end)
