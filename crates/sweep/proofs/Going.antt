-- The sweep on its way to the next turn, from event to event: from where it started up to the address the answer is `hop`. At an event the
-- answer is the last open hop; where that is another one the answer turns there, and else the sweep goes on.
-- Assumes nothing.
use mathlib.Core.Path.{◌≡◌, sym, ◌∙◌}
use mathlib.Core.Logic.{⊎_elim}
use mathlib.Core.List.{List}
use Prim.Native.Nat.{ℕ, ◌+◌, ◌≤◌, ◌<◌}
use native.Mathlib.Nat.{le_antisymm, eq-or-lt_of_le}
use native.Mathlib.Omega.{arith}
use lib.ListN.{take}
use lib.Dec.{leb}
use borrow.Author.Tests.{leb-true, leb-false}
use Rattle.ground.proofs.Truth.{decided}
use Rattle.sweep.specs.Sweep.{last_or, all_rows, answer, Sorted, Stack, Event, Turned}
use Rattle.sweep.proofs.Stack.{standing_answer, onward, answer_stays}

pub record Going (keys hops : List ℕ) (base limit at₀ hop : ℕ) (ends open-hops : List ℕ) (row depth at : ℕ) : Type 0 where
  pub sorted : Sorted keys hops
  pub stack : Stack keys hops ends open-hops row depth at (at + 1)
  pub from : at₀ ≤ at
  pub before : at < limit
  pub same : (a : ℕ) → at₀ ≤ a → a ≤ at → answer base (all_rows keys hops) a ≡ hop

pub going_start : {keys hops ends open-hops : List ℕ} {base limit at hop row depth : ℕ} → Sorted keys hops
    → Stack keys hops ends open-hops row depth at (at + 1) → at < limit → hop ≡ last_or base (take depth open-hops)
    → Going keys hops base limit at hop ends open-hops row depth at
going_start {base = base} s k lt e = record {
  sorted = s;
  stack = k;
  from = omega arith;
  before = lt;
  same = λ a l m. let there = le_antisymm m l in rw there (standing_answer s k base (omega arith) ∙ sym e);
}

module _ {keys hops ends open-hops : List ℕ} {base limit at₀ hop row depth at event : ℕ}
    (g : Going keys hops base limit at₀ hop ends open-hops row depth at) (e : Event keys ends row depth at limit event) where
  up_to_event : (a : ℕ) → at₀ ≤ a → a < event → answer base (all_rows keys hops) a ≡ hop
  up_to_event a l lt = ⊎_elim
      (λ q. g.same a l (leb-true a at q))
      (λ q.
      answer_stays g.sorted g.stack base limit event e a (omega (arith, leb-false a at q)) lt
      ∙ sym (standing_answer g.sorted g.stack base (omega arith))
      ∙ g.same at g.from (omega arith))
      (decided (leb a at))

  at_start : answer base (all_rows keys hops) at₀ ≡ hop
  at_start = up_to_event at₀ (omega arith) (omega (arith, g.from, e.past))

  from_start : (a : ℕ) → at₀ ≤ a → a < event → answer base (all_rows keys hops) a ≡ answer base (all_rows keys hops) at₀
  from_start a l lt = up_to_event a l lt ∙ sym at_start

  pub going_event : Stack keys hops ends open-hops row depth at event
  going_event = onward g.sorted g.stack event e.row_to

  pub going_end : limit ≤ event → (row' depth' : ℕ) → Turned keys hops ends open-hops base limit at₀ row' depth' limit
  going_end l row' depth' = record {
    past = omega (arith, g.from, g.before);
    upto = omega arith;
    stays = λ a m n. from_start a m (omega arith);
    turned = λ lt. absurd (omega arith);
    stands = λ lt. absurd (omega arith);
  }

  module _ {ends' open-hops' : List ℕ} {row' depth' at' hop' : ℕ} (k : Stack keys hops ends' open-hops' row' depth' event (event + 1))
      (here : at' ≡ event) (top : hop' ≡ last_or base (take depth' open-hops')) where
    answer_here : answer base (all_rows keys hops) event ≡ hop'
    answer_here = standing_answer g.sorted k base (omega arith) ∙ sym top

    pub going_turned : (hop' ≡ hop → ⊥) → Turned keys hops ends' open-hops' base limit at₀ row' depth' at'
    going_turned ne = rw here record {
      past = omega (arith, g.from, e.past);
      upto = e.upto;
      stays = from_start;
      turned = λ lt q. ne (sym answer_here ∙ q ∙ at_start);
      stands = λ lt. k;
    }

    pub going_on : event < limit → hop' ≡ hop → Going keys hops base limit at₀ hop ends' open-hops' row' depth' at'
    going_on lt same = rw here record {
      sorted = g.sorted;
      stack = k;
      from = omega (arith, g.from, e.past);
      before = lt;
      same = λ a l m. ⊎_elim
          (λ (q : a ≡ event). rw q (answer_here ∙ same))
          (λ n. up_to_event a l n)
          (eq-or-lt_of_le m);
    }
