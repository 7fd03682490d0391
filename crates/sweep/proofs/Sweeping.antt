-- The sweep from turn to turn: it stands where the rows' answer turns, or at the limit, and each move to the next turn counts one more. The
-- loops that count, write and compare runs all keep `Sweeping` true.
-- Assumes nothing.
use mathlib.Core.Path.{◌≡◌, sym, ◌∙◌}
use mathlib.Core.Bool.{true}
use mathlib.Core.List.{List}
use Prim.Native.Nat.{ℕ, ◌+◌, ◌-◌, ◌≤◌, ◌<◌}
use native.Mathlib.Omega.{arith}
use lib.ListN.{length, take}
use Rattle.ground.specs.Stretch.{counted, turns_from}
use Rattle.ground.specs.Stretch.Turns.{turns_at_first, turns_next, counted_to_next}
use Rattle.sweep.specs.Sweep.{last_or, all_rows, answer, Sorted, Stack, Turned}
use Rattle.sweep.proofs.Stack.{few_open, standing_answer}

pub record Sweeping (keys hops : List ℕ) (base start limit : ℕ) (ends open-hops : List ℕ) (row depth at : ℕ) : Type 0 where
  pub sorted : Sorted keys hops
  pub from : start ≤ at
  pub upto : at ≤ limit
  pub stands : at < limit → Stack keys hops ends open-hops row depth at (at + 1)
  pub turn : at < limit → turns_from start (answer base (all_rows keys hops)) at ≡ true

pub sweeping_start : {keys hops ends open-hops : List ℕ} (base start limit : ℕ) {row depth at : ℕ} → Sorted keys hops → start ≤ limit
    → Stack keys hops ends open-hops row depth start (start + 1) → at ≡ start
    → Sweeping keys hops base start limit ends open-hops row depth at
sweeping_start base start limit s l k e =
    rw e record { sorted = s; from = omega arith; upto = l; stands = λ m. k; turn = λ m. turns_at_first start _ }

module _ {keys hops ends open-hops : List ℕ} {base start limit row depth at : ℕ}
    (w : Sweeping keys hops base start limit ends open-hops row depth at) (before : at < limit) where
  -- what the next turn is asked
  pub sweeping_asks : Stack keys hops ends open-hops row depth at (at + 1) × (at < limit)
  sweeping_asks = (w.stands before, before)

  -- what the hop on top is asked, and what it is
  pub sweeping_top_asks : (depth ≤ 33) × (length open-hops ≡ 33)
  sweeping_top_asks = (few_open w.sorted (w.stands before), (w.stands before).hops_room)

  pub sweeping_top : {hop : ℕ} → hop ≡ last_or base (take depth open-hops) → hop ≡ answer base (all_rows keys hops) at
  sweeping_top e = e ∙ sym (standing_answer w.sorted (w.stands before) base (omega arith))

  module _ {ends' open-hops' : List ℕ} {row' depth' at' : ℕ} (t : Turned keys hops ends' open-hops' base limit at row' depth' at') where
    pub sweeping_on : Sweeping keys hops base start limit ends' open-hops' row' depth' at'
    sweeping_on = record {
      sorted = w.sorted;
      from = omega (arith, w.from, t.past);
      upto = t.upto;
      stands = t.stands;
      turn = λ l. turns_next start (answer base (all_rows keys hops)) at at' w.from t.past t.stays (t.turned l);
    }

    -- and one turn more is counted
    pub sweeping_counted : {n : ℕ} → n ≡ counted (turns_from start (answer base (all_rows keys hops))) start (at - start)
        → n + 1 ≡ counted (turns_from start (answer base (all_rows keys hops))) start (at' - start)
    sweeping_counted e =
        rw e (sym (counted_to_next start (answer base (all_rows keys hops)) at at' w.from t.past t.stays (w.turn before)))
