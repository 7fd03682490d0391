-- The sweep from turn to turn inside a prefix, that counts the runs and keeps the hop of the address that it has passed last.
-- Assumes nothing.
use mathlib.Core.Path.{◌≡◌, sym, ◌∙◌}
use mathlib.Core.List.{List}
use Prim.Native.Nat.{ℕ, ◌+◌, ◌-◌, ◌≤◌, ◌<◌}
use native.Mathlib.Omega.{arith}
use lib.ListN.{length, take}
use Rattle.ground.specs.Stretch.{counted, turns_from}
use Rattle.ground.specs.Stretch.Count.{counted_at_most}
use Rattle.ground.specs.Stretch.Turns.{counted_to_first}
use Rattle.sweep.specs.Sweep.{last_or, all_rows, answer, Sorted, Stack, Turned}
use Rattle.sweep.proofs.Stack.{few_open, standing_answer}
use Rattle.sweep.proofs.Sweeping.{Sweeping, sweeping_start, sweeping_top, sweeping_on, sweeping_counted}
use Rattle.within.specs.Middle.{Measured}

pub record Measuring (keys hops : List ℕ) (base start limit : ℕ) (ends open-hops : List ℕ) (row depth at first last n : ℕ) : Type 0 where
  pub sweeping : Sweeping keys hops base start limit ends open-hops row depth at
  pub fits : limit ≤ 4294967296
  pub first_is : first ≡ answer base (all_rows keys hops) start
  pub last_is : start < at → last ≡ answer base (all_rows keys hops) (at - 1)
  pub count : n ≡ counted (turns_from start (answer base (all_rows keys hops))) start (at - start)

module _ {keys hops ends open-hops : List ℕ} {start row depth at : ℕ} (s : Sorted keys hops)
    (begun : (at ≡ start) × Stack keys hops ends open-hops row depth start (start + 1)) where
  pub may_look_first : (depth ≤ 33) × (length open-hops ≡ 33)
  may_look_first = (few_open s begun.1, begun.1.hops_room)

  pub measuring_start : (base limit : ℕ) {first : ℕ} → start < limit → limit ≤ 4294967296 → first ≡ last_or base (take depth open-hops)
      → Measuring keys hops base start limit ends open-hops row depth at first first 0
  measuring_start base limit {first} some fits e = record {
    sweeping = sweeping_start base start limit s (omega arith) begun.1 begun.0;
    fits = fits;
    first_is = e ∙ sym (standing_answer s begun.1 base (omega arith));
    last_is = λ l. absurd (omega (arith, begun.0));
    count = counted_to_first _ _ _ begun.0;
  }

module _ {keys hops ends open-hops : List ℕ} {base start limit row depth at first last n : ℕ}
    (m : Measuring keys hops base start limit ends open-hops row depth at first last n) where
  module _ (before : at < limit) where
    pub few_runs : n < 4294967296
    few_runs =
        let f = answer base (all_rows keys hops) in
        omega (arith, m.count, m.fits, m.sweeping.from, counted_at_most (turns_from start f) start (at - start))

    pub measuring_next : {hop row' depth' at' : ℕ} {ends' open-hops' : List ℕ} → hop ≡ last_or base (take depth open-hops)
        → Turned keys hops ends' open-hops' base limit at row' depth' at'
        → Measuring keys hops base start limit ends' open-hops' row' depth' at' first hop (n + 1)
    measuring_next {hop} {row'} {depth'} {at'} e t = record {
      sweeping = sweeping_on m.sweeping before t;
      fits = m.fits;
      first_is = m.first_is;
      last_is = λ l. sweeping_top m.sweeping before e ∙ sym (t.stays (at' - 1) (omega (arith, t.past)) (omega (arith, t.past)));
      count = sweeping_counted m.sweeping before t m.count;
    }

  pub measuring_end : start < limit → limit ≤ at → Measured (answer base (all_rows keys hops)) start limit record { runs = n; first = first; last = last }
  measuring_end some l =
      let there : at ≡ limit = omega (arith, m.sweeping.upto) in
      record {
        count = rw there at m.count;
        first_is = m.first_is;
        last_is = rw there at (m.last_is (omega arith));
      }
