-- Writing the runs of an answer f, from turn to turn: what stands in the slices are the runs before the place, and then the slots as they
-- were. A turn is one run more, for which there is room, since the runs up to the limit have room.
-- Assumes nothing.
use mathlib.Core.Path.{◌≡◌, refl, sym, ◌∙◌}
use mathlib.Core.Bool.{true}
use mathlib.Core.List.{List, map, map-append}
use Prim.Native.Nat.{ℕ, ◌+◌, ◌-◌, ◌≤◌, ◌<◌}
use native.Mathlib.Omega.{arith}
use lib.ListN.{length, set, length-map, length-set}
use Rattle.ground.proofs.Slots.{written_more}
use Rattle.ground.specs.Slots.{written}
use Rattle.ground.specs.Stretch.{counted, turns_from}
use Rattle.ground.specs.Stretch.Count.{counted_is, counted_at_most, picked_at}
use Rattle.ground.specs.Stretch.Turns.{turns_to, turns_to_first, counted_to_first, turns_to_next, counted_to_next}
use Rattle.sweep.specs.Sweep.{RunsWritten}

pub record Writing (f : ℕ → ℕ) (start limit at n : ℕ) (starts₀ rhops₀ starts rhops : List ℕ) : Type 0 where
  pub room : counted (turns_from start f) start (limit - start) ≤ length starts₀
  pub hop_room : counted (turns_from start f) start (limit - start) ≤ length rhops₀
  pub as_long : length starts ≡ length starts₀
  pub hops_as_long : length rhops ≡ length rhops₀
  pub written_so_far : RunsWritten f start at starts₀ rhops₀ n starts rhops

pub writing_start : {f : ℕ → ℕ} {start limit at : ℕ} {starts rhops : List ℕ} → at ≡ start
    → counted (turns_from start f) start (limit - start) ≤ length starts → counted (turns_from start f) start (limit - start) ≤ length rhops
    → Writing f start limit at 0 starts rhops starts rhops
unfolding written
writing_start {f} {start} {at = at} e l m = record {
  room = l;
  hop_room = m;
  as_long = refl;
  hops_as_long = refl;
  written_so_far = record {
    count = counted_to_first start f at e;
    starts_are = rw (turns_to_first start f at e);
    hops_are = rw (turns_to_first start f at e);
  };
}

pub writing_few : {f : ℕ → ℕ} {start limit at n : ℕ} {starts₀ rhops₀ starts rhops : List ℕ}
    → Writing f start limit at n starts₀ rhops₀ starts rhops → n ≤ at
writing_few {f} {start} {at = at} w = omega (arith, w.written_so_far.count, counted_at_most (turns_from start f) start (at - start))

module _ {f : ℕ → ℕ} {start limit at n : ℕ} {starts₀ rhops₀ starts rhops : List ℕ}
    (w : Writing f start limit at n starts₀ rhops₀ starts rhops) (from : start ≤ at) (before : at < limit)
    (turn : turns_from start f at ≡ true) where
  so_far : n ≡ length (turns_to start f at)
  so_far = w.written_so_far.count ∙ counted_is (turns_from start f) start (at - start)

  one_more : n < counted (turns_from start f) start (limit - start)
  one_more =
      rw (w.written_so_far.count, counted_is (turns_from start f) start (limit - start))
      (picked_at (turns_from start f) start (limit - start) (at - start) at (omega arith) (omega arith) turn).0

  pub start_fits : n < length starts
  start_fits = omega (arith, one_more, w.room, w.as_long)

  pub hop_fits : n < length rhops
  hop_fits = omega (arith, one_more, w.hop_room, w.hops_as_long)

  pub writing_on : {at' hop : ℕ} → at < at' → ((a : ℕ) → at ≤ a → a < at' → f a ≡ f at) → hop ≡ f at
      → Writing f start limit at' (n + 1) starts₀ rhops₀ (set starts n at) (set rhops n hop)
  writing_on {at'} {hop} past stays e = record {
    room = w.room;
    hop_room = w.hop_room;
    as_long = length-set starts n at ∙ w.as_long;
    hops_as_long = length-set rhops n hop ∙ w.hops_as_long;
    written_so_far = record {
      count = rw w.written_so_far.count (sym (counted_to_next start f at at' from past stays turn));
      starts_are =
          rw (w.written_so_far.starts_are, so_far, written_more before_it starts₀ at (omega (arith, so_far, one_more, w.room)))
          (rw (turns_to_next start f at at' from past stays turn));
      hops_are =
          rw (w.written_so_far.hops_are, e, hops_so_far, written_more (map f before_it) rhops₀ (f at) hop_below)
          (rw (turns_to_next start f at at' from past stays turn, map-append));
    };
  }
    where
      before_it : List ℕ
      before_it = turns_to start f at

      hops_so_far : n ≡ length (map f (turns_to start f at))
      hops_so_far = so_far ∙ sym (length-map (turns_to start f at) f)

      hop_below : length (map f (turns_to start f at)) < length rhops₀
      hop_below = omega (arith, hops_so_far, one_more, w.hop_room)
