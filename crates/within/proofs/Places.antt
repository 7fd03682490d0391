-- How long the joined columns are, and which places of the old table and of the inside may be read: both old places are in range, and the
-- inside has a first run, whose hop is g at net, and a last one, whose hop is g one before end.
-- Assumes nothing.
use mathlib.Core.Path.{◌≡◌, refl, sym, ap, ◌∙◌}
use mathlib.Core.Bool.{Bool, true, false, cond, not}
use mathlib.Core.List.{List}
use Prim.Native.Nat.{ℕ, ◌+◌, ◌-◌, ◌≤◌, ◌<◌}
use native.Mathlib.Omega.{arith}
use lib.ListN.{length, get_or, length-append, length-drop, length-map}
use lib.Seq.{length-take-le}
use lib.Dec.{ltb}
use borrow.Author.Tests.{ltb-true}
use Rattle.ground.specs.Stretch.{picked, turns, turns_from}
use Rattle.ground.specs.Stretch.Picks.{picks_front}
use Rattle.ground.specs.Stretch.Turns.{turns_at_first, same_between_turns}
use Rattle.ground.proofs.Truth.{and_left}
use Rattle.ground.proofs.Map.{get_d_map}
use Rattle.ground.proofs.Lower.{lower_le, lower_mono}
use Rattle.within.specs.Seams.{Outside, RunsOf, Seams, one, seam, joined, joined_count}
use Rattle.within.proofs.Old.{lower_some}
use Rattle.within.proofs.Seams.{runs_pick}
use Rattle.within.proofs.Joined.{joined_runs}

pub length_joined : (i j : ℕ) (before behind : Bool) (x : ℕ) (inner old : List ℕ) → i ≤ length old
    → length (joined i j before behind x inner old) ≡ joined_count i j before behind (length inner) (length old)
length_joined i j before behind x inner old l =
    simp (length-append, length-drop, length-take-le i old l) (omega (arith, inside before, at_end behind))
  where
    inside : (b : Bool) → length (seam b inner) ≡ length inner - cond b 1 0
    inside true = length-drop 1 inner
    inside false = omega arith

    at_end : (b : Bool) → length (one (not b) x) ≡ cond b 0 1
    at_end true = refl
    at_end false = refl

module _ (f g : ℕ → ℕ) (net end N : ℕ) (o : Outside f g net end N) (starts hops : List ℕ) (old : RunsOf f 0 N starts hops)
    (i j : ℕ) (before behind : Bool) (s : Seams g net end N starts hops i j before behind) where
  pub place_le_past : i ≤ j
  place_le_past = omega (arith, s.place, s.past, lower_mono net (end + 1) (omega (arith, o.some)) starts)

  pub past_in : j ≤ length starts
  past_in = omega (arith, s.past, lower_le (end + 1) starts)

  pub past_some : 0 < j
  past_some =
      let some = lower_some f N 1 starts (runs_pick old) (omega arith) (omega (arith, o.some, o.fits)) in
      omega (arith, s.past, lower_mono 1 (end + 1) (omega arith) starts)

  pub place_some : 0 < net → 0 < i
  place_some l = omega (arith, s.place, lower_some f N net starts (runs_pick old) l (omega (arith, o.some, o.fits)))

  -- the run that is joined at net is there
  pub joins_some : before ≡ true → 0 < i
  joins_some e = place_some (ltb-true 0 net (and_left (ltb 0 net) _ (sym s.joins_before_lem ∙ e)))

  pub new_count : (inner inner-hops : List ℕ) → RunsOf g net (end - net) inner inner-hops
      → length (picked (turns g) 0 N) ≡ joined_count i j before behind (length inner) (length starts)
  new_count inner inner-hops inside =
      let runs = joined_runs f g net end N o starts hops old i j before behind s inner inner-hops inside in
      ap length (sym runs.starts_are) ∙ length_joined i j before behind end inner starts (omega (arith, place_le_past, past_in))

module _ (g : ℕ → ℕ) (net end : ℕ) (some : net < end) (inner inner-hops : List ℕ) (inside : RunsOf g net (end - net) inner inner-hops) where
  pub inner_front : (0 < length inner) × (get_or inner 0 0 ≡ net)
  inner_front = picks_front (turns_from net g) net (end - net) inner (runs_pick inside) (omega arith) (turns_at_first net g)

  pub inner_some : 0 < length inner
  inner_some = inner_front.0

  pub inner_paired : length inner-hops ≡ length inner
  inner_paired = rw inside.hops_are (length-map inner g)

  pub first_hop : get_or inner-hops 0 0 ≡ g net
  first_hop = rw inside.hops_are (get_d_map g inner 0 inner_some ∙ ap g inner_front.1)

  pub last_hop_lem : get_or inner-hops (length inner - 1) 0 ≡ g (end - 1)
  last_hop_lem =
      let last : length inner - 1 < length inner = omega (arith, inner_some) in
      let below = (runs_pick inside).below (length inner - 1) last in
      rw inside.hops_are
      (get_d_map g inner (length inner - 1) last
      ∙ same_between_turns net g (end - net) inner (runs_pick inside) (length inner - 1) (end - 1) last (omega arith) (omega arith)
      (λ more. absurd (omega arith)))
