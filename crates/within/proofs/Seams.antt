-- The two seams of an edit, told by the old table: the hop one before net is that of the last old run that begins below net, and the hop at
-- end that of the last one up to end. So at net and at end g turns unless the runs join there.
-- Assumes nothing.
use mathlib.Core.Path.{◌≡◌}
use mathlib.Core.Bool.{Bool, not, ◌&&◌, ◌||◌}
use mathlib.Core.Logic.{⊎_elim}
use mathlib.Core.List.{List}
use Prim.Native.Nat.{ℕ, ◌+◌, ◌-◌, ◌≤◌, ◌<◌}
use native.Mathlib.Nat.{eq-zero-or-pos}
use native.Mathlib.Omega.{arith}
use lib.ListN.{get_or}
use lib.Dec.{eqb, ltb, leb}
use borrow.Author.Tests.{eq-eqb, ne_eqb, ltb-true, ltb-false, lt-ltb, le-ltb, le-leb, lt-leb}
use Rattle.ground.specs.Column.{lower}
use Rattle.ground.specs.Stretch.{turns, turns_from}
use Rattle.ground.specs.Stretch.Picks.{Picks, picks}
use Rattle.ground.proofs.Truth.{decided}
use Rattle.within.specs.Seams.{Outside, RunsOf, Seams}
use Rattle.within.proofs.Old.{hop_holding, start_holding}

pub runs_pick : {f : ℕ → ℕ} {first n : ℕ} {starts hops : List ℕ} → RunsOf f first n starts hops → Picks (turns_from first f) first n starts
runs_pick {f} {first} {n} r = rw r.starts_are (picks (turns_from first f) first n)

module _ (f g : ℕ → ℕ) (net end N : ℕ) (o : Outside f g net end N) (starts hops : List ℕ) (old : RunsOf f 0 N starts hops) where
  pub hop_before_lem : 0 < net → get_or hops (lower net starts - 1) 0 ≡ f (net - 1)
  hop_before_lem pos = rw old.hops_are (hop_holding f N net starts (runs_pick old) pos (omega (arith, o.some, o.fits)))

  pub hop_at_end : end < N → get_or hops (lower (end + 1) starts - 1) 0 ≡ f end
  hop_at_end l =
      let one_more : end + 1 - 1 ≡ end = omega arith in
      rw old.hops_are (rw one_more at (hop_holding f N (end + 1) starts (runs_pick old) (omega arith) (omega arith)))

  -- an old run begins at end exactly if the one that holds end does
  pub start_at_end : end < N → turns f end ≡ eqb (get_or starts (lower (end + 1) starts - 1) 0) end
  start_at_end l =
      let one_more : end + 1 - 1 ≡ end = omega arith in
      rw one_more at (start_holding f N (end + 1) starts (runs_pick old) (omega arith) (omega arith))

  module _ (i j : ℕ) (before behind : Bool) (s : Seams g net end N starts hops i j before behind) where
    pub turns_net : turns g net ≡ not before
    unfolding turns_from
    turns_net = rw s.joins_before_lem (⊎_elim zeroth later (eq-zero-or-pos net))
      where
        zeroth : net ≡ 0 → (eqb net 0 || not (eqb (g net) (g (net - 1)))) ≡ not (ltb 0 net && eqb (g net) (get_or hops (i - 1) 0))
        zeroth e = rw (eq-eqb net 0 e, le-ltb 0 net (omega arith))

        later : 0 < net → (eqb net 0 || not (eqb (g net) (g (net - 1)))) ≡ not (ltb 0 net && eqb (g net) (get_or hops (i - 1) 0))
        later l =
            rw (ne_eqb net 0 (λ z. omega arith), lt-ltb 0 net l, s.place, hop_before_lem l, o.below (net - 1) (omega arith))

    pub turns_end : (ltb end N && turns g end) ≡ not behind
    unfolding turns_from
    turns_end = rw s.joins_behind_lem (⊎_elim (λ e. within (ltb-true end N e)) (λ e. last (ltb-false end N e)) (decided (ltb end N)))
      where
        last : N ≤ end
            → (ltb end N && (eqb end 0 || not (eqb (g end) (g (end - 1))))) ≡ not (leb N end || eqb (get_or hops (j - 1) 0) (g (end - 1)))
        last l = rw (le-ltb end N l, le-leb N end l)

        within : end < N
            → (ltb end N && (eqb end 0 || not (eqb (g end) (g (end - 1))))) ≡ not (leb N end || eqb (get_or hops (j - 1) 0) (g (end - 1)))
        within l =
            let past-zero = ne_eqb end 0 (λ z. omega (arith, o.some)) in
            rw (past-zero, lt-ltb end N l, lt-leb N end l, s.past, hop_at_end l, o.above end (omega arith) l)
