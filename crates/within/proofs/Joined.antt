-- The table after an edit, column by column: the old runs below net, those inside with or without the first, one at end or none, and the
-- old ones above end. The hops go with the starts, since g is f below net and from end on.
-- Assumes nothing.
use mathlib.Core.Path.{◌≡◌, refl, sym, ◌∙◌}
use mathlib.Core.Bool.{Bool, true, false, not, ◌&&◌}
use mathlib.Core.List.{List, ◌∷◌, ◌++◌, append_assoc, map, map-append}
use Prim.Native.Nat.{ℕ, zero, suc, ◌+◌, ◌-◌, ◌≤◌, ◌<◌}
use native.Mathlib.Numerals.{add-one}
use native.Mathlib.Omega.{arith}
use lib.ListN.{get_or, take, drop}
use lib.Dec.{ltb}
use borrow.Author.Tests.{ltb-true}
use Rattle.ground.specs.Stretch.{picked, keep, turns}
use Rattle.ground.specs.Stretch.Laws.{picked_none, picked_suc}
use Rattle.ground.proofs.Truth.{and_left}
use Rattle.ground.proofs.Map.{map_take, map_drop}
use Rattle.within.specs.Seams.{Outside, RunsOf, Seams, one, seam, joined}
use Rattle.within.proofs.Cut.{starts_cut, middle_is}
use Rattle.within.proofs.Old.{take_lower, drop_lower}
use Rattle.within.proofs.Seams.{hop_at_end, turns_net, turns_end}

-- functions that agree on a stretch make the same of what is picked from it
pub map_picked : (p : ℕ → Bool) (f g : ℕ → ℕ) (lo n : ℕ) → ((a : ℕ) → lo ≤ a → a < lo + n → g a ≡ f a)
    → map g (picked p lo n) ≡ map f (picked p lo n)
map_picked p f g lo zero h = rw picked_none
map_picked p f g lo (suc n) h =
    rw picked_suc (go (p lo) (map_picked p f g (suc lo) n (λ a ge lt. h a (omega arith) (omega arith))))
  where
    go : (b : Bool) → map g (picked p (suc lo) n) ≡ map f (picked p (suc lo) n)
        → map g (keep b lo (picked p (suc lo) n)) ≡ map f (keep b lo (picked p (suc lo) n))
    go true e = rw (e, h lo (omega arith) (omega arith))
    go false e = e

module _ (f g : ℕ → ℕ) (net end N : ℕ) (o : Outside f g net end N) (starts hops : List ℕ) (old : RunsOf f 0 N starts hops)
    (i j : ℕ) (before behind : Bool) (s : Seams g net end N starts hops i j before behind) where
  pub low_is : picked (turns f) 0 net ≡ take i starts
  low_is = rw (s.place, old.starts_are) (sym (take_lower (turns f) N net (omega (arith, o.some, o.fits))))

  pub high_is : picked (turns f) (suc end) (N - suc end) ≡ drop j starts
  high_is = rw (s.past, old.starts_are, add-one) (sym (drop_lower (turns f) N (suc end)))

  low_hops : map g (take i starts) ≡ take i hops
  low_hops =
      let same = map_picked (turns f) f g 0 net (λ a ge lt. o.below a (omega arith)) in
      (rw low_is at same) ∙ rw old.hops_are (map_take f i starts)

  high_hops : map g (drop j starts) ≡ drop j hops
  high_hops =
      let same = map_picked (turns f) f g (suc end) (N - suc end) (λ a ge lt. o.above a (omega arith) (omega arith)) in
      (rw high_is at same) ∙ rw old.hops_are (map_drop f j starts)

  end_hop : map g (one (not behind) end) ≡ one (not behind) (get_or hops (j - 1) 0)
  end_hop = rw (← turns_end f g net end N o starts hops old i j before behind s) (go (ltb end N && turns g end) refl)
    where
      go : (b : Bool) → (ltb end N && turns g end) ≡ b → map g (one b end) ≡ one b (get_or hops (j - 1) 0)
      go false e = refl
      go true e =
          let l : end < N = ltb-true end N (and_left (ltb end N) (turns g end) e) in
          rw (s.past, hop_at_end f g net end N o starts hops old l, o.above end (omega arith) l)

  module _ (inner inner-hops : List ℕ) (inside : RunsOf g net (end - net) inner inner-hops) where
    inside_is : one (turns g net) net ++ picked (turns g) (suc net) (end - suc net) ≡ seam before inner
    inside_is =
        rw (turns_net f g net end N o starts hops old i j before behind s, inside.starts_are, middle_is g net end o.some) (go before)
      where
        go : (b : Bool) → one (not b) net ++ picked (turns g) (suc net) (end - suc net)
            ≡ seam b (net ∷ picked (turns g) (suc net) (end - suc net))
        go true = refl
        go false = refl

    inside_hops : map g (seam before inner) ≡ seam before inner-hops
    inside_hops = rw inside.hops_are (go before)
      where
        go : (b : Bool) → map g (seam b inner) ≡ seam b (map g inner)
        go true = map_drop g 1 inner
        go false = refl

    new_starts_lem : joined i j before behind end inner starts ≡ picked (turns g) 0 N
    new_starts_lem =
        let at_end = turns_end f g net end N o starts hops old i j before behind s in
        let regroup = append_assoc (one (turns g net) net) (picked (turns g) (suc net) (end - suc net)) in
        sym (starts_cut f g net end N o ∙ rw (low_is, at_end, high_is, ← regroup, inside_is))

    new_hops_lem : joined i j before behind (get_or hops (j - 1) 0) inner-hops hops ≡ map g (joined i j before behind end inner starts)
    new_hops_lem = sym (simp map-append (rw (low_hops, inside_hops, end_hop, high_hops)))

    pub joined_runs : RunsOf g 0 N (joined i j before behind end inner starts)
        (joined i j before behind (get_or hops (j - 1) 0) inner-hops hops)
    joined_runs = record { starts_are = new_starts_lem; hops_are = new_hops_lem }
