-- Two answers f and g that agree outside the numbers from net up to end turn at the same numbers below net and above end. So the turns of
-- g are those of f below net, net or not, those of g inside, end or not, and those of f above end. Those inside, with net before them in
-- any case, are the turns of g from net on.
-- Assumes nothing.
use mathlib.Core.Path.{◌≡◌, refl, ap, ◌∙◌}
use mathlib.Core.Bool.{Bool, true, false, ◌&&◌}
use mathlib.Core.Logic.{⊎_elim}
use mathlib.Core.List.{◌∷◌, ◌++◌}
use Prim.Native.Nat.{ℕ, suc, ◌+◌, ◌-◌, ◌≤◌, ◌<◌}
use native.Mathlib.Nat.{eq-or-lt_of_le, zero-add}
use native.Mathlib.Omega.{arith}
use lib.Dec.{ltb}
use borrow.Author.Tests.{ne_eqb, lt-ltb, le-ltb}
use Rattle.ground.specs.Stretch.{picked, keep, turns, turns_from}
use Rattle.ground.specs.Stretch.Laws.{picked_none, picked_suc, picked_cut, picked_agree}
use Rattle.ground.specs.Stretch.Turns.{turns_at_first}
use Rattle.within.specs.Seams.{Outside, one}

-- a number of its own in front of a stretch
picked_one : (p : ℕ → Bool) (lo n : ℕ) → picked p lo (suc n) ≡ one (p lo) lo ++ picked p (suc lo) n
picked_one p lo n = picked_suc p lo n ∙ go (p lo)
  where
    go : (b : Bool) → keep b lo (picked p (suc lo) n) ≡ one b lo ++ picked p (suc lo) n
    go true = refl
    go false = refl

-- a stretch from lo up to hi, by its first number, where it has one
picked_first : (p : ℕ → Bool) (lo hi : ℕ) → lo ≤ hi → picked p lo (hi - lo) ≡ one (ltb lo hi && p lo) lo ++ picked p (suc lo) (hi - suc lo)
picked_first p lo hi le = ⊎_elim
    (λ (e : lo ≡ hi).
    let none : hi - lo ≡ 0 = omega arith in
    let none' : hi - suc lo ≡ 0 = omega arith in
    rw (none, none', picked_none, picked_none, le-ltb lo hi (omega arith)))
    (λ (l : lo < hi).
    let more : hi - lo ≡ suc (hi - suc lo) = omega arith in
    rw (more, lt-ltb lo hi l) (picked_one p lo (hi - suc lo)))
    (eq-or-lt_of_le le)

-- whether a function turns at a number is told by its values there and one before
pub turns_agree : (first : ℕ) (f g : ℕ → ℕ) (a : ℕ) → g a ≡ f a → g (a - 1) ≡ f (a - 1) → turns_from first g a ≡ turns_from first f a
unfolding turns_from
turns_agree first f g a here back = rw (here, back)

-- past the first number it doesn't matter which that is
turns_past : (first : ℕ) (g : ℕ → ℕ) (a : ℕ) → first < a → turns_from first g a ≡ turns g a
unfolding turns_from
turns_past first g a l = rw (ne_eqb a first (λ z. omega arith), ne_eqb a 0 (λ z. omega arith))

module _ (f g : ℕ → ℕ) (net end N : ℕ) (o : Outside f g net end N) where
  low_same : picked (turns g) 0 net ≡ picked (turns f) 0 net
  low_same = picked_agree (turns g) (turns f) 0 net
      (λ a ge lt. turns_agree 0 f g a (o.below a (omega arith)) (o.below (a - 1) (omega arith)))

  high_same : picked (turns g) (suc end) (N - suc end) ≡ picked (turns f) (suc end) (N - suc end)
  high_same = picked_agree (turns g) (turns f) (suc end) (N - suc end)
      (λ a ge lt. turns_agree 0 f g a (o.above a (omega arith) (omega arith)) (o.above (a - 1) (omega arith) (omega arith)))

  pub starts_cut : picked (turns g) 0 N
      ≡ picked (turns f) 0 net
      ++ (one (turns g net) net
      ++ (picked (turns g) (suc net) (end - suc net)
      ++ (one (ltb end N && turns g end) end ++ picked (turns f) (suc end) (N - suc end))))
  starts_cut =
      let whole : N ≡ net + suc ((end - suc net) + (N - end)) = omega arith in
      let there : suc net + (end - suc net) ≡ end = omega arith in
      ap (picked (turns g) 0) whole
      ∙ picked_cut (turns g) 0 net (suc ((end - suc net) + (N - end)))
      ∙ rw (zero-add, picked_one (turns g) net, picked_cut (turns g) (suc net), there, picked_first (turns g) end N o.fits)
      (rw (low_same, high_same))

pub middle_is : (g : ℕ → ℕ) (net end : ℕ) → net < end
    → picked (turns_from net g) net (end - net) ≡ net ∷ picked (turns g) (suc net) (end - suc net)
middle_is g net end some =
    let more : end - net ≡ suc (end - suc net) = omega arith in
    let rest = picked_agree (turns_from net g) (turns g) (suc net) (end - suc net) (λ a ge lt. turns_past net g a ge) in
    rw (more, picked_suc, turns_at_first, rest)
