-- The turns of an answer f below N, as a column that ascends from 0. Those below k are its first ones, as many as are lower than k, and the
-- others are behind them. The last one below k is where the run begins that holds k - 1, so f of it is f (k - 1).
-- Assumes nothing.
use mathlib.Core.Path.{◌≡◌, refl, ap, ◌∙◌}
use mathlib.Core.Bool.{Bool, true, false}
use mathlib.Core.Logic.{⊎_elim}
use mathlib.Core.List.{List, ◌++◌, map}
use Prim.Native.Nat.{ℕ, ◌+◌, ◌-◌, ◌≤◌, ◌<◌}
use native.Mathlib.Nat.{zero-add}
use native.Mathlib.Omega.{arith}
use lib.ListN.{length, get_or, take, drop, length-append, get_or-append, drop_of_length-le}
use lib.Seq.{take_at, drop_at, get_or-append-add}
use lib.Dec.{leb, ltb, eqb}
use borrow.Author.Tests.{leb-true, leb-false, ltb-true, ltb-false, eqb-true, eqb-false}
use Rattle.ground.specs.Column.{ascends, lower}
use Rattle.ground.specs.Stretch.{picked, turns}
use Rattle.ground.specs.Stretch.Laws.{picked_none, picked_cut}
use Rattle.ground.specs.Stretch.Picks.{Picks, picks, picks_front}
use Rattle.ground.specs.Stretch.Turns.{turns_at_first, same_between_turns}
use Rattle.ground.proofs.Truth.{decided}
use Rattle.ground.proofs.Ascends.{ascends_of}
use Rattle.ground.proofs.Map.{get_d_map}
use Rattle.ground.proofs.Lower.{lower_at, lower_within, lower_beyond, lower_mono, lower_le}

picked_ascends : (p : ℕ → Bool) (lo n : ℕ) → ascends (picked p lo n) ≡ true
picked_ascends p lo n = ascends_of (picked p lo n) (picks p lo n).ascend

-- the first m numbers' picks are those below the number behind them
lower_picked : (p : ℕ → Bool) (lo m n : ℕ) → lower (lo + m) (picked p lo (m + n)) ≡ length (picked p lo m)
lower_picked p lo m n =
    lower_at (lo + m) (picked p lo (m + n)) (length front) (picked_ascends p lo (m + n)) (rw (parts, length-append) (omega arith)) last next
  where
    front : List ℕ
    front = picked p lo m

    back : List ℕ
    back = picked p (lo + m) n

    parts : picked p lo (m + n) ≡ picked p lo m ++ picked p (lo + m) n
    parts = picked_cut p lo m n

    last : 0 < length (picked p lo m) → get_or (picked p lo (m + n)) (length (picked p lo m) - 1) 0 < lo + m
    last some =
        let at = length front - 1 in
        rw (parts, get_or-append front back 0 at (omega arith)) ((picks p lo m).below at (omega arith))

    next : length (picked p lo m) < length (picked p lo (m + n)) → lo + m ≤ get_or (picked p lo (m + n)) (length (picked p lo m)) 0
    next more =
        let end : length front ≡ length front + 0 = omega arith in
        rw (parts, end, get_or-append-add front back 0 0) ((picks p (lo + m) n).from 0 (omega (arith, rw (parts, length-append) at more)))

module _ (p : ℕ → Bool) (N k : ℕ) where
  lower_is : k ≤ N → lower k (picked p 0 N) ≡ length (picked p 0 k)
  lower_is le =
      let whole : k + (N - k) ≡ N = omega arith in
      let law = lower_picked p 0 k (N - k) in
      rw (whole, zero-add) at law

  parts_at : k ≤ N → picked p 0 N ≡ picked p 0 k ++ picked p k (N - k)
  parts_at le =
      let whole : N ≡ k + (N - k) = omega arith in
      ap (picked p 0) whole ∙ picked_cut p 0 k (N - k) ∙ rw zero-add

  pub take_lower : k ≤ N → take (lower k (picked p 0 N)) (picked p 0 N) ≡ picked p 0 k
  take_lower le = rw (lower_is le, parts_at le) (take_at (picked p 0 k) (picked p k (N - k)) _ refl)

  drop_within : k ≤ N → drop (lower k (picked p 0 N)) (picked p 0 N) ≡ picked p k (N - k)
  drop_within le = rw (lower_is le, parts_at le) (drop_at (picked p 0 k) (picked p k (N - k)) _ refl)

-- the picks from k on, also where k is beyond N
pub drop_lower : (p : ℕ → Bool) (N k : ℕ) → drop (lower k (picked p 0 N)) (picked p 0 N) ≡ picked p k (N - k)
drop_lower p N k = ⊎_elim (λ e. drop_within p N k (leb-true k N e)) (λ e. beyond (leb-false k N e)) (decided (leb k N))
  where
    xs : List ℕ
    xs = picked p 0 N

    beyond : N < k → drop (lower k (picked p 0 N)) (picked p 0 N) ≡ picked p k (N - k)
    beyond l =
        let none : N - k ≡ 0 = omega arith in
        let all = lower_is p N N (omega arith) in
        rw (none, picked_none) (drop_of_length-le xs {i = lower k xs} (omega (arith, lower_mono N k (omega arith) xs)))

-- the run that holds k - 1 is the last one that begins below k
module _ (f : ℕ → ℕ) (N k : ℕ) (starts : List ℕ) (t : Picks (turns f) 0 N starts) (pos : 0 < k) (le : k ≤ N) where
  pub lower_some : 0 < lower k starts
  lower_some =
      let front = picks_front (turns f) 0 N starts t (omega arith) (turns_at_first 0 f) in
      lower_within k starts (ascends_of starts t.ascend) 0 front.0 (omega arith)

  last_in_lem : lower k starts - 1 < length starts
  last_in_lem = omega (arith, lower_some, lower_le k starts)

  last_below : get_or starts (lower k starts - 1) 0 < k
  last_below = ⊎_elim
      (λ e. ltb-true _ k e)
      (λ e. absurd (omega (arith, lower_some, lower_beyond k starts (ascends_of starts t.ascend) _ last_in_lem (ltb-false _ k e))))
      (decided (ltb (get_or starts (lower k starts - 1) 0) k))

  next_beyond : lower k starts - 1 + 1 < length starts → k ≤ get_or starts (lower k starts - 1 + 1) 0
  next_beyond more = ⊎_elim
      (λ e. absurd (omega (arith, lower_some, lower_within k starts (ascends_of starts t.ascend) _ more (ltb-true _ k e))))
      (λ e. ltb-false _ k e)
      (decided (ltb (get_or starts (lower k starts - 1 + 1) 0) k))

  pub hop_holding : get_or (map f starts) (lower k starts - 1) 0 ≡ f (k - 1)
  hop_holding =
      get_d_map f starts _ last_in_lem
      ∙ same_between_turns 0 f N starts t _ (k - 1) last_in_lem (omega (arith, last_below)) (omega arith)
      (λ more. omega (arith, next_beyond more))

  -- it begins at k - 1 exactly if f turns there
  pub start_holding : turns f (k - 1) ≡ eqb (get_or starts (lower k starts - 1) 0) (k - 1)
  start_holding = go (eqb (get_or starts (lower k starts - 1) 0) (k - 1)) refl
    where
      go : (b : Bool) → eqb (get_or starts (lower k starts - 1) 0) (k - 1) ≡ b → turns f (k - 1) ≡ b
      go true e =
          let there : get_or starts (lower k starts - 1) 0 ≡ k - 1 = eqb-true _ _ e in
          rw there at (t.pass (lower k starts - 1) last_in_lem)
      go false e =
          let other : get_or starts (lower k starts - 1) 0 ≡ k - 1 → ⊥ = eqb-false _ _ e in
          t.between _ (k - 1) last_in_lem (omega (arith, last_below)) (omega arith) (λ more. omega (arith, next_beyond more))
