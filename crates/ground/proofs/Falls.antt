-- Numbers that fall, or stay, from each to the next: they still do with one more behind them that is at most each of them.
-- Assumes nothing.
use mathlib.Core.Path.{◌≡◌}
use mathlib.Core.Logic.{⊎_elim}
use mathlib.Core.List.{List, [], ◌∷◌, ◌++◌}
use Prim.Native.Nat.{ℕ, ◌≤◌, ◌<◌}
use native.Mathlib.Nat.{le_refl, eq-or-lt_of_le}
use native.Mathlib.Omega.{arith}
use lib.ListN.{length, get_or, length-append, get_or-append}
use lib.Seq.{get_or-append_seam}

abbrev pub Falls : List ℕ → Type 0
Falls xs = (i j : ℕ) → i ≤ j → j < length xs → get_or xs j 0 ≤ get_or xs i 0

module _ (xs : List ℕ) (x : ℕ) where
  -- what is at most each number and the one behind them
  pub least_snoc : (m : ℕ) → ((i : ℕ) → i < length xs → m ≤ get_or xs i 0) → m ≤ x
      → (i : ℕ) → i ≤ length xs → m ≤ get_or (xs ++ x ∷ []) i 0
  least_snoc m least le i l = ⊎_elim
      (λ (q : i ≡ length xs). rw (q, get_or-append_seam) le)
      (λ lt. rw (get_or-append xs (x ∷ []) 0 i lt) (least i lt))
      (eq-or-lt_of_le l)

  pub falls_snoc : Falls xs → ((i : ℕ) → i < length xs → x ≤ get_or xs i 0) → Falls (xs ++ x ∷ [])
  falls_snoc f least i j l m = ⊎_elim
      (λ (q : j ≡ length xs). rw (q, get_or-append_seam) (least_snoc x least (le_refl x) i (omega arith)))
      (λ lt. rw (get_or-append xs (x ∷ []) 0 j lt, get_or-append xs (x ∷ []) 0 i (omega arith)) (f i j l lt))
      (eq-or-lt_of_le (omega (arith, rw length-append at m)))
