-- The joined columns as a splice: the slot from which the runs inside are written is that of the run before where they join it, and then the
-- old start stands there, and the old hop, which is the first one inside. The block goes one slot up where a run begins at the end.
-- Assumes nothing.
use mathlib.Core.Path.{◌≡◌, refl, sym, ap, ◌∙◌}
use mathlib.Core.Bool.{Bool, true, false, cond, not}
use mathlib.Core.List.{List, [], ◌∷◌, ◌++◌, append_assoc}
use Prim.Native.Nat.{ℕ, suc, ◌+◌, ◌-◌, ◌≤◌, ◌<◌}
use native.Mathlib.Nat.{sub-zero}
use native.Mathlib.Omega.{arith}
use lib.ListN.{length, get_or, take, drop}
use lib.Seq.{take-suc}
use lib.Dec.{ltb}
use borrow.Author.Tests.{lt-ltb, le-ltb}
use Rattle.within.specs.Seams.{one, seam, joined}
use Rattle.plan.specs.Splice.{spliced}

-- one number more of the runs below
whole_below : (xs rest : List ℕ) (i : ℕ) → 0 < i → i ≤ length xs → take (i - 1) xs ++ get_or xs (i - 1) 0 ∷ rest ≡ take i xs ++ rest
whole_below xs rest i some room =
    let back : i ≡ suc (i - 1) = omega arith in
    let more = ap (λ n. take n xs) back ∙ take-suc xs (i - 1) 0 (omega arith) in
    sym (ap (◌++ rest) more ∙ append_assoc (take (i - 1) xs) (get_or xs (i - 1) 0 ∷ []) rest)

-- the slot before the block is left for a run at the end, or isn't
slot_left : (n : ℕ) (behind : Bool) → ltb n (n + cond behind 0 1) ≡ not behind
slot_left n true = le-ltb n (n + 0) (omega arith)
slot_left n false = lt-ltb n (n + 1) (omega arith)

-- the inside by its first number
pub by_first : (inner : List ℕ) → 0 < length inner → inner ≡ get_or inner 0 0 ∷ drop 1 inner
by_first [] l = absurd (omega arith)
by_first (x ∷ xs) l = refl

module _ (i j : ℕ) (before behind : Bool) (e c : ℕ) (inner old : List ℕ) (some : 0 < length inner) (low : i ≤ length old)
    (joins : before ≡ true → 0 < i)
    (from to : ℕ) (from_is : from ≡ i - cond before 1 0) (to_is : to ≡ from + length inner + cond behind 0 1)
    (first : c ≡ cond before (get_or old (i - 1) 0) (get_or inner 0 0)) where
  as_long : length (c ∷ drop 1 inner) ≡ length inner
  as_long = sym (ap length (by_first inner some))

  -- the column with its first number c inside is the joined one
  pub joined_spliced : joined i j before behind e inner old ≡ spliced from to j e (c ∷ drop 1 inner) old
  joined_spliced =
      let room : ltb (from + length (c ∷ drop 1 inner)) to ≡ not behind =
      rw (as_long, to_is) (slot_left (from + length inner) behind) in
      rw room (go before refl)
    where
      rest : List ℕ
      rest = one (not behind) e ++ drop j old

      go : (b : Bool) → before ≡ b
          → take i old ++ (seam before inner ++ (one (not behind) e ++ drop j old))
          ≡ take from old ++ (c ∷ (drop 1 inner ++ (one (not behind) e ++ drop j old)))
      go true q =
          rw (first, from_is, q) (sym (whole_below old (drop 1 inner ++ rest) i (joins q) low))
      go false q =
          rw (first, from_is, q, sub-zero) (ap (λ xs. take i old ++ (xs ++ rest)) (by_first inner some))
