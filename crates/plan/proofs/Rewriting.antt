-- One column of the run table, rewritten in place: the block of runs behind the prefix goes where it will stand, a number is put before it,
-- and the runs inside are written from their slot on. Where these reach up to the block, the last of them goes over that number. What the
-- slice holds then is the spliced column, and so it is where the first number of the inside gives way to another.
-- Assumes nothing.
use mathlib.Core.Path.{◌≡◌, sym, ap, ◌∙◌}
use mathlib.Core.Logic.{⊎_elim}
use mathlib.Core.List.{List, [], ◌∷◌, ◌++◌, append_assoc, append-nil}
use Prim.Native.Nat.{ℕ, suc, ◌+◌, ◌-◌, ◌≤◌, ◌<◌, max}
use native.Mathlib.Nat.{eq-or-lt_of_le}
use native.Mathlib.Omega.{arith}
use lib.ListN.{length, take, drop, set, replicate, length-take, length-drop, length-append, drop_of_length-le}
use lib.Seq.{length-take-le, drop_at, take-append-le, drop-append-add, take-take, take-suc, take-add, take_all, set_at, drop-drop}
use lib.Dec.{ltb}
use borrow.Author.Tests.{lt-ltb, le-ltb}
use borrow.Rule.Slice.PartMut.{mid_of, put_mid}
use Rattle.ground.specs.Slots.{written, rewritten}
use Rattle.ground.specs.Column.{shifted, moved_to}
use Rattle.plan.specs.declared.table.Splice.{Splice}
use Rattle.within.specs.Seams.{one}
use Rattle.plan.specs.Splice.{spliced, Splices}

-- what stands from the slot `to` on: the old numbers from `past` on, 0 in the slots that only the old table reached, and the slots beyond
abbrev block : ℕ → Splice → List ℕ → List ℕ
block n s xs =
    take (n - s.past) (drop s.past xs) ++ (replicate (n - (s.to + (n - s.past))) 0 ++ drop (max (s.to + (n - s.past)) n) xs)

-- the whole slice: what is below, the inside, one number more or none, and the block
abbrev laid : ℕ → Splice → List ℕ → ℕ → List ℕ → List ℕ
laid n s inner e xs = take s.from xs ++ (inner ++ (one (ltb (s.from + length inner) s.to) e ++ block n s xs))

one_long : (a b e : ℕ) → a ≤ b → b ≤ a + 1 → length (one (ltb a b) e) ≡ b - a
one_long a b e l m = ⊎_elim
    (λ (q : a ≡ b). rw (le-ltb a b (omega arith)) (omega arith))
    (λ (q : a < b). rw (lt-ltb a b q) (omega arith))
    (eq-or-lt_of_le l)

-- the part of a slice from a slot on that was lent has the inside at its front, and the slice with that part
abbrev WrittenFrom : ℕ → List ℕ → List ℕ → List ℕ → Type 0
WrittenFrom x inner zs part = part ≡ written inner (mid_of x (length zs - x) zs)

abbrev with_part : ℕ → List ℕ → List ℕ → List ℕ
with_part x zs part = put_mid x (length zs - x) zs part

part_written : (x : ℕ) (zs inner part : List ℕ) → WrittenFrom x inner zs part → with_part x zs part ≡ take x zs ++ written inner (drop x zs)
part_written x zs inner part p =
    let long : length (drop x zs) ≡ length zs - x = length-drop x zs in
    rw (p, take_all (length zs - x) (drop x zs) (omega arith), drop_of_length-le (drop x zs) {i = length zs - x} (omega arith), append-nil)

first_put : (below inner rest : List ℕ) (c x : ℕ) → length below ≡ x → 0 < length inner
    → set (below ++ (inner ++ rest)) x c ≡ below ++ ((c ∷ drop 1 inner) ++ rest)
first_put below [] rest c x q l = absurd (omega arith)
first_put below (h ∷ t) rest c x q l = set_at below h (t ++ rest) c x q

module _ {m net end n : ℕ} {s : Splice} (k : Splices m net end n s) (some : 0 < m) (xs : List ℕ) (room : n ≤ length xs)
    (fits : s.to + (n - s.past) ≤ length xs) where
  moved : shifted n s.past s.to xs ≡ take s.to xs ++ block n s xs
  unfolding moved_to rewritten
  moved =
      let long : length (take s.to xs ++ take (n - s.past) (drop s.past xs)) ≡ s.to + (n - s.past)
      = simp (length-append, length-take, length-drop) (omega arith) in
      rw (long, append_assoc)

  -- a number put before the block
  abbrev front : List ℕ
  front = take (s.to - 1) xs

  front_long : length front ≡ s.to - 1
  front_long = length-take-le (s.to - 1) xs (omega arith)

  put : (v : ℕ) → set (shifted n s.past s.to xs) (s.to - 1) v ≡ front ++ v ∷ block n s xs
  put v =
      let last : s.to ≡ suc (s.to - 1) = omega arith in
      let cut = ap (λ i. take i xs) last ∙ take-suc xs (s.to - 1) 0 (omega arith) in
      ap (λ ys. set ys (s.to - 1) v) (moved ∙ ap (◌++ block n s xs) cut ∙ append_assoc front _ (block n s xs))
      ∙ set_at front _ (block n s xs) v (s.to - 1) front_long

  module _ (inner : List ℕ) (many : length inner ≡ m) (e : ℕ) where
    spliced_long : length (spliced s.from s.to s.past e inner (take n xs)) ≡ s.to + (n - s.past)
    spliced_long =
        simp (length-append, length-take, length-drop)
        (omega (arith, one_long (s.from + length inner) s.to e (omega arith) (omega arith)))

    laid_spliced : laid n s inner e xs ≡ rewritten (spliced s.from s.to s.past e inner (take n xs)) n xs
    unfolding rewritten
    laid_spliced =
        let parts : n ≡ s.past + (n - s.past) = omega arith in
        let kept : drop s.past (take n xs) ≡ take (n - s.past) (drop s.past xs)
        = ap (λ i. drop s.past (take i xs)) parts ∙ ap (drop s.past) (take-add s.past (n - s.past) xs)
        ∙ drop_at (take s.past xs) _ s.past (length-take-le s.past xs (omega arith)) in
        rw (spliced_long, kept, take-take s.from n xs (omega arith)) (simp append_assoc)

  -- the number before the block is left where the runs inside end before it
  module _ (inner : List ℕ) (many : length inner ≡ m) (v e : ℕ) (same : s.from + m < s.to → v ≡ e) where
    left : drop (s.from + length inner) (front ++ v ∷ block n s xs) ≡ one (ltb (s.from + length inner) s.to) e ++ block n s xs
    left = ⊎_elim
        (λ (q : s.from + m ≡ s.to). rw (le-ltb (s.from + length inner) s.to (omega arith)) (over (omega (arith, front_long))))
        (λ (l : s.from + m < s.to). rw (lt-ltb (s.from + length inner) s.to (omega arith), same l)
        (drop_at front _ (s.from + length inner) (omega (arith, front_long))))
        (eq-or-lt_of_le k.behind)
      where
        over : s.from + length inner ≡ length front + 1 → drop (s.from + length inner) (front ++ v ∷ block n s xs) ≡ block n s xs
        over q = rw q (drop-append-add front (v ∷ block n s xs) 1)

    inside : take s.from (front ++ v ∷ block n s xs) ++ written inner (drop s.from (front ++ v ∷ block n s xs)) ≡ laid n s inner e xs
    unfolding written
    inside =
        rw (
          drop-drop (length inner) s.from (front ++ v ∷ block n s xs),
          left,
          take-append-le s.from front (v ∷ block n s xs) (omega (arith, front_long)),
          take-take s.from (s.to - 1) xs (omega arith),
        )

    -- the slice when the part that was lent is back
    module _ {ys part : List ℕ} (was : ys ≡ shifted n s.past s.to xs)
        (is : WrittenFrom s.from inner (set ys (s.to - 1) v) part) where
      back : with_part s.from (set ys (s.to - 1) v) part ≡ laid n s inner e xs
      back =
          part_written s.from (set ys (s.to - 1) v) inner part is
          ∙ ap (λ zs. take s.from zs ++ written inner (drop s.from zs)) (ap (λ zs. set zs (s.to - 1) v) was ∙ put v)
          ∙ inside

      pub column : with_part s.from (set ys (s.to - 1) v) part ≡ rewritten (spliced s.from s.to s.past e inner (take n xs)) n xs
      column = back ∙ laid_spliced inner many e

      -- and with a number of its own in the first slot
      pub column_first : (c : ℕ) → set (with_part s.from (set ys (s.to - 1) v) part) s.from c
          ≡ rewritten (spliced s.from s.to s.past e (c ∷ drop 1 inner) (take n xs)) n xs
      column_first c =
          let rest : length (c ∷ drop 1 inner) ≡ length inner = simp length-drop (omega arith) in
          ap (λ zs. set zs s.from c) back
          ∙ first_put (take s.from xs) inner _ c s.from (length-take-le s.from xs (omega arith)) (omega arith)
          ∙ ap (λ i. take s.from xs ++ ((c ∷ drop 1 inner) ++ (one (ltb (s.from + i) s.to) e ++ block n s xs))) (sym rest)
          ∙ laid_spliced (c ∷ drop 1 inner) (rest ∙ many) e
