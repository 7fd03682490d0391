-- What the moves of a column leave: an element that went in or out by a turn of those from its place on, and elements that were copied
-- to another place, with the slots that they leave filled.
-- Then what went in, was set or went out in terms of the first `count` numbers alone: `written` and `rewritten`.
-- Assumes nothing.
use mathlib.Core.Path.{◌≡◌, refl, sym, ap, ◌∙◌}
use mathlib.Core.List.{List, [], ◌∷◌, ◌++◌, append_assoc, append-nil}
use mathlib.Core.Bool.{Bool, true, false, ◌&&◌}
use Prim.Native.Nat.{ℕ, zero, suc, ◌+◌, ◌-◌, ◌≤◌, ◌<◌, max}
use native.Mathlib.Nat.{sub_self, sub-zero, zero-sub, suc-sub-suc}
use native.Mathlib.Numerals.{add-one}
use native.Mathlib.Omega.{arith}
use lib.ListN.{length, get_or, take, drop, set, replicate, length-set, length-append, length-drop, length-take, length-replicate, take-append-drop, drop_of_length-le}
use lib.Seq.{paste, take_at, drop_at, take-suc, drop-cons, drop-drop, set_at, set-append_left, length-take-le, take-nil, take-take}
use lib.Dec.{leb, ltb}
use borrow.Author.Tests.{lt-ltb, le-ltb, le-leb, lt-leb}
use borrow.Rule.Slice.PartMut.{put_mid, mid_of, post_of}
use Rattle.std.proofs.lemmas.List.{set-append_right}
use Rattle.ground.proofs.Truth.{cond_true, cond_false, and_both}
use Rattle.ground.specs.Column.{inserted_at, taken_out, removed_at, moved_down, moved_to}
use Rattle.ground.specs.Slots.{written, rewritten}

and-false : (b : Bool) → (b && false) ≡ false
and-false true = refl
and-false false = refl

pub drop_take : {A : Type 0} (p n : ℕ) (xs : List A) → drop p (take n xs) ≡ take (n - p) (drop p xs)
drop_take zero n xs = rw sub-zero
drop_take (suc p) zero xs = rw zero-sub
drop_take (suc p) (suc n) [] = sym (take-nil (suc n - suc p))
drop_take (suc p) (suc n) (x ∷ xs) = rw suc-sub-suc (drop_take p n xs)

module _ {A : Type 0} (xs : List A) (count at : ℕ) where
  inserted_within : (v : A) → at ≤ count → count < length xs
      → inserted_at count at v xs ≡ take at xs ++ v ∷ (take (count - at) (drop at xs) ++ drop (count + 1) xs)
  unfolding inserted_at
  inserted_within v l r = cond_true _ _ (and_both (le-leb at count l) (lt-ltb count (length xs) r))

  -- where the place is beyond the count, or the slice is full
  pub inserted_beyond : (v : A) → count < at → xs ≡ inserted_at count at v xs
  unfolding inserted_at
  inserted_beyond v l = rw (lt-leb at count l)

  pub inserted_full : (v : A) → length xs ≤ count → xs ≡ inserted_at count at v xs
  unfolding inserted_at
  inserted_full v l = sym (cond_false _ _ (ap (leb at count &&◌) (le-ltb count (length xs) l) ∙ and-false (leb at count)))

  taken_within : (freed : A) → at < count → count ≤ length xs
      → taken_out freed count at xs ≡ take at xs ++ (take (count - (at + 1)) (drop (at + 1) xs) ++ freed ∷ drop count xs)
  unfolding taken_out
  taken_within freed l r = cond_true _ _ (and_both (lt-ltb at count l) (le-leb count (length xs) r))

  -- where the count has no such place, or the slice has no such count
  pub taken_beyond : (freed : A) → count ≤ at → xs ≡ taken_out freed count at xs
  unfolding taken_out
  taken_beyond freed l = rw (le-ltb at count l)

  pub taken_short : (freed : A) → length xs < count → xs ≡ taken_out freed count at xs
  unfolding taken_out
  taken_short freed l = sym (cond_false _ _ (ap (ltb at count &&◌) (lt-leb count (length xs) l) ∙ and-false (ltb at count)))

  -- the slots from the place up to the one behind the last are turned to the right, and the first of them is set
  pub turned_in : (v : A) (n : ℕ) (part : List A) → n ≡ count + 1 - at → at ≤ count → count < length xs
      → part ≡ drop (length (mid_of at n xs) - 1) (mid_of at n xs) ++ take (length (mid_of at n xs) - 1) (mid_of at n xs)
      → set (put_mid at n xs part) at v ≡ inserted_at count at v xs
  turned_in v n part e l r is =
      let long : length (mid_of at n xs) ≡ suc (count - at) = simp (length-take, length-drop) (omega arith) in
      let less : length (mid_of at n xs) - 1 ≡ count - at = omega (arith, long) in
      let last : drop (count - at) (mid_of at n xs) ≡ get_or (mid_of at n xs) (count - at) v ∷ []
      = drop-cons (mid_of at n xs) (count - at) v (omega (arith, long))
      ∙ ap (get_or (mid_of at n xs) (count - at) v ∷◌) (drop_of_length-le (mid_of at n xs) {i = suc (count - at)} (omega (arith, long))) in
      let others : take (count - at) (mid_of at n xs) ≡ take (count - at) (drop at xs) = take-take (count - at) n (drop at xs) (omega arith) in
      let behind : post_of at n xs ≡ drop (count + 1) xs
      = drop-drop n at xs ∙ ap (λ m. drop m xs) (omega (arith, e)) in
      let none : at - at ≡ 0 = sub_self at in
      set-append_right (take at xs) (part ++ post_of at n xs) at at v (length-take-le at xs (omega arith)) (omega arith)
      ∙ rw (none, is, less, last, others, behind) (sym (inserted_within v l r))

  -- the slots from the place up to the last are turned to the left, and the last of them is set
  pub turned_out : (freed : A) (n : ℕ) (part : List A) → n ≡ count - at → at < count → count ≤ length xs
      → part ≡ drop 1 (mid_of at n xs) ++ take 1 (mid_of at n xs)
      → set (put_mid at n xs part) (count - 1) freed ≡ taken_out freed count at xs
  turned_out freed n part e l r is =
      let some : 0 < length (mid_of at n xs) = simp (length-take, length-drop) (omega arith) in
      let first : take 1 (mid_of at n xs) ≡ get_or (mid_of at n xs) 0 freed ∷ [] = take-suc (mid_of at n xs) 0 freed some in
      let others : drop 1 (mid_of at n xs) ≡ take (count - (at + 1)) (drop (at + 1) xs)
      = drop_take 1 n (drop at xs) ∙ cong_take (omega (arith, e)) (drop-drop 1 at xs) in
      let behind : post_of at n xs ≡ drop count xs = drop-drop n at xs ∙ ap (λ m. drop m xs) (omega (arith, e)) in
      let long : length (take (count - (at + 1)) (drop (at + 1) xs)) ≡ count - 1 - at
      = simp (length-take, length-drop) (omega arith) in
      set-append_right (take at xs) (part ++ post_of at n xs) at (count - 1) freed (length-take-le at xs (omega arith)) (omega arith)
      ∙ rw (is, first, others, behind, append_assoc)
      (ap (take at xs ++◌) (set_at (take (count - (at + 1)) (drop (at + 1) xs)) _ (drop count xs) freed (count - 1 - at) long))
      ∙ sym (taken_within freed l r)
    where
      cong_take : {m k : ℕ} {ys zs : List A} → m ≡ k → ys ≡ zs → take m ys ≡ take k zs
      cong_take p q = rw (p, q)

-- elements that were copied further down
pub lowered : {A : Type 0} (xs ys : List A) (count from by place first n : ℕ) → by ≤ from → from ≤ count
    → ys ≡ paste xs place (drop first xs) n → place ≡ from - by → first ≡ from → n ≡ count - from → ys ≡ moved_down count from by xs
unfolding moved_down
lowered xs ys count from by place first n l m is there here many =
    let behind : from - by + (count - from) ≡ count - by = omega arith in is ∙ rw (there, here, many, behind, append_assoc)

-- elements that were copied to another place, and the slots that they leave filled
module _ {A : Type 0} (freed : A) (xs : List A) (count from to : ℕ) (l : from ≤ count) (room : count ≤ length xs) (fits : to + (count - from) ≤ length xs) where
  abbrev kept : List A
  kept = take to xs ++ take (count - from) (drop from xs)

  kept_long : length kept ≡ to + (count - from)
  kept_long = simp (length-append, length-take, length-drop) (omega arith)

  pub copied_up : from ≤ to → paste xs to (drop from xs) (count - from) ≡ moved_to freed count from to xs
  unfolding moved_to
  copied_up m =
      let none : count - (to + (count - from)) ≡ 0 = omega arith in
      let top : max (to + (count - from)) count ≡ to + (count - from) = omega arith in
      rw (kept_long, none, top)

  pub copied_down : (by end n i : ℕ) (all ys : List A) → by ≡ from - to → end ≡ to + (count - from) → n ≡ count - end → to < from
      → all ≡ moved_down count from by xs → ys ≡ replicate i freed ++ drop i (mid_of end n all)
      → length ys ≡ length (mid_of end n all) → length (mid_of end n all) ≤ i
      → put_mid end n all ys ≡ moved_to freed count from to xs
  unfolding moved_to
  copied_down by end n i all ys down ends e m lower is long past =
      let copied : all ≡ paste xs to (drop from xs) (count - from)
      = lower ∙ sym (lowered xs _ count from by to from (count - from) (omega (arith, down)) l refl (omega (arith, down, m)) refl refl) in
      let whole : length all ≡ length xs = ap length copied ∙ simp (length-append, length-take, length-drop) (omega arith) in
      let part : length (mid_of end n all) ≡ n = simp (length-take, length-drop) (omega (arith, whole, ends)) in
      let none = drop_of_length-le (mid_of end n all) {i = i} past in
      let filled : ys ≡ replicate i freed = is ∙ rw (none, append-nil) in
      let as_many : i ≡ n = omega (arith, ap length filled, length-replicate i freed, long, part) in
      let top : max (to + (count - from)) count ≡ count = omega arith in
      let front = take_at kept (drop (to + (count - from)) xs) (to + (count - from)) kept_long in
      let behind : drop n (drop (to + (count - from)) (kept ++ drop (to + (count - from)) xs)) ≡ drop count xs
      = ap (drop n) (drop_at kept (drop (to + (count - from)) xs) (to + (count - from)) kept_long)
      ∙ drop-drop n (to + (count - from)) xs ∙ ap (λ m. drop m xs) (omega (arith, e, ends)) in
      rw (ends, filled, as_many, copied, front, behind, kept_long, top, e ∙ ap (count -◌) ends)

-- a slot more is filled
pub filled_more : {A : Type 0} (xs ys : List A) (i : ℕ) (v : A) → ys ≡ replicate i v ++ drop i xs → i < length xs
    → set ys i v ≡ replicate (i + 1) v ++ drop (i + 1) xs
filled_more xs ys i v is l =
    rw (is, drop-cons xs i v l, add-one) (set_at (replicate i v) _ (drop (suc i) xs) v i (length-replicate i v) ∙ more i)
  where
    more : (n : ℕ) → replicate n v ++ v ∷ drop (suc i) xs ≡ replicate (suc n) v ++ drop (suc i) xs
    more zero = refl
    more (suc n) = ap (v ∷◌) (more n)

-- The slots after a change, from what the first n hold before and after it.
module _ (xs : List ℕ) (n p : ℕ) where
  pub inserted_written : (v : ℕ) → p ≤ n → n < length xs → inserted_at n p v xs ≡ written (take p (take n xs) ++ v ∷ drop p (take n xs)) xs
  unfolding written
  inserted_written v l r = rw (take-take p n xs, drop_take p n xs, long, append_assoc) (inserted_within xs n p v l r)
    where
      long : length (take p xs ++ v ∷ take (n - p) (drop p xs)) ≡ n + 1
      long =
          let before : length (take p xs) ≡ p = length-take-le p xs (omega arith) in
          let moved : length (take (n - p) (drop p xs)) ≡ n - p = length-take-le (n - p) (drop p xs) (simp length-drop (omega arith)) in
          rw length-append (omega arith)

  pub set_written : (v : ℕ) → p < n → n ≤ length xs → set xs p v ≡ written (set (take n xs) p v) xs
  unfolding written
  set_written v l r =
      let long = length-take-le n xs r in
      rw (length-set, long) (rw take-append-drop at (set-append_left (take n xs) (drop n xs) p v (omega arith)))

  pub removed_rewritten : p < n → n ≤ length xs → removed_at n p xs ≡ rewritten (take p (take n xs) ++ drop (p + 1) (take n xs)) n xs
  unfolding rewritten
  removed_rewritten l r =
      let before : length (take p xs) ≡ p = length-take-le p xs (omega arith) in
      let moved : length (take (n - (p + 1)) (drop (p + 1) xs)) ≡ n - (p + 1)
      = length-take-le (n - (p + 1)) (drop (p + 1) xs) (simp length-drop (omega arith)) in
      let long : length (take p xs ++ take (n - (p + 1)) (drop (p + 1) xs)) ≡ n - 1 = rw length-append (omega arith) in
      let one : n - (n - 1) ≡ 1 = omega arith in
      let top : max (n - 1) n ≡ n = omega arith in
      rw (take-take p n xs (omega arith), drop_take (p + 1) n xs, long, one, top, append_assoc) (taken_within xs n p 0 l r)
