-- The slots of a lent slice after a call: writing at the front keeps the length, what was written stands at the front, a longer writing
-- covers a shorter one, and one more slot is one more number. Then the same of what an edit rewrites, and what `same` says of two lists.
-- Assumes nothing.
use mathlib.Core.Path.{◌≡◌, refl, sym, ap, ◌∙◌}
use mathlib.Core.Bool.{true}
use mathlib.Core.List.{List, [], ◌∷◌, ◌++◌, append_assoc}
use Prim.Native.Nat.{ℕ, ◌+◌, ◌-◌, ◌≤◌, ◌<◌, max}
use native.Mathlib.Numerals.{add-one}
use native.Mathlib.Omega.{arith}
use lib.ListN.{length, get_or, take, drop, set, length-take, length-append, length-drop, length-replicate, take-append-drop}
use lib.Seq.{take_at, get_or-take, drop-append-add, drop-drop, drop-cons, set_at}
use lib.Dec.{eqb}
use borrow.Author.Tests.{eqb-true, eq-eqb}
use Rattle.ground.proofs.Truth.{and_left, and_right, and_both, never_both}
use Rattle.ground.specs.Slots.{written, rewritten, same}

pub length_written : (new old : List ℕ) → length new ≤ length old → length (written new old) ≡ length old
unfolding written
length_written new old l = simp (length-append, length-drop) (omega arith)

pub take_written : (new old : List ℕ) (n : ℕ) → n ≡ length new → take n (written new old) ≡ new
unfolding written
take_written new old n e = take_at new _ n (sym e)

pub written_twice : (first new old : List ℕ) → length first ≤ length new → written new (written first old) ≡ written new old
unfolding written
written_twice first new old l = ap (new ++◌) (go (length new - length first) (omega arith))
  where
    go : (m : ℕ) → length new ≡ length first + m → drop (length new) (first ++ drop (length first) old) ≡ drop (length new) old
    go m e = rw e (drop-append-add first (drop (length first) old) m ∙ drop-drop m (length first) old)

pub written_more : (new old : List ℕ) (v : ℕ) → length new < length old → set (written new old) (length new) v ≡ written (new ++ v ∷ []) old
unfolding written
written_more new old v l =
    rw (drop-cons old (length new) 0 l, length-append, add-one, append_assoc) (set_at new _ _ v (length new) refl)

-- What an edit rewrites keeps the length too and stands at the front, and rewriting what the old count reached leaves every slot as it was.
module _ (new : List ℕ) (count : ℕ) (old : List ℕ) where
  pub length_rewritten : length new ≤ length old → count ≤ length old → length (rewritten new count old) ≡ length old
  unfolding rewritten
  length_rewritten l m = simp (length-append, length-replicate, length-drop) (omega arith)

  pub take_rewritten : (n : ℕ) → n ≡ length new → take n (rewritten new count old) ≡ new
  unfolding rewritten
  take_rewritten n e = take_at new _ n (sym e)

  pub rewritten_same : take count old ≡ new → count ≡ length new → rewritten new count old ≡ old
  unfolding rewritten
  rewritten_same held e =
      let none : length new - length new ≡ 0 = omega arith in
      let top : max (length new) (length new) ≡ length new = omega arith in
      rw (e, none, top) (rw (held, e) at (take-append-drop count old))

-- two lists are the same exactly if they are one list
pub same_is : (xs ys : List ℕ) → same xs ys ≡ true → xs ≡ ys
unfolding same
same_is [] [] e = refl
same_is [] (y ∷ ys) e = never_both e refl
same_is (x ∷ xs) [] e = never_both e refl
same_is (x ∷ xs) (y ∷ ys) e =
    let heads = eqb-true x y (and_left (eqb x y) (same xs ys) e) in
    let tails = same_is xs ys (and_right (eqb x y) (same xs ys) e) in
    cc

pub same_self : (xs : List ℕ) → same xs xs ≡ true
unfolding same
same_self [] = refl
same_self (x ∷ xs) = and_both (eq-eqb x x refl) (same_self xs)

-- a list whose first slots are another one's is at least as long, and has its numbers there
pub first_long : (n : ℕ) (xs ys : List ℕ) → take n xs ≡ ys → n ≡ length ys → n ≤ length xs
first_long n xs ys e l = omega (arith, ap length e, length-take n xs)

pub first_slot : (n : ℕ) (xs ys : List ℕ) → take n xs ≡ ys → (i : ℕ) → i < n → get_or xs i 0 ≡ get_or ys i 0
first_slot n xs ys e i l = sym (get_or-take n xs i 0 l) ∙ rw e
