-- Numbers are stored one behind the other from the front of a slice: at each place those before it are there. And a first number with the
-- others in what is left is the whole.
-- Assumes nothing.
use mathlib.Core.Path.{◌≡◌, refl, sym, ap, ◌∙◌}
use mathlib.Core.List.{List, [], ◌∷◌, append-nil}
use Prim.Native.Nat.{ℕ, ◌+◌, ◌-◌, ◌≤◌, ◌<◌}
use native.Mathlib.Numerals.{add-one}
use native.Mathlib.Omega.{arith}
use lib.ListN.{length, get_or, take, drop, set, length-take, length-drop, drop_of_length-le}
use lib.Seq.{take-suc, take_all}
use borrow.Rule.Slice.PartMut.{put_mid, mid_of}
use Rattle.ground.specs.Slots.{written}
use Rattle.ground.proofs.Slots.{length_written, written_more}

pub record Filling (xs old out : List ℕ) (i : ℕ) : Type 0 where
  pub upto : i ≤ length xs
  pub room : length xs ≤ length old
  pub is : out ≡ written (take i xs) old

pub filling_start : (xs old : List ℕ) → length xs ≤ length old → Filling xs old old 0
unfolding written
filling_start xs old room = record { upto = omega arith; room = room; is = refl }

module _ {xs old out : List ℕ} {i : ℕ} (f : Filling xs old out i) where
  there : length (take i xs) ≡ i
  there = omega (arith, f.upto, length-take i xs)

  pub filling_long : length out ≡ length old
  filling_long = ap length f.is ∙ length_written (take i xs) old (omega (arith, there, f.upto, f.room))

  pub slot_free : i < length xs → i < length out
  slot_free l = omega (arith, filling_long, f.room)

  pub filling_next : {v : ℕ} → i < length xs → v ≡ get_or xs i 0 → Filling xs old (set out i v) (i + 1)
  filling_next {v} l e = record {
    upto = omega arith;
    room = f.room;
    is = rw (f.is, e, add-one, take-suc xs i 0 l)
        (ap (λ n. set (written (take i xs) old) n (get_or xs i 0)) (sym there)
        ∙ written_more (take i xs) old (get_or xs i 0) (omega (arith, there, f.room)));
  }

  pub filling_end : length xs ≤ i → out ≡ written xs old
  filling_end l = f.is ∙ ap (λ ys. written ys old) (take_all i xs l)

-- a first number, and the numbers from a place on behind it
pub first_copied : (old : List ℕ) (v n k : ℕ) (xs part : List ℕ) → k ≤ length xs → length xs - k < length old
    → n ≡ length (mid_of k (length xs - k) xs) + 1 - 1 → part ≡ mid_of k (length xs - k) xs
    → put_mid 1 n (set old 0 v) part ≡ written (v ∷ drop k xs) old
unfolding written
first_copied [] v n k xs part w l e p = absurd (omega arith)
first_copied (o ∷ os) v n k xs part w l e p =
    let all = take_all (length xs - k) (drop k xs) (simp length-drop (omega arith)) in
    let long : n ≡ length (drop k xs) = e ∙ rw all (omega arith) in
    rw (p, all, long)

pub first_then : (old : List ℕ) (v n : ℕ) (xs part : List ℕ) → 0 < length old → n ≡ length (set old 0 v) - 1
    → part ≡ written xs (mid_of 1 n (set old 0 v)) → put_mid 1 n (set old 0 v) part ≡ written (v ∷ xs) old
unfolding written
first_then [] v n xs part l e p = absurd (omega arith)
first_then (o ∷ os) v n xs part l e p =
    rw (p, take_all n os (omega arith), drop_of_length-le os {i = n} (omega arith), append-nil)
