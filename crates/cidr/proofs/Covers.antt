-- Which prefix holds another. Of two prefixes that hold an address the one with the greater key is the longer and ends no later. So a
-- prefix holds a later one exactly if it holds its network, or any other address of it, and it holds no earlier one.
-- Assumes nothing.
use mathlib.Core.Path.{◌≡◌, sym, ap, ◌∙◌}
use mathlib.Core.Logic.{⊎_elim}
use mathlib.Core.Bool.{true, false, ◌&&◌, and-false}
use Prim.Native.Nat.{ℕ, ◌≤◌, ◌<◌}
use native.Mathlib.Nat.{le_refl, le_of_lt}
use native.Mathlib.Omega.{arith}
use lib.Dec.{leb}
use borrow.Author.Tests.{le-leb, leb-true}
use Rattle.ground.proofs.Truth.{decided, and_left, and_right, and_both}
use Rattle.cidr.specs.Prefix.{network, length_of, holds, covers}
use Rattle.cidr.proofs.Prefix.{size_pos, Prefix, within_holds, longer_later, ends_earlier, holds_from, holds_to}

-- a prefix holds its own network, and itself
pub own_network : (key : ℕ) → Prefix key → holds key (network key) ≡ true
own_network key p = within_holds key (network key) p (le_refl (network key)) (omega (arith, size_pos (length_of key)))

pub covers_self : (key : ℕ) → Prefix key → covers key key ≡ true
unfolding covers
covers_self key p = and_both (le-leb _ _ (le_refl (length_of key))) (own_network key p)

-- what a prefix that holds another is
module _ (k k' : ℕ) (e : covers k k' ≡ true) where
  pub covers_holds : holds k (network k') ≡ true
  unfolding covers
  covers_holds = and_right (leb (length_of k) (length_of k')) _ e

  pub covers_shorter : length_of k ≤ length_of k'
  unfolding covers
  covers_shorter = leb-true _ _ (and_left (leb (length_of k) (length_of k')) _ e)

module _ (k k' : ℕ) (lt : k < k') where
  -- a prefix holds a later one where it holds its network
  pub covers_later : Prefix k' → covers k k' ≡ holds k (network k')
  unfolding covers
  covers_later p' = ⊎_elim
      (λ e. rw (le-leb _ _ (le_of_lt (longer_later k k' (network k') lt e (own_network k' p')))))
      (λ e. ap (leb (length_of k) (length_of k') &&◌) e ∙ and-false (leb (length_of k) (length_of k')) ∙ sym e)
      (decided (holds k (network k')))

  -- and then it holds every address of the later one
  pub holds_later : Prefix k → Prefix k' → (a : ℕ) → holds k' a ≡ true → holds k (network k') ≡ holds k a
  holds_later p p' a held = ⊎_elim
      (λ e. e ∙ sym (inside (network k') a e (own_network k' p') held))
      (λ e. ⊎_elim (λ q. inside a (network k') q held (own_network k' p') ∙ sym q) (λ q. e ∙ sym q) (decided (holds k a)))
      (decided (holds k (network k')))
    where
      inside : (x y : ℕ) → holds k x ≡ true → holds k' x ≡ true → holds k' y ≡ true → holds k y ≡ true
      inside x y e e' h =
          within_holds k y p (omega (arith, holds_from k' y h)) (omega (arith, ends_earlier k k' x lt e e', holds_to k' y h))

  -- a prefix that holds an address of a later one holds that one
  pub covers_of_shared : Prefix k → Prefix k' → (a : ℕ) → holds k a ≡ true → holds k' a ≡ true → covers k k' ≡ true
  covers_of_shared p p' a e e' = covers_later p' ∙ holds_later p p' a e' ∙ e

  -- it holds no earlier one
  pub covers_never_earlier : Prefix k → covers k' k ≡ false
  covers_never_earlier p = ⊎_elim
      (λ e. absurd (omega (arith, covers_shorter k' k e, longer_later k k' (network k) lt (own_network k p) (covers_holds k' k e))))
      (λ e. e)
      (decided (covers k' k))
