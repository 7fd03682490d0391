-- Which rows a list has: those that pass a test are the listed rows of which the test is true, and of one list behind another those of the
-- one behind those of the other.
-- Assumes nothing.
use mathlib.Core.Path.{◌≡◌, refl, sym, ap, ◌∙◌}
use mathlib.Core.Logic.{◌⊎◌, inl, inr, ⊎_elim}
use mathlib.Core.Bool.{Bool, true, false, ◌&&◌}
use mathlib.Core.List.{List, [], ◌∷◌, ◌++◌, append-nil}
use mathlib.Core.List.Memᴰ
use mathlib.Core.List.{Memᴰ}
use Prim.Native.Nat.{ℕ, zero, suc, ◌<◌}
use native.Mathlib.Omega.{arith}
use lib.ListN.{length, get_or}
use Rattle.ground.proofs.Truth.{and_left, and_right, and_both, never_both}
use Rattle.routes.specs.Row.{Row, every, keep_row, those}

-- the row is listed
abbrev pub Has : Row → List Row → Type 0
Has r rows = Memᴰ r rows

-- the row at a place is listed
pub has_at : (rows : List Row) (i : ℕ) (d : Row) → i < length rows → Has (get_or rows i d) rows
has_at [] i d l = absurd (omega arith)
has_at (r ∷ rs) zero d l = Memᴰ.head refl
has_at (r ∷ rs) (suc i) d l = Memᴰ.tail (has_at rs i d (omega arith))

module _ (p : Row → Bool) where
  pub every_has : (rows : List Row) → every p rows ≡ true → (r : Row) → Has r rows → p r ≡ true
  unfolding every
  every_has [] e r m = absurd (Memᴰ.not-nil m)
  every_has (s ∷ ss) e r m =
      ⊎_elim (λ q. ap p q ∙ and_left (p s) (every p ss) e) (every_has ss (and_right (p s) (every p ss) e) r) (Memᴰ.cases_cons m)

  pub has_every : (rows : List Row) → ((r : Row) → Has r rows → p r ≡ true) → every p rows ≡ true
  unfolding every
  has_every [] h = refl
  has_every (s ∷ ss) h = and_both (h s (Memᴰ.head refl)) (has_every ss (λ r m. h r (Memᴰ.tail m)))

  kept : (b : Bool) (s r : Row) (ss : List Row) → Has r (keep_row b s ss) → ((r ≡ s) × (b ≡ true)) ⊎ Has r ss
  kept true s r ss m = ⊎_elim (λ q. inl (q, refl)) inr (Memᴰ.cases_cons m)
  kept false s r ss m = inr m

  pub those_has : (rows : List Row) (r : Row) → Has r (those p rows) → Has r rows × (p r ≡ true)
  unfolding those
  those_has [] r m = absurd (Memᴰ.not-nil m)
  those_has (s ∷ ss) r m =
      ⊎_elim (λ w. (Memᴰ.head w.0, ap p w.0 ∙ w.1)) (λ n. tails (those_has ss r n)) (kept (p s) s r (those p ss) m)
    where
      tails : Has r ss × (p r ≡ true) → Has r (s ∷ ss) × (p r ≡ true)
      tails w = (Memᴰ.tail w.0, w.1)

  keep_head : (b : Bool) (s r : Row) (ss : List Row) → b ≡ true → r ≡ s → Has r (keep_row b s ss)
  keep_head true s r ss e q = Memᴰ.head q
  keep_head false s r ss e q = never_both e refl

  keep_tail : (b : Bool) (s r : Row) (ss : List Row) → Has r ss → Has r (keep_row b s ss)
  keep_tail true s r ss m = Memᴰ.tail m
  keep_tail false s r ss m = m

  pub has_those : (rows : List Row) (r : Row) → Has r rows → p r ≡ true → Has r (those p rows)
  unfolding those
  has_those [] r m e = absurd (Memᴰ.not-nil m)
  has_those (s ∷ ss) r m e =
      ⊎_elim (λ q. keep_head (p s) s r (those p ss) (sym (ap p q) ∙ e) q) (λ n. keep_tail (p s) s r (those p ss) (has_those ss r n e))
      (Memᴰ.cases_cons m)

  pub those_append : (xs ys : List Row) → those p (xs ++ ys) ≡ those p xs ++ those p ys
  unfolding those
  those_append [] ys = refl
  those_append (x ∷ xs) ys = rw (those_append xs ys) (go (p x))
    where
      go : (b : Bool) → keep_row b x (those p xs ++ those p ys) ≡ keep_row b x (those p xs) ++ those p ys
      go true = refl
      go false = refl

  -- two tests that agree on the listed rows pass the same ones
  pub those_same : (q : Row → Bool) (rows : List Row) → ((r : Row) → Has r rows → p r ≡ q r) → those p rows ≡ those q rows
  unfolding those
  those_same q [] h = refl
  those_same q (s ∷ ss) h = rw (h s (Memᴰ.head refl), those_same q ss (λ r m. h r (Memᴰ.tail m)))

  -- where all pass, those are all
  pub those_all : (rows : List Row) → ((r : Row) → Has r rows → p r ≡ true) → those p rows ≡ rows
  unfolding those
  those_all [] h = refl
  those_all (s ∷ ss) h = rw (h s (Memᴰ.head refl), those_all ss (λ r m. h r (Memᴰ.tail m)))

  -- those of those that pass another test pass both
  pub those_those : (q : Row → Bool) (rows : List Row) → those p (those q rows) ≡ those (λ r. p r && q r) rows
  unfolding those
  those_those q [] = refl
  those_those q (s ∷ ss) = go (p s) (q s) refl (those_those q ss)
    where
      go : (b c : Bool) → p s ≡ b → those p (those q ss) ≡ those (λ r. p r && q r) ss
          → those p (keep_row c s (those q ss)) ≡ keep_row (b && c) s (those (λ r. p r && q r) ss)
      go true true e rec = rw (e, rec)
      go true false e rec = rec
      go false true e rec = rw (e, rec)
      go false false e rec = rec

  -- one row more, which passes or doesn't
  pub those_one : (xs : List Row) (r : Row) → p r ≡ true → those p (xs ++ r ∷ []) ≡ those p xs ++ r ∷ []
  unfolding those
  those_one xs r e = those_append xs (r ∷ []) ∙ rw e

  pub those_none : (xs : List Row) (r : Row) → p r ≡ false → those p (xs ++ r ∷ []) ≡ those p xs
  unfolding those
  those_none xs r e = those_append xs (r ∷ []) ∙ rw (e, append-nil)
