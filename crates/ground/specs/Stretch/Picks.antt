-- `picked` is the one list of which `Picks` is true: its members pass the test and ascend, and no number around them passes.
-- Assumes nothing.
use Rattle.std.specs.Prelude.{◌≡◌, refl, Bool, true, false, List, [], ◌∷◌, ℕ, zero, suc, ◌+◌, ◌≤◌, ◌<◌, length, get_or}
use Rattle.std.proofs.Common.{sym, ap, ◌∙◌, ⊎_elim, suc-add, eq-or-lt_of_le, add-one, arith}
use Rattle.std.proofs.lemmas.Bool.{false≢true}
use Rattle.ground.specs.Stretch.{picked, keep}
use Rattle.ground.specs.Stretch.Laws.{picked_none, picked_suc}

-- the list is that of the numbers of the stretch that pass the test: its members pass and ascend, and before the first, between two
-- neighbours and after the last no number passes
pub record Picks (p : ℕ → Bool) (lo n : ℕ) (xs : List ℕ) : Type 0 where
  pub pass : (i : ℕ) → i < length xs → p (get_or xs i 0) ≡ true
  pub from : (i : ℕ) → i < length xs → lo ≤ get_or xs i 0
  pub below : (i : ℕ) → i < length xs → get_or xs i 0 < lo + n
  pub ascend : (i : ℕ) → i + 1 < length xs → get_or xs i 0 < get_or xs (i + 1) 0
  pub before : (a : ℕ) → lo ≤ a → a < lo + n → (0 < length xs → a < get_or xs 0 0) → p a ≡ false
  pub between : (i a : ℕ) → i < length xs → get_or xs i 0 < a → a < lo + n → (i + 1 < length xs → a < get_or xs (i + 1) 0) → p a ≡ false

module _ (p : ℕ → Bool) (lo n : ℕ) (xs : List ℕ) where
  picks_skip : p lo ≡ false → Picks p (suc lo) n xs → Picks p lo (suc n) xs
  picks_skip e k = record {
    pass = k.pass;
    from = λ i l. omega (arith, k.from i l);
    below = λ i l. omega (arith, k.below i l);
    ascend = k.ascend;
    before = λ a ge lt first. ⊎_elim (λ (q : lo ≡ a). rw q at e) (λ gt. k.before a gt (omega arith) first) (eq-or-lt_of_le ge);
    between = λ i a l gt lt next. k.between i a l gt (omega arith) next;
  }

  picks_of_skip : p lo ≡ false → Picks p lo (suc n) xs → Picks p (suc lo) n xs
  picks_of_skip e k = record {
    pass = k.pass;
    from = from';
    below = λ i l. omega (arith, k.below i l);
    ascend = k.ascend;
    before = λ a ge lt first. k.before a (omega arith) (omega arith) first;
    between = λ i a l gt lt next. k.between i a l gt (omega arith) next;
  }
    where
      from' : (i : ℕ) → i < length xs → lo < get_or xs i 0
      from' i l =
          let not_first : lo ≡ get_or xs i 0 → ⊥ = λ q. false≢true (sym e ∙ ap p q ∙ k.pass i l) in
          omega (arith, k.from i l)

  picks_cons : p lo ≡ true → Picks p (suc lo) n xs → Picks p lo (suc n) (lo ∷ xs)
  picks_cons e k = record {
    pass = pass';
    from = from';
    below = below';
    ascend = ascend';
    before = λ a ge lt first. absurd (omega (arith, first (omega arith)));
    between = between';
  }
    where
      pass' : (i : ℕ) → i < suc (length xs) → p (get_or (lo ∷ xs) i 0) ≡ true
      pass' zero l = e
      pass' (suc i) l = k.pass i (omega arith)

      from' : (i : ℕ) → i < suc (length xs) → lo ≤ get_or (lo ∷ xs) i 0
      from' zero l = omega arith
      from' (suc i) l = omega (arith, k.from i (omega arith))

      below' : (i : ℕ) → i < suc (length xs) → get_or (lo ∷ xs) i 0 < lo + suc n
      below' zero l = omega arith
      below' (suc i) l = omega (arith, k.below i (omega arith))

      ascend' : (i : ℕ) → i + 1 < suc (length xs) → get_or (lo ∷ xs) i 0 < get_or (lo ∷ xs) (i + 1) 0
      ascend' zero l = k.from 0 (omega arith)
      ascend' (suc i) l = rw suc-add (k.ascend i (omega arith))

      between' : (i a : ℕ) → i < suc (length xs) → get_or (lo ∷ xs) i 0 < a → a < lo + suc n
          → (i + 1 < suc (length xs) → a < get_or (lo ∷ xs) (i + 1) 0) → p a ≡ false
      between' zero a l gt lt next = k.before a gt (omega arith) (λ some. next (omega arith))
      between' (suc i) a l gt lt next = k.between i a (omega arith) gt (omega arith) (λ more. rw suc-add at (next (omega arith)))

  picks_of_cons : Picks p lo (suc n) (lo ∷ xs) → Picks p (suc lo) n xs
  picks_of_cons k = record {
    pass = λ i l. k.pass (suc i) (omega arith);
    from = λ i l. omega (arith, k.from i (omega arith), rw add-one at (k.ascend i (omega arith)));
    below = λ i l. omega (arith, k.below (suc i) (omega arith));
    ascend = λ i l. rw suc-add at (k.ascend (suc i) (omega arith));
    before = λ a ge lt first. k.between 0 a (omega arith) ge (omega arith) (λ more. first (omega arith));
    between = λ i a l gt lt next. k.between (suc i) a (omega arith) gt (omega arith) (λ more. rw suc-add (next (omega arith)));
  }

pub picks : (p : ℕ → Bool) (lo n : ℕ) → Picks p lo n (picked p lo n)
picks p lo zero = rw picked_none record {
  pass = λ i l. absurd (omega arith);
  from = λ i l. absurd (omega arith);
  below = λ i l. absurd (omega arith);
  ascend = λ i l. absurd (omega arith);
  before = λ a ge lt first. absurd (omega arith);
  between = λ i a l gt lt next. absurd (omega arith);
}
picks p lo (suc n) = rw picked_suc (go (p lo) refl (picks p (suc lo) n))
  where
    go : (b : Bool) → p lo ≡ b → Picks p (suc lo) n (picked p (suc lo) n) → Picks p lo (suc n) (keep b lo (picked p (suc lo) n))
    go true e k = picks_cons p lo n _ e k
    go false e k = picks_skip p lo n _ e k

-- a first number that passes is the first of the list
pub picks_front : (p : ℕ → Bool) (lo n : ℕ) (xs : List ℕ) → Picks p lo n xs → 0 < n → p lo ≡ true → (0 < length xs) × (get_or xs 0 0 ≡ lo)
picks_front p lo n [] k pos e = absurd (false≢true (sym (k.before lo (omega arith) (omega arith) (λ some. absurd (omega arith))) ∙ e))
picks_front p lo n (x ∷ xs) k pos e = ⊎_elim
    (λ (q : lo ≡ x). (omega arith, sym q))
    (λ gt. absurd (false≢true (sym (k.before lo (omega arith) (omega arith) (λ some. gt)) ∙ e)))
    (eq-or-lt_of_le (k.from 0 (omega arith)))

pub only_picks : (p : ℕ → Bool) (lo n : ℕ) (xs : List ℕ) → Picks p lo n xs → xs ≡ picked p lo n
only_picks p lo zero [] k = rw picked_none
only_picks p lo zero (x ∷ xs) k = absurd (omega (arith, k.from 0 (omega arith), k.below 0 (omega arith)))
only_picks p lo (suc n) xs k = rw picked_suc (go xs k (p lo) refl (λ l. only_picks p (suc lo) n l))
  where
    go : (xs : List ℕ) → Picks p lo (suc n) xs → (b : Bool) → p lo ≡ b → ((l : List ℕ) → Picks p (suc lo) n l → l ≡ picked p (suc lo) n)
        → xs ≡ keep b lo (picked p (suc lo) n)
    go xs k false e rest = rest xs (picks_of_skip p lo n xs e k)
    go [] k true e rest = absurd (omega (arith, picks_front p lo (suc n) [] k (omega arith) e))
    go (x ∷ xs) k true e rest =
        let front : x ≡ lo = (picks_front p lo (suc n) (x ∷ xs) k (omega arith) e).1 in
        rw (rest xs (picks_of_cons p lo n xs (rw front at k)), front)
