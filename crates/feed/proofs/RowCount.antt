-- A feed has a row for each LF, and one more where bytes stand behind the last.
-- Assumes nothing.
use mathlib.Core.Path.{◌≡◌, refl}
use mathlib.Core.Bool.{Bool, true, false, cond}
use mathlib.Core.List.{List, [], ◌∷◌}
use Prim.Native.Nat.{ℕ, ◌+◌, ◌-◌, ◌≤◌, ◌<◌}
use native.Mathlib.Omega.{arith}
use lib.Dec.{eqb}
use lib.ListN.{length, get_or}
use borrow.Author.Tests.{eq-eqb, ne_eqb}
use Rattle.std.specs.List.{count_by}
use Rattle.std.proofs.lemmas.List.Recursion.{is_count_by}
use Rattle.rows.specs.Rows.{LF, grown, rows_in}

-- the LFs
abbrev ends : List ℕ → ℕ
ends [] = 0
ends (b ∷ bs) = cond (eqb b LF) (1 + ends bs) (ends bs)

-- 1 where the last byte is no LF
abbrev rest : ℕ → List ℕ → ℕ
rest b [] = cond (eqb b LF) 0 1
rest b (c ∷ bs) = rest c bs

a_row : (b : ℕ) (bs : List ℕ) → 0 < length (rows_in (b ∷ bs))
unfolding rows_in
a_row b bs = go (eqb b LF) (rows_in bs)
  where
    go : (t : Bool) (rows : List (List ℕ)) → 0 < length (cond t ([] ∷ rows) (grown b rows))
    go true rows = omega arith
    go false [] = omega arith
    go false (r ∷ rs) = omega arith

ends_and_rest : (b : ℕ) (bs : List ℕ) → length (rows_in (b ∷ bs)) ≡ ends (b ∷ bs) + rest b bs
unfolding rows_in
ends_and_rest b [] = go (eqb b LF)
  where
    go : (t : Bool) → length (cond t ([] ∷ []) ((b ∷ []) ∷ [])) ≡ cond t 1 0 + cond t 0 1
    go true = refl
    go false = refl
ends_and_rest b (c ∷ bs) = go (eqb b LF) (rows_in (c ∷ bs)) (ends_and_rest c bs) (a_row c bs)
  where
    go : (t : Bool) (rows : List (List ℕ)) → length rows ≡ ends (c ∷ bs) + rest c bs → 0 < length rows
        → length (cond t ([] ∷ rows) (grown b rows)) ≡ cond t (1 + ends (c ∷ bs)) (ends (c ∷ bs)) + rest c bs
    go true rows e l = omega arith
    go false [] e l = absurd (omega arith)
    go false (r ∷ rs) e l = omega arith

rest_is : (b : ℕ) (bs : List ℕ) → rest b bs ≡ cond (eqb (get_or (b ∷ bs) (length bs) 0) LF) 0 1
rest_is b [] = refl
rest_is b (c ∷ bs) = rest_is c bs

ends_counted : (bs : List ℕ) → ends bs ≡ count_by (λ b. eqb b LF) bs
ends_counted = is_count_by ends (λ b. eqb b LF) refl (λ b bs. refl)

-- by the last byte
pub rows_of_none : (bs : List ℕ) → length bs ≤ 0 → length (rows_in bs) ≡ count_by (λ b. eqb b LF) bs
unfolding rows_in
rows_of_none [] l = refl
rows_of_none (b ∷ bs) l = absurd (omega arith)

pub rows_closed : (bs : List ℕ) → 0 < length bs → get_or bs (length bs - 1) 0 ≡ LF → length (rows_in bs) ≡ count_by (λ b. eqb b LF) bs
rows_closed [] l e = absurd (omega arith)
rows_closed (b ∷ bs) l e =
    let n : length (b ∷ bs) - 1 ≡ length bs = omega arith in
    let last : get_or (b ∷ bs) (length bs) 0 ≡ LF = rw n at e in
    let none : rest b bs ≡ 0 = rw (rest_is b bs, eq-eqb _ LF last) refl in
    omega (arith, ends_and_rest b bs, ends_counted (b ∷ bs))

pub rows_open : (bs : List ℕ) → 0 < length bs → (get_or bs (length bs - 1) 0 ≡ LF → ⊥) → length (rows_in bs) ≡ count_by (λ b. eqb b LF) bs + 1
rows_open [] l e = absurd (omega arith)
rows_open (b ∷ bs) l e =
    let n : length (b ∷ bs) - 1 ≡ length bs = omega arith in
    let last : get_or (b ∷ bs) (length bs) 0 ≡ LF → ⊥ = rw n at e in
    let one : rest b bs ≡ 1 = rw (rest_is b bs, ne_eqb _ LF last) refl in
    omega (arith, ends_and_rest b bs, ends_counted (b ∷ bs))

-- what `count_rows` needs
pub ruleset rows_counted = (rows_of_none, rows_closed, rows_open)
