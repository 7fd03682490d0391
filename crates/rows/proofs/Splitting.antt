-- A feed that isn't at its end has a first row, the bytes before its first LF or all of them, and the rows after that LF.
-- Assumes nothing.
use mathlib.Core.Path.{◌≡◌, refl, sym, ap, ◌∙◌}
use mathlib.Core.Logic.{◌⊎◌, inl, inr}
use mathlib.Core.Bool.{Bool, true, false, cond}
use mathlib.Core.List.{List, [], ◌∷◌}
use Prim.Native.Nat.{ℕ, suc, ◌+◌, ◌-◌, ◌≤◌, ◌<◌, zero-le, suc-le-suc}
use native.Mathlib.Numerals.{add-one}
use native.Mathlib.Omega.{arith}
use lib.Dec.{eqb, ltb}
use lib.ListN.{length, take, drop, drop_of_length-le, length-drop}
use lib.Seq.{drop-drop}
use borrow.Author.Tests.{ltb-false}
use Rattle.std.specs.List.{position_or_len}
use Rattle.std.specs.Prelude.{Option, Some, None, unwrap_or}
use Rattle.ground.proofs.Truth.{decided}
use Rattle.std.proofs.lemmas.List.Recursion.{is_position_or_len}
use Rattle.rows.specs.Rows.{LF, grown, rows_in, row_length}

-- at the feed's end or past it the first row has no byte
pub length_at_end : (feed : List ℕ) (n : ℕ) → length feed ≤ n → row_length (drop n feed) ≡ 0
unfolding row_length
length_at_end feed n e = rw (drop_of_length-le feed {i = n} e)

row_length_le : (bs : List ℕ) → row_length bs ≤ length bs
unfolding row_length
row_length_le [] = zero-le
row_length_le (b ∷ bs) = go (eqb b LF) (row_length_le bs)
  where
    go : (t : Bool) → row_length bs ≤ length bs → cond t 0 (suc (row_length bs)) ≤ suc (length bs)
    go true rec = zero-le
    go false rec = suc-le-suc rec

-- the first row ends at its LF, or where the bytes end
pub row_length_is : (bs : List ℕ) → row_length bs ≡ position_or_len (λ b. eqb b LF) bs
unfolding row_length
row_length_is = is_position_or_len row_length (λ b. eqb b LF) refl (λ b bs. grind arith)

-- so a search for the LF finds it, and else the row is all of the bytes
pub row_length_found : (bs : List ℕ) (o : Option ℕ)
    → o ≡ cond (ltb (position_or_len (λ b. eqb b LF) bs) (length bs)) (Some (position_or_len (λ b. eqb b LF) bs)) None
    → unwrap_or o (length bs) ≡ row_length bs
row_length_found bs o e =
    rw (e, row_length_is) (go (decided (ltb (position_or_len (λ b. eqb b LF) bs) (length bs))))
  where
    n : ℕ
    n = position_or_len (λ b. eqb b LF) bs

    go : (ltb n (length bs) ≡ true) ⊎ (ltb n (length bs) ≡ false) → unwrap_or (cond (ltb n (length bs)) (Some n) None) (length bs) ≡ n
    go (inl t) = rw t
    go (inr t) = rw t (omega (arith, ltb-false n (length bs) t, row_length_le bs, row_length_is bs))

drop_more : (n b : ℕ) (bs : List ℕ) → drop (suc n + 1) (b ∷ bs) ≡ drop (n + 1) bs
drop_more n b bs = rw (add-one (suc n), add-one n)

-- the first row and the rest of some bytes
first_row : (b : ℕ) (bs : List ℕ) → rows_in (b ∷ bs) ≡ take (row_length (b ∷ bs)) (b ∷ bs) ∷ rows_in (drop (row_length (b ∷ bs) + 1) (b ∷ bs))
unfolding rows_in row_length
first_row b [] = go (eqb b LF)
  where
    go : (t : Bool) → cond t ([] ∷ []) ((b ∷ []) ∷ []) ≡ take (cond t 0 1) (b ∷ []) ∷ rows_in (drop (cond t 0 1 + 1) (b ∷ []))
    go true = refl
    go false = refl
first_row b (b' ∷ bs) = go (eqb b LF) (first_row b' bs)
  where
    go : (t : Bool) → rows_in (b' ∷ bs) ≡ take (row_length (b' ∷ bs)) (b' ∷ bs) ∷ rows_in (drop (row_length (b' ∷ bs) + 1) (b' ∷ bs))
        → cond t ([] ∷ rows_in (b' ∷ bs)) (grown b (rows_in (b' ∷ bs)))
        ≡ take (cond t 0 (suc (row_length (b' ∷ bs)))) (b ∷ b' ∷ bs) ∷ rows_in (drop (cond t 0 (suc (row_length (b' ∷ bs))) + 1) (b ∷ b' ∷ bs))
    go true rec = refl
    go false rec =
        ap (grown b) rec
        ∙ ap (λ l. (b ∷ take (row_length (b' ∷ bs)) (b' ∷ bs)) ∷ rows_in l) (sym (drop_more (row_length (b' ∷ bs)) b (b' ∷ bs)))

-- the first row and the rest of a feed from a place on
pub rows_from : (feed : List ℕ) (at end : ℕ) → at < length feed → end ≡ at + row_length (drop at feed)
    → rows_in (drop at feed) ≡ take (end - at) (drop at feed) ∷ rows_in (drop (end + 1) feed)
rows_from feed at end h e =
    rows_of (drop at feed) (omega (arith, length-drop at feed))
    ∙ rw (whole, drop-drop (row_length (drop at feed) + 1) at feed, there)
  where
    rows_of : (bs : List ℕ) → 0 < length bs → rows_in bs ≡ take (row_length bs) bs ∷ rows_in (drop (row_length bs + 1) bs)
    rows_of [] l = absurd (omega arith)
    rows_of (b ∷ bs) l = first_row b bs

    whole : end - at ≡ row_length (drop at feed)
    whole = omega arith

    there : at + (row_length (drop at feed) + 1) ≡ end + 1
    there = omega arith

pub no_rows_at_end : (feed : List ℕ) (at : ℕ) → length feed ≤ at → rows_in (drop at feed) ≡ []
unfolding rows_in
no_rows_at_end feed at h = rw (drop_of_length-le feed {i = at} h)

-- a row ends within the feed
pub row_ends_within : (feed : List ℕ) (at : ℕ) → at ≤ length feed → at + row_length (drop at feed) ≤ length feed
row_ends_within feed at h = omega (arith, row_length_le (drop at feed), length-drop at feed)

-- a feed has no more rows than bytes
pub rows_at_most : (bs : List ℕ) → length (rows_in bs) ≤ length bs
unfolding rows_in
rows_at_most [] = zero-le
rows_at_most (b ∷ bs) = go (eqb b LF) (rows_in bs) (rows_at_most bs)
  where
    go : (t : Bool) (rows : List (List ℕ)) → length rows ≤ length bs → length (cond t ([] ∷ rows) (grown b rows)) ≤ suc (length bs)
    go true rows l = suc-le-suc l
    go false [] l = suc-le-suc zero-le
    go false (r ∷ rows) l = omega arith
