-- What the counts of row numbers say. One row more is one more at its number and at no other. Every number is in the table of names once,
-- so all rows are the sum, name by name, of the rows with that number.
-- Assumes nothing.
use mathlib.Core.Path.{◌≡◌, refl, sym, ap, ◌∙◌}
use mathlib.Core.Logic.{◌⊎◌, inl, inr}
use mathlib.Core.Bool.{Bool, true, false, ◌&&◌}
use mathlib.Core.List.{List, [], ◌∷◌, ◌++◌, map}
use Prim.Native.Nat.{ℕ, zero, suc, ◌+◌, ◌^◌, ◌≤◌, ◌<◌}
use native.Mathlib.Numerals.{add-one}
use native.Mathlib.Omega.{arith}
use lib.Dec.{eqb}
use lib.ListN.{length, get_or, set, length-append}
use lib.Seq.{get_or-set_same, get_or-set_other}
use borrow.Author.Tests.{eqb-true, eqb-false, eq-eqb, ne_eqb}
use Rattle.std.proofs.lemmas.List.FromFn.{fill_by_all}
use Rattle.ground.specs.Stretch.{stretch}
use Rattle.ground.proofs.Truth.{decided, and_left, and_right}
use Rattle.rows.specs.RowNumber.{NamedRow, row_taken, row_names}
use Rattle.feed.specs.declared.Counts.{Counts}
use Rattle.feed.specs.Counts.{count_if, how_many, counts_of, no_counts, rows_with, rows_named}
use Rattle.feed.specs.Inside.Counting.{CountsFit, counted_in}

-- all numbers of a list are in the table of names
abbrev pub AllNamed : List ℕ → Type 0
AllNamed [] = Unit {0}
AllNamed (n ∷ ns) = (n < length row_names) × AllNamed ns

-- f and g differ at one number of a stretch only, where g is one more
module _ (f g : ℕ → ℕ) where
  same_past : (lo k : ℕ) → ((j : ℕ) → lo ≤ j → g j ≡ f j) → map g (stretch lo k) ≡ map f (stretch lo k)
  unfolding stretch
  same_past lo zero h = refl
  same_past lo (suc k) h = rw (h lo (omega arith), same_past (suc lo) k (λ j l. h j (omega arith)))

  one_more : (lo k n m : ℕ) → m ≡ lo + n → n < k → ((j : ℕ) → g j ≡ count_if (eqb j m) (f j))
      → map g (stretch lo k) ≡ set (map f (stretch lo k)) n (get_or (map f (stretch lo k)) n 0 + 1)
  unfolding stretch
  one_more lo zero n m e l h = absurd (omega arith)
  one_more lo (suc k) zero m e l h =
      let here : g lo ≡ f lo + 1 = h lo ∙ rw (eq-eqb lo m (omega arith), add-one) in
      rw (here, same_past (suc lo) k (λ j past. h j ∙ rw (ne_eqb j m (λ (q : j ≡ m). absurd (omega arith)))))
  one_more lo (suc k) (suc n) m e l h =
      let here : g lo ≡ f lo = h lo ∙ rw (ne_eqb lo m (λ (q : lo ≡ m). absurd (omega arith))) in
      rw (here, one_more (suc lo) k n m (omega arith) (omega arith) h)

how_many_more : (k : ℕ) (ns : List ℕ) (n : ℕ) → how_many k (ns ++ n ∷ []) ≡ count_if (eqb k n) (how_many k ns)
unfolding how_many
how_many_more k [] n = refl
how_many_more k (m ∷ ms) n = ap (count_if (eqb k m)) (how_many_more k ms n) ∙ swap (eqb k m) (eqb k n) (how_many k ms)
  where
    swap : (b c : Bool) (x : ℕ) → count_if b (count_if c x) ≡ count_if c (count_if b x)
    swap true true x = refl
    swap true false x = refl
    swap false true x = refl
    swap false false x = refl

module _ (ns : List ℕ) (n : ℕ) (h : n < length row_names) where
  -- one row more, before the others and after them
  counts_first : counts_of (n ∷ ns) ≡ counted_in (counts_of ns) n
  unfolding counts_of counted_in how_many
  counts_first =
      rw (← add-one (length ns), one_more (λ j. how_many j ns) (λ j. how_many j (n ∷ ns)) 0 (length row_names) n n (omega arith) h (λ j. refl))

  pub counts_more : counts_of (ns ++ n ∷ []) ≡ counted_in (counts_of ns) n
  unfolding counts_of counted_in
  counts_more =
      rw (
        length-append ns (n ∷ []),
        one_more (λ j. how_many j ns) (λ j. how_many j (ns ++ n ∷ [])) 0 (length row_names) n n (omega arith) h (λ j. how_many_more j ns n),
      )

pub taken_more : (ns : List ℕ) (n : ℕ)
    → rows_with row_taken (counts_of (ns ++ n ∷ [])) ≡ count_if (eqb row_taken n) (rows_with row_taken (counts_of ns))
unfolding counts_of stretch
taken_more ns n = how_many_more row_taken ns n

how_many_le : (k : ℕ) (ns : List ℕ) → how_many k ns ≤ length ns
unfolding how_many
how_many_le k [] = omega arith
how_many_le k (m ∷ ms) = go (eqb k m) (how_many_le k ms)
  where
    go : (b : Bool) → how_many k ms ≤ length ms → count_if b (how_many k ms) ≤ suc (length ms)
    go true l = omega arith
    go false l = omega arith

at_most : (f : ℕ → ℕ) (b : ℕ) → ((j : ℕ) → f j ≤ b) → (xs : List ℕ) (i : ℕ) → get_or (map f xs) i 0 ≤ b
at_most f b h [] i = omega arith
at_most f b h (x ∷ xs) zero = h x
at_most f b h (x ∷ xs) (suc i) = at_most f b h xs i

pub one_count_each : (ns : List ℕ) → length (counts_of ns).of ≡ length row_names
unfolding counts_of stretch
one_count_each ns = refl

pub counts_fit : (ns : List ℕ) (n : ℕ) → length ns < 2 ^ 63 → n < length row_names → CountsFit (counts_of ns) n
counts_fit ns n few h = record {
  few = unfold counts_of in few;
  one_each = one_count_each ns;
  in_rows = unfold counts_of in at_most (λ k. how_many k ns) (length ns) (λ k. how_many_le k ns) (stretch 0 (length row_names));
  listed = h;
}

-- counts of 0 are those of no rows
pub none_counted : (c : Counts) → c.rows ≡ 0 → length c.of ≡ length row_names → ((k : ℕ) → k < length row_names → get_or c.of k 0 ≡ 0)
    → c ≡ no_counts
none_counted c r l e =
    let counts : ℕ → List ℕ → Counts = λ n xs. record { rows = n; of = xs } in
    ap (λ n. counts n c.of) r ∙ ap (counts 0) (fill_by_all (λ k. 0) c.of (length row_names) 0 l e)

-- a test that every number below k passes
abbrev all_below : (ℕ → Bool) → ℕ → Bool
all_below p zero = true
all_below p (suc k) = p k && all_below p k

passes_below : (p : ℕ → Bool) (k : ℕ) → all_below p k ≡ true → (n : ℕ) → n < k → p n ≡ true
passes_below p zero a n l = absurd (omega arith)
passes_below p (suc k) a n l =
    go (decided (eqb n k)) (λ below. passes_below p k (and_right (p k) (all_below p k) a) n below)
  where
    go : (eqb n k ≡ true) ⊎ (eqb n k ≡ false) → (n < k → p n ≡ true) → p n ≡ true
    go (inl e) rest = ap p (eqb-true n k e) ∙ and_left (p k) (all_below p k) a
    go (inr e) rest =
        let other = eqb-false n k e in
        rest (omega arith)

-- every number is in the table of names once
abbrev numbers_named : List NamedRow → List ℕ
numbers_named t = map (λ r. r.number) t

named_once : (n : ℕ) → n < length row_names → how_many n (numbers_named row_names) ≡ 1
unfolding how_many
named_once n l = eqb-true _ 1 (passes_below (λ k. eqb (how_many k (numbers_named row_names)) 1) (length row_names) refl n l)

-- one row more at a number is one more for each time that the table has the number
named_more : (t : List NamedRow) (c : Counts) (n : ℕ) → n < length c.of
    → rows_named t (counted_in c n) ≡ rows_named t c + how_many n (numbers_named t)
unfolding rows_named how_many counted_in
named_more [] c n l = refl
named_more (r ∷ rs) c n l = go (decided (eqb n r.number)) (named_more rs c n l)
  where
    go : (eqb n r.number ≡ true) ⊎ (eqb n r.number ≡ false)
        → rows_named rs (counted_in c n) ≡ rows_named rs c + how_many n (numbers_named rs)
        → rows_with r.number (counted_in c n) + rows_named rs (counted_in c n)
        ≡ rows_with r.number c + rows_named rs c + count_if (eqb n r.number) (how_many n (numbers_named rs))
    go (inl e) rec =
        let same = eqb-true n r.number e in
        rw (e, ← same) (omega (arith, get_or-set_same c.of n (rows_with n c + 1) 0 l, rec))
    go (inr e) rec =
        rw e (omega (arith, get_or-set_other c.of n r.number (rows_with n c + 1) 0 (λ q. eqb-false n r.number e (sym q)), rec))

-- all rows are those of each number, summed over the table
pub rows_by_name : (ns : List ℕ) → AllNamed ns → length ns ≡ rows_named row_names (counts_of ns)
rows_by_name [] a = unfold rows_named counts_of how_many stretch in refl
rows_by_name (n ∷ ns) a =
    rw (counts_first ns n a.0, named_more row_names (counts_of ns) n (rw one_count_each a.0), named_once n a.0, add-one)
    (ap suc (rows_by_name ns a.1))
