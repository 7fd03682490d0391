-- The list after an announcement and after a withdrawal: which rows it has, that it is well-formed again, how many rows it has, that the
-- plain answer stays as it was outside the edited prefix and inside a longer listed one within it, and that a row behind all goes last.
-- Assumes nothing.
use mathlib.Core.Path.{◌≡◌, refl, sym, ap, ◌∙◌, subst}
use mathlib.Core.Logic.{◌⊎◌, inl, inr, ⊎_elim}
use mathlib.Core.Bool.{Bool, true, false, not}
use mathlib.Core.List.Memᴰ
use mathlib.Core.List.{List, [], ◌∷◌, ◌++◌}
use Prim.Native.Nat.{ℕ, suc, ◌<◌, ◌≤◌}
use native.Mathlib.Nat.{lt_irrefl, lt_trans, lt_of_lt_of_le}
use native.Mathlib.Omega.{arith}
use lib.Arith.{lt_of_le-ne}
use borrow.Author.Tests.{ltb-true, ltb-false, eqb-true, eqb-false, eq-eqb, ne_eqb, lt-ltb, le-ltb}
use lib.Dec.{ltb, eqb}
use lib.ListN.{length}
use Rattle.ground.proofs.Truth.{decided, never_both, cond_true, cond_false, or_left, or_right, or_cases, or_neither, not-true}
use Rattle.ground.specs.Column.{ascends, is_in}
use Rattle.cidr.specs.Prefix.{length_of, holds, is_prefix}
use Rattle.routes.specs.Row.{Row, row, those, keep_row}
use Rattle.routes.specs.WellFormed.{ascending}
use Rattle.routes.specs.Plain.{plain}
use Rattle.routes.specs.Change.{listed, announced, withdrawn}
use Rattle.routes.proofs.Row.{Has, those_has, has_those}
use Rattle.routes.proofs.WellFormed.{Good, first_below, ascending_tail, ascending_cons}
use Rattle.routes.proofs.Plain.{NoMatch, Longest, plain_cases, plain_no_match, plain_longest}

-- a prefix is listed where a row has it
pub listed_has : (k : ℕ) (rows : List Row) → listed k rows ≡ true → (r : Row) × Has r rows × (r.key ≡ k)
unfolding is_in
listed_has k [] e = never_both e refl
listed_has k (t ∷ ts) e =
    ⊎_elim (λ q. (t, Memᴰ.head refl, sym (eqb-true _ _ q))) (λ q. further (listed_has k ts q))
    (or_cases (eqb k t.key) (listed k ts) e)
  where
    further : ((r : Row) × Has r ts × (r.key ≡ k)) → (r : Row) × Has r (t ∷ ts) × (r.key ≡ k)
    further w = (w.0, Memᴰ.tail w.1, w.2)

pub has_listed : (k : ℕ) (rows : List Row) (r : Row) → Has r rows → r.key ≡ k → listed k rows ≡ true
unfolding is_in
has_listed k [] r m e = absurd (Memᴰ.not-nil m)
has_listed k (t ∷ ts) r m e =
    ⊎_elim (λ q. or_left (listed k ts) (eq-eqb _ _ (sym e ∙ ap (λ x. x.key) q))) (λ n. or_right (eqb k t.key) (has_listed k ts r n e))
    (Memᴰ.cases_cons m)

-- two lists that differ in the row of one prefix alone
pub record ButFor (k : ℕ) (rows rows' : List Row) : Type 0 where
  pub kept : (r : Row) → Has r rows → (r.key ≡ k → ⊥) → Has r rows'
  pub came : (r : Row) → Has r rows' → (r.key ≡ k → ⊥) → Has r rows

-- The three ways that announcing goes on at a row: before it, in its place, after it.
module _ (k h : ℕ) (t : Row) (ts : List Row) where
  pub announced_before : k < t.key → announced k h (t ∷ ts) ≡ row k h ∷ t ∷ ts
  unfolding announced
  announced_before l = cond_true _ _ (lt-ltb _ _ l)

  pub announced_at : k ≡ t.key → announced k h (t ∷ ts) ≡ row k h ∷ ts
  unfolding announced
  announced_at e = cond_false _ _ (le-ltb k t.key (omega arith)) ∙ cond_true _ _ (eq-eqb _ _ e)

  pub announced_after : t.key < k → announced k h (t ∷ ts) ≡ t ∷ announced k h ts
  unfolding announced
  announced_after l =
      cond_false _ _ (le-ltb k t.key (omega arith)) ∙ cond_false _ _ (ne_eqb _ _ (λ e. lt_irrefl _ (subst (λ x. t.key < x) e l)))

-- where a key stands to another
pub data Order (k k' : ℕ) : Type 0 where
  before : k < k' → Order k k'
  same : k ≡ k' → Order k k'
  after : k' < k → Order k k'

pub order : (k k' : ℕ) → Order k k'
order k k' = ⊎_elim (λ e. before (ltb-true _ _ e)) (λ e. rest e (decided (eqb k k'))) (decided (ltb k k'))
  where
    rest : ltb k k' ≡ false → (eqb k k' ≡ true) ⊎ (eqb k k' ≡ false) → Order k k'
    rest e (inl q) = same (eqb-true _ _ q)
    rest e (inr q) = after (lt_of_le-ne (ltb-false k k' e) (λ o. eqb-false k k' q (sym o)))

module _ (k h : ℕ) where
  pub has_announced : (rows : List Row) → Has (row k h) (announced k h rows)
  unfolding announced
  has_announced [] = Memᴰ.head refl
  has_announced (t ∷ ts) = go (order k t.key) (has_announced ts)
    where
      go : Order k t.key → Has (row k h) (announced k h ts) → Has (row k h) (announced k h (t ∷ ts))
      go (before l) m = rw (announced_before k h t ts l) (Memᴰ.head refl)
      go (same e) m = rw (announced_at k h t ts e) (Memᴰ.head refl)
      go (after l) m = rw (announced_after k h t ts l) (Memᴰ.tail m)

  -- what an announced list has besides: the other listed rows, and no more
  pub has_announced_other : (rows : List Row) (r : Row) → Has r rows → (r.key ≡ k → ⊥) → Has r (announced k h rows)
  has_announced_other [] r m n = absurd (Memᴰ.not-nil m)
  has_announced_other (t ∷ ts) r m n = go (order k t.key) (Memᴰ.cases_cons m) (λ m'. has_announced_other ts r m' n)
    where
      go : Order k t.key → (r ≡ t) ⊎ Has r ts → (Has r ts → Has r (announced k h ts)) → Has r (announced k h (t ∷ ts))
      go (before l) w rec = rw (announced_before k h t ts l) (Memᴰ.tail m)
      go (same e) (inl q) rec = absurd (n (ap (λ x. x.key) q ∙ sym e))
      go (same e) (inr m') rec = rw (announced_at k h t ts e) (Memᴰ.tail m')
      go (after l) (inl q) rec = rw (announced_after k h t ts l) (Memᴰ.head q)
      go (after l) (inr m') rec = rw (announced_after k h t ts l) (Memᴰ.tail (rec m'))

  pub announced_has : (rows : List Row) (r : Row) → Has r (announced k h rows) → (r ≡ row k h) ⊎ Has r rows
  unfolding announced
  announced_has [] r m = ⊎_elim inl (λ n. absurd (Memᴰ.not-nil n)) (Memᴰ.cases_cons m)
  announced_has (t ∷ ts) r m = go (order k t.key) (announced_has ts r)
    where
      go : Order k t.key → (Has r (announced k h ts) → (r ≡ row k h) ⊎ Has r ts) → (r ≡ row k h) ⊎ Has r (t ∷ ts)
      go (before l) rec = Memᴰ.cases_cons (rw (announced_before k h t ts l) at m)
      go (same e) rec = ⊎_elim inl (λ n. inr (Memᴰ.tail n)) (Memᴰ.cases_cons (rw (announced_at k h t ts e) at m))
      go (after l) rec =
          ⊎_elim (λ q. inr (Memᴰ.head q)) (λ n. ⊎_elim inl (λ m'. inr (Memᴰ.tail m')) (rec n))
          (Memᴰ.cases_cons (rw (announced_after k h t ts l) at m))

  pub announced_but_for : (rows : List Row) → ButFor k rows (announced k h rows)
  announced_but_for rows = record {
    kept = has_announced_other rows;
    came = λ r m n. ⊎_elim (λ q. absurd (n (ap (λ x. x.key) q))) (λ m'. m') (announced_has rows r m);
  }

  pub announced_ascending : (rows : List Row) → ascending rows ≡ true → ascending (announced k h rows) ≡ true
  unfolding announced ascending ascends
  announced_ascending [] e = refl
  announced_ascending (t ∷ ts) e = go (order k t.key) (announced_ascending ts (ascending_tail t ts e))
    where
      go : Order k t.key → ascending (announced k h ts) ≡ true → ascending (announced k h (t ∷ ts)) ≡ true
      go (before l) rec =
          rw (announced_before k h t ts l)
          (ascending_cons (row k h) (t ∷ ts)
          (λ s m. ⊎_elim (λ q. subst (λ x. k < x.key) (sym q) l) (λ n. lt_trans l (first_below t ts e s n)) (Memᴰ.cases_cons m)) e)
      go (same q) rec =
          rw (announced_at k h t ts q)
          (ascending_cons (row k h) ts (λ s m. subst (λ x. x < s.key) (sym q) (first_below t ts e s m)) (ascending_tail t ts e))
      go (after l) rec =
          rw (announced_after k h t ts l)
          (ascending_cons t (announced k h ts)
          (λ s m. ⊎_elim (λ q. subst (λ x. t.key < x.key) (sym q) l) (first_below t ts e s) (announced_has ts s m)) rec)

  -- the list after an announcement is well-formed
  pub announced_good : is_prefix k ≡ true → (h ≡ 0 → ⊥) → (rows : List Row) → Good rows → Good (announced k h rows)
  announced_good pre hop rows g = record {
    prefixed = λ r m. ⊎_elim (λ q. ap (λ x. is_prefix x.key) q ∙ pre) (g.prefixed r) (announced_has rows r m);
    given = λ r m z. ⊎_elim (λ q. hop (sym (ap (λ x. x.hop) q) ∙ z)) (λ n. g.given r n z) (announced_has rows r m);
    ascends = announced_ascending rows g.ascends;
  }

-- a part of a well-formed list is well-formed
module _ (p : Row → Bool) where
  pub those_ascending : (rows : List Row) → ascending rows ≡ true → ascending (those p rows) ≡ true
  unfolding those ascending ascends
  those_ascending [] e = refl
  those_ascending (t ∷ ts) e = go (p t) (those_ascending ts (ascending_tail t ts e))
    where
      go : (b : Bool) → ascending (those p ts) ≡ true → ascending (keep_row b t (those p ts)) ≡ true
      go true rec = ascending_cons t (those p ts) (λ s m. first_below t ts e s (those_has p ts s m).0) rec
      go false rec = rec

  those_good : (rows : List Row) → Good rows → Good (those p rows)
  those_good rows g = record {
    prefixed = λ r m. g.prefixed r (those_has p rows r m).0;
    given = λ r m. g.given r (those_has p rows r m).0;
    ascends = those_ascending rows g.ascends;
  }

module _ (k : ℕ) (rows : List Row) where
  pub withdrawn_has : (r : Row) → Has r (withdrawn k rows) → Has r rows × (r.key ≡ k → ⊥)
  unfolding withdrawn
  withdrawn_has r m =
      let w = those_has (λ r. not (eqb k r.key)) rows r m in
      (w.0, λ e. eqb-false k r.key (not-true _ w.1) (sym e))

  pub has_withdrawn : (r : Row) → Has r rows → (r.key ≡ k → ⊥) → Has r (withdrawn k rows)
  unfolding withdrawn
  has_withdrawn r m n = has_those (λ r. not (eqb k r.key)) rows r m (ap not (ne_eqb k r.key (λ e. n (sym e))))

  pub withdrawn_but_for : ButFor k rows (withdrawn k rows)
  withdrawn_but_for = record { kept = has_withdrawn; came = λ r m n. (withdrawn_has r m).0 }

  -- the list after a withdrawal is well-formed
  pub withdrawn_good : Good rows → Good (withdrawn k rows)
  unfolding withdrawn
  withdrawn_good g = those_good (λ r. not (eqb k r.key)) rows g

-- The answer where the edited prefix has no say.
module _ (k : ℕ) (rows rows' : List Row) (b : ButFor k rows rows') (asc : ascending rows' ≡ true) (a : ℕ) where
  -- a longest match that stays one, and no match that stays none, keep the answer
  answer_kept : ((r : Row) → Longest rows a r → Longest rows' a r) → (NoMatch rows a → NoMatch rows' a) → plain rows' a ≡ plain rows a
  answer_kept l n =
      ⊎_elim (λ w. plain_no_match rows' a (n w.0) ∙ sym w.1) (λ w. plain_longest rows' a asc w.0 (l w.0 w.1) ∙ sym w.2)
      (plain_cases rows a)

  -- outside the edited prefix
  pub plain_outside : holds k a ≡ false → plain rows' a ≡ plain rows a
  plain_outside out = answer_kept
      (λ r l. record {
        listed = b.kept r l.listed (other r l.matches);
        matches = l.matches;
        longest = λ s m e. l.longest s (b.came s m (other s e)) e;
      })
      (λ n r m. ⊎_elim (λ e. absurd (never_both e (n r (b.came r m (other r e))))) (λ e. e) (decided (holds r.key a)))
    where
      other : (r : Row) → holds r.key a ≡ true → r.key ≡ k → ⊥
      other r e q = never_both (subst (λ x. holds x a ≡ true) q e) out

  -- inside a longer listed prefix
  pub plain_longer : (t : Row) → Has t rows → holds t.key a ≡ true → length_of k < length_of t.key → plain rows' a ≡ plain rows a
  plain_longer t m e long = answer_kept
      (λ r l.
      let top : length_of t.key ≤ length_of r.key = l.longest t m e in
      record {
        listed = b.kept r l.listed (other r (lt_of_lt_of_le long top));
        matches = l.matches;
        longest = λ s ms es. within r l top s ms es (decided (eqb s.key k));
      })
      (λ n. absurd (never_both e (n t m)))
    where
      other : (r : Row) → length_of k < length_of r.key → r.key ≡ k → ⊥
      other r l q = lt_irrefl _ (subst (λ x. length_of k < length_of x) q l)

      within : (r : Row) → Longest rows a r → length_of t.key ≤ length_of r.key → (s : Row) → Has s rows' → holds s.key a ≡ true
          → (eqb s.key k ≡ true) ⊎ (eqb s.key k ≡ false) → length_of s.key ≤ length_of r.key
      within r l top s ms es (inl q) = rw (eqb-true s.key k q) (omega arith)
      within r l top s ms es (inr q) = l.longest s (b.came s ms (eqb-false s.key k q)) es

-- How many rows the list has afterwards.
module _ (k h : ℕ) where
  pub announced_length_new : (rows : List Row) → listed k rows ≡ false → length (announced k h rows) ≡ suc (length rows)
  unfolding announced is_in
  announced_length_new [] e = refl
  announced_length_new (t ∷ ts) e = go (order k t.key) (announced_length_new ts (or_neither (eqb k t.key) (listed k ts) e).1)
    where
      go : Order k t.key → length (announced k h ts) ≡ suc (length ts) → length (announced k h (t ∷ ts)) ≡ suc (suc (length ts))
      go (before l) rec = ap length (announced_before k h t ts l)
      go (same q) rec = never_both (eq-eqb k t.key q) (or_neither (eqb k t.key) (listed k ts) e).0
      go (after l) rec = ap length (announced_after k h t ts l) ∙ ap suc rec

  pub announced_length_listed : (rows : List Row) → ascending rows ≡ true → listed k rows ≡ true → length (announced k h rows) ≡ length rows
  unfolding is_in
  announced_length_listed [] a e = never_both e refl
  announced_length_listed (t ∷ ts) a e = go (order k t.key) (announced_length_listed ts (ascending_tail t ts a))
    where
      found : (r : Row) × Has r (t ∷ ts) × (r.key ≡ k)
      found = listed_has k (t ∷ ts) e

      later : t.key < k → (found.0 ≡ t) ⊎ Has found.0 ts → listed k ts ≡ true
      later l (inl q) = absurd (lt_irrefl _ (subst (λ x. x < k) (ap (λ x. x.key) (sym q) ∙ found.2) l))
      later l (inr m) = has_listed k ts found.0 m found.2

      early : k < t.key → (found.0 ≡ t) ⊎ Has found.0 ts → ⊥
      early l (inl q) = lt_irrefl _ (subst (λ x. k < x) (ap (λ x. x.key) (sym q) ∙ found.2) l)
      early l (inr m) = lt_irrefl _ (lt_trans l (subst (λ x. t.key < x) found.2 (first_below t ts a found.0 m)))

      go : Order k t.key → (listed k ts ≡ true → length (announced k h ts) ≡ length ts)
          → length (announced k h (t ∷ ts)) ≡ suc (length ts)
      go (before l) rec = absurd (early l (Memᴰ.cases_cons found.1))
      go (same q) rec = ap length (announced_at k h t ts q)
      go (after l) rec = ap length (announced_after k h t ts l) ∙ ap suc (rec (later l (Memᴰ.cases_cons found.1)))

-- announcing a listed route with its own hop leaves the list as it is
pub announced_same : (k h : ℕ) (rows : List Row) → ascending rows ≡ true → Has (row k h) rows → announced k h rows ≡ rows
announced_same k h [] a m = absurd (Memᴰ.not-nil m)
announced_same k h (t ∷ ts) a m = go (Memᴰ.cases_cons m) (announced_same k h ts (ascending_tail t ts a))
  where
    go : (row k h ≡ t) ⊎ Has (row k h) ts → (Has (row k h) ts → announced k h ts ≡ ts) → announced k h (t ∷ ts) ≡ t ∷ ts
    go (inl q) rec = announced_at k h t ts (ap (λ r. r.key) q) ∙ ap (λ r. r ∷ ts) q
    go (inr n) rec = announced_after k h t ts (first_below t ts a (row k h) n) ∙ ap (λ l. t ∷ l) (rec n)

-- a prefix whose row would stand behind all others isn't listed, and announcing it puts its row there
module _ (k h : ℕ) (more : List Row) where
  next_below : (t : Row) (ts : List Row) → ascending (t ∷ (ts ++ row k h ∷ more)) ≡ true → t.key < k
  next_below t ts a = first_below t (ts ++ row k h ∷ more) a (row k h) (Memᴰ.append_right ts (Memᴰ.head refl))

  pub unlisted_last : (rows : List Row) → ascending (rows ++ row k h ∷ more) ≡ true → listed k rows ≡ false
  unfolding is_in
  unlisted_last [] a = refl
  unlisted_last (t ∷ ts) a =
      rw (ne_eqb k t.key (λ e. omega (arith, next_below t ts a))) (unlisted_last ts (ascending_tail t (ts ++ row k h ∷ more) a))

  pub announced_last : (rows : List Row) → ascending (rows ++ row k h ∷ more) ≡ true → announced k h rows ≡ rows ++ row k h ∷ []
  unfolding announced
  announced_last [] a = refl
  announced_last (t ∷ ts) a =
      announced_after k h t ts (next_below t ts a) ∙ ap (t ∷◌) (announced_last ts (ascending_tail t (ts ++ row k h ∷ more) a))
