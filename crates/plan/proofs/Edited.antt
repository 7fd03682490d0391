-- The list after an edit of prefix k, announced or withdrawn: it differs from the list before in k's row only, is in key order with
-- prefixes for keys, and has as many rows, one more or one less.
-- Assumes nothing.
use mathlib.Core.Path.{◌≡◌, sym, ap, ◌∙◌}
use mathlib.Core.Logic.{⊎_elim}
use mathlib.Core.Bool.{Bool, true, cond, not}
use mathlib.Core.List.{List}
use Prim.Native.Nat.{ℕ, ◌+◌, ◌-◌}
use native.Mathlib.Omega.{arith}
use lib.ListN.{length, length-append, length-drop, length-map}
use lib.Seq.{length-take-le}
use lib.Dec.{eqb}
use borrow.Author.Tests.{eqb-true, eqb-false, eq-eqb, ne_eqb}
use Rattle.ground.specs.Column.{lower}
use Rattle.ground.proofs.Truth.{decided, cond_true, cond_false}
use Rattle.cidr.specs.Prefix.{is_prefix}
use Rattle.routes.specs.Row.{Row, keys_of}
use Rattle.routes.specs.WellFormed.{ascending}
use Rattle.routes.specs.Change.{listed, announced, withdrawn}
use Rattle.routes.proofs.WellFormed.{HalfGood}
use Rattle.routes.proofs.Columns.{listed_place_lt, withdrawn_column}
use Rattle.routes.proofs.Change.{ButFor, announced_but_for, announced_ascending, those_ascending, withdrawn_but_for}
use Rattle.routes.proofs.Change.{announced_length_new, announced_length_listed}
use Rattle.plan.specs.Edited.{edited_rows}

module _ (k h : ℕ) (rows : List Row) where
  pub edited_withdrawn : h ≡ 0 → edited_rows k h rows ≡ withdrawn k rows
  unfolding edited_rows
  edited_withdrawn e = cond_true _ _ (eq-eqb h 0 e)

  pub edited_announced : (h ≡ 0 → ⊥) → edited_rows k h rows ≡ announced k h rows
  unfolding edited_rows
  edited_announced ne = cond_false _ _ (ne_eqb h 0 ne)

  -- an edit is one of the two
  pub edit_cases {ℓ} : {A : Type ℓ} → (h ≡ 0 → edited_rows k h rows ≡ withdrawn k rows → A)
      → ((h ≡ 0 → ⊥) → edited_rows k h rows ≡ announced k h rows → A) → A
  edit_cases w a = ⊎_elim
      (λ e. w (eqb-true h 0 e) (edited_withdrawn (eqb-true h 0 e)))
      (λ e. a (eqb-false h 0 e) (edited_announced (eqb-false h 0 e)))
      (decided (eqb h 0))

  pub edited_but_for : ButFor k rows (edited_rows k h rows)
  edited_but_for = edit_cases (λ z e. rw e (withdrawn_but_for k rows)) (λ z e. rw e (announced_but_for k h rows))

  edited_ascends : ascending rows ≡ true → ascending (edited_rows k h rows) ≡ true
  unfolding withdrawn
  edited_ascends asc = edit_cases
      (λ z e. rw e (those_ascending (λ r. not (eqb k r.key)) rows asc))
      (λ z e. rw e (announced_ascending k h rows asc))

  pub edited_half : is_prefix k ≡ true → HalfGood rows → HalfGood (edited_rows k h rows)
  edited_half pre g = record {
    prefixed = λ r m. ⊎_elim
        (λ e. rw (eqb-true r.key k e) pre)
        (λ e. g.prefixed r (edited_but_for.came r m (eqb-false r.key k e)))
        (decided (eqb r.key k));
    ascends = edited_ascends g.ascends;
  }

  withdrawn_length : ascending rows ≡ true → listed k rows ≡ true → length (withdrawn k rows) ≡ length rows - 1
  withdrawn_length asc e =
      let at = listed_place_lt k rows asc e in
      let column = withdrawn_column k rows asc (λ r. r.key) e in
      let front = length-take-le (lower k (keys_of rows)) (keys_of rows) (omega (arith, length-map rows (λ r. r.key))) in
      sym (length-map (withdrawn k rows) (λ r. r.key)) ∙ ap length column
      ∙ simp (length-append, length-drop, front) (omega (arith, length-map rows (λ r. r.key)))

  pub edited_length : (b : Bool) → ascending rows ≡ true → b ≡ listed k rows → (h ≡ 0 → b ≡ true)
      → cond (eqb h 0) (length rows - 1) (cond b (length rows) (length rows + 1)) ≡ length (edited_rows k h rows)
  edited_length b asc is may = edit_cases
      (λ z e. rw (e, eq-eqb h 0 z) (sym (withdrawn_length asc (sym is ∙ may z))))
      (λ z e. rw (e, ne_eqb h 0 z) (⊎_elim
      (λ t. rw t (sym (announced_length_listed k h rows asc (sym is ∙ t))))
      (λ t. rw t (omega (arith, announced_length_new k h rows (sym is ∙ t))))
      (decided b)))
