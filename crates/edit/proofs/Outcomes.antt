-- An edit's outcome, check by check: 15 of what it names, then 11 or 14 of the pair, then 16 and 13; or the list and run table afterwards.
-- Assumes nothing.
use mathlib.Core.Path.{◌≡◌, sym, ap, ◌∙◌}
use mathlib.Core.Bool.{true, false, not, ◌&&◌}
use mathlib.Core.List.{◌++◌}
use Prim.Native.Nat.{ℕ}
use lib.Dec.{eqb}
use borrow.Author.Tests.{eq-eqb, ne_eqb}
use Rattle.ground.specs.Numbers.{first_fault, outcome, number_of, done, no_room, bad_edit, not_listed}
use Rattle.ground.proofs.Truth.{or_left, or_right}
use Rattle.ground.proofs.Numbers.{outcome_here, outcome_later, outcome_last, outcome_refused, front_fault, number_some}
use Rattle.ground.specs.declared.Refusal.{Refusal}
use Rattle.cidr.specs.Prefix.{key_of}
use Rattle.routes.specs.Change.{listed}
use Rattle.runs.specs.Pair.{Pair, list_of, pair_checks, pair_check}
use Rattle.runs.proofs.TableOutcomes.{pair_agrees}
use Rattle.edit.specs.Edit.{edit_refused, edit_done, bad_prefix, exceeds}
use Rattle.edit.specs.Edit.{announce, announce_checks, after_announce, withdraw, withdraw_checks, after_withdraw}
use Rattle.plan.specs.Edited.{edited_rows}
use Rattle.edit.specs.Inside.Local.{local_checks, edit_agreed, edit_pair}

-- the pair's checks
module _ (k h : ℕ) (p : Pair) where
  pub edit_refused_lem : (e : Refusal) → number_of e ≡ pair_check p → edit_refused p (number_of e) ≡ edit_pair k h p
  unfolding edit_pair pair_check
  edit_refused_lem e is =
      sym (outcome_refused (pair_checks p ++ local_checks k h p) _ _ (number_of e) (front_fault (pair_checks p) _ (sym is) (number_some e)) (number_some e))

  pub edit_agreed_lem : pair_check p ≡ done → edit_agreed k h p ≡ edit_pair k h p
  unfolding edit_pair edit_agreed pair_checks
  edit_agreed_lem e =
      let w = pair_agrees p e in
      sym (outcome_later 11 _ _ _ w.0 ∙ outcome_later 14 _ _ _ (ap not w.1))

-- what is left to check where the pair agrees
module _ (k h : ℕ) (p : Pair) where
  pub agreed_unlisted : (eqb h 0 && not (listed k (list_of p))) ≡ true → edit_refused p not_listed ≡ edit_agreed k h p
  unfolding edit_agreed local_checks
  agreed_unlisted e = sym (outcome_here 15 _ _ _ e)

  module _ (may : (eqb h 0 && not (listed k (list_of p))) ≡ false) where
    pub agreed_full : exceeds (edited_rows k h (list_of p)) p ≡ true → edit_refused p no_room ≡ edit_agreed k h p
    unfolding edit_agreed local_checks
    agreed_full e = sym (outcome_later 16 _ _ _ may ∙ outcome_here 12 _ _ _ e)

    pub agreed_fits : exceeds (edited_rows k h (list_of p)) p ≡ false → edit_done (edited_rows k h (list_of p)) p ≡ edit_agreed k h p
    unfolding edit_agreed local_checks
    agreed_fits e = sym (outcome_later 16 _ _ _ may ∙ rw (outcome_last, e))

-- the two edits
module _ (net len : ℕ) (p : Pair) where
  pub withdraw_bad : bad_prefix net len ≡ true → edit_refused p bad_edit ≡ withdraw net len p
  unfolding withdraw withdraw_checks
  withdraw_bad e = sym (outcome_here 14 _ _ _ e)

  pub withdraw_named : bad_prefix net len ≡ false → edit_pair (key_of net len) 0 p ≡ withdraw net len p
  unfolding withdraw withdraw_checks edit_pair local_checks after_withdraw edited_rows pair_checks
  withdraw_named e = sym (outcome_later 15 _ _ _ e)

  module _ (hop : ℕ) where
    pub announce_bad : bad_prefix net len ≡ true → edit_refused p bad_edit ≡ announce net len hop p
    unfolding announce announce_checks
    announce_bad e = sym (outcome_here 14 _ _ _ (or_left (eqb hop 0) e))

    pub announce_none : hop ≡ 0 → edit_refused p bad_edit ≡ announce net len hop p
    unfolding announce announce_checks
    announce_none e = sym (outcome_here 14 _ _ _ (or_right (bad_prefix net len) (eq-eqb hop 0 e)))

    pub announce_named : bad_prefix net len ≡ false → (hop ≡ 0 → ⊥) → edit_pair (key_of net len) hop p ≡ announce net len hop p
    unfolding announce announce_checks edit_pair local_checks after_announce edited_rows pair_checks outcome first_fault
    announce_named e ne = rw (ne_eqb hop 0 ne, e)
