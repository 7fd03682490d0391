-- What an accepted edit is, of both kinds alike: the pair agreed, the edited list is well-formed and has room, as its run table has, and
-- differs from the list before in the row of the prefix only. And what it leaves is `edit_done`.
-- Assumes nothing.
use mathlib.Core.Path.{◌≡◌, refl, sym, ap, ◌∙◌}
use mathlib.Core.Bool.{true, false, not, ◌||◌}
use mathlib.Core.List.{List}
use Prim.Native.Nat.{ℕ, ◌≤◌}
use lib.ListN.{length}
use lib.Dec.{leb, ltb, eqb}
use borrow.Author.Tests.{ltb-false, eqb-false}
use Rattle.ground.specs.Numbers.{first_fault, done}
use Rattle.ground.proofs.Truth.{and_right, or_neither, not-false}
use Rattle.ground.proofs.Numbers.{fault_front, no_fault, accepted_fault, accepted_is}
use Rattle.cidr.specs.Prefix.{key_of, is_prefix}
use Rattle.routes.specs.Row.{Row, list_room}
use Rattle.routes.specs.WellFormed.{well_formed}
use Rattle.routes.specs.Change.{listed}
use Rattle.routes.proofs.WellFormed.{Good, good_parts}
use Rattle.routes.proofs.Change.{ButFor, announced_but_for, announced_good, withdrawn_but_for, withdrawn_good}
use Rattle.runs.specs.Table.{run_starts}
use Rattle.runs.specs.Build.{run_room}
use Rattle.runs.specs.Pair.{Pair, list_of, pair_ill, its_runs, pair_checks, pair_check}
use Rattle.runs.proofs.Agreed.{agreed_well}
use Rattle.edit.specs.Edit.{Edited, edit_done, bad_prefix, exceeds, announce, announce_checks, after_announce}
use Rattle.edit.specs.Edit.{withdraw, withdraw_checks, after_withdraw}

pub record Accepted (k : ℕ) (after : List Row) (p : Pair) (o : Edited) : Type 0 where
  pub is : o ≡ edit_done after p
  pub agreed : pair_check p ≡ done
  pub good : Good after
  pub but_for : ButFor k (list_of p) after
  pub rows_fit : length after ≤ list_room p.list.keys p.list.hops
  pub runs_fit : length (run_starts after) ≤ run_room p.table.starts p.table.hops

-- the list of a pair that agrees
pub agreed_good : (p : Pair) → pair_check p ≡ done → Good (list_of p)
unfolding well_formed
agreed_good p e =
    good_parts (list_of p) (and_right (leb p.list.count (list_room p.list.keys p.list.hops)) _ (agreed_well p e))

-- a prefix that is no fault
pub named_short : (net len : ℕ) → bad_prefix net len ≡ false → len ≤ 32
unfolding bad_prefix
named_short net len e = ltb-false 32 len (or_neither (ltb 32 len) _ e).0

pub named : (net len : ℕ) → bad_prefix net len ≡ false → is_prefix (key_of net len) ≡ true
unfolding bad_prefix
named net len e = not-false _ (or_neither (ltb 32 len) _ e).1

module _ (after : List Row) (p : Pair) (e : exceeds after p ≡ false) where
  pub fit : (length after ≤ list_room p.list.keys p.list.hops)
      × (length (run_starts after) ≤ run_room p.table.starts p.table.hops)
  unfolding exceeds
  fit =
      let w = or_neither (ltb (list_room p.list.keys p.list.hops) (length after)) _ e in
      (ltb-false _ _ w.0, ltb-false _ _ w.1)

module _ (net len hop : ℕ) (p : Pair) (o : Edited) (e : o ≡ announce net len hop p) (d : o.number ≡ done) where
  announce_done : (announce net len hop p).number ≡ done
  announce_done = ap (λ (x : Edited). x.number) (sym e) ∙ d

  announce_no_fault : first_fault (announce_checks net len hop p) ≡ done
  unfolding announce
  announce_no_fault = accepted_fault (λ (x : Edited). x.number) (announce_checks net len hop p) _ _ (λ n. refl) announce_done

  pub announce_accepted : Accepted (key_of net len) (after_announce net len hop p) p o
  unfolding announce announce_checks after_announce pair_checks pair_check
  announce_accepted =
      let bad = no_fault (bad_prefix net len || eqb hop 0) 14 _ announce_no_fault in
      let ill = no_fault (pair_ill p) 10 _ bad.1 in
      let other = no_fault (not (its_runs p)) 13 _ ill.1 in
      let room = no_fault (exceeds (after_announce net len hop p) p) 12 _ other.1 in
      let agreed' : pair_check p ≡ done = fault_front (pair_checks p) _ bad.1 in
      let edit = or_neither (bad_prefix net len) (eqb hop 0) bad.0 in
      record {
        is = e ∙ accepted_is (λ (x : Edited). x.number) (announce_checks net len hop p) _ _ (λ n. refl) announce_done;
        agreed = agreed';
        good = announced_good (key_of net len) hop (named net len edit.0) (eqb-false hop 0 edit.1) (list_of p) (agreed_good p agreed');
        but_for = announced_but_for (key_of net len) hop (list_of p);
        rows_fit = (fit (after_announce net len hop p) p room.0).0;
        runs_fit = (fit (after_announce net len hop p) p room.0).1;
      }

module _ (net len : ℕ) (p : Pair) (o : Edited) (e : o ≡ withdraw net len p) (d : o.number ≡ done) where
  withdraw_done : (withdraw net len p).number ≡ done
  withdraw_done = ap (λ (x : Edited). x.number) (sym e) ∙ d

  withdraw_no_fault : first_fault (withdraw_checks net len p) ≡ done
  unfolding withdraw
  withdraw_no_fault = accepted_fault (λ (x : Edited). x.number) (withdraw_checks net len p) _ _ (λ n. refl) withdraw_done

  pub withdraw_accepted : Accepted (key_of net len) (after_withdraw net len p) p o
  unfolding withdraw withdraw_checks after_withdraw pair_checks pair_check
  withdraw_accepted =
      let bad = no_fault (bad_prefix net len) 14 _ withdraw_no_fault in
      let ill = no_fault (pair_ill p) 10 _ bad.1 in
      let other = no_fault (not (its_runs p)) 13 _ ill.1 in
      let there = no_fault (not (listed (key_of net len) (list_of p))) 15 _ other.1 in
      let room = no_fault (exceeds (after_withdraw net len p) p) 12 _ there.1 in
      let agreed' : pair_check p ≡ done = fault_front (pair_checks p) _ bad.1 in
      record {
        is = e ∙ accepted_is (λ (x : Edited). x.number) (withdraw_checks net len p) _ _ (λ n. refl) withdraw_done;
        agreed = agreed';
        good = withdrawn_good (key_of net len) (list_of p) (agreed_good p agreed');
        but_for = withdrawn_but_for (key_of net len) (list_of p);
        rows_fit = (fit (after_withdraw net len p) p room.0).0;
        runs_fit = (fit (after_withdraw net len p) p room.0).1;
      }
