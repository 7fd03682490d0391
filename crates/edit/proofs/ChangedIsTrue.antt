-- Rule 17.2, demand 3, from the contracts alone: the changed number of an accepted edit is how many addresses get another hop from plain
-- lookup in the edited list than in the list before. None of them is outside the edited prefix, nor inside a longer listed one.
-- Assumes nothing.
use mathlib.Core.Path.{◌≡◌, sym, ap, ◌∙◌}
use mathlib.Core.Bool.{false, true, not}
use mathlib.Core.List.{List}
use Prim.Native.Nat.{ℕ, ◌<◌}
use lib.Dec.{eqb}
use Rattle.ground.specs.Numbers.{done}
use Rattle.ground.specs.Stretch.{counted}
use Rattle.ground.specs.Stretch.Count.{counted_agree}
use Rattle.cidr.specs.Prefix.{addresses, key_of, length_of, holds}
use Rattle.routes.specs.Row.{Row}
use Rattle.routes.specs.Plain.{plain}
use Rattle.routes.specs.Lookup.{LookupOutcome, looked_up, plain_lookup}
use Rattle.routes.specs.Change.Laws.{changed_is, changed_between_is}
use Rattle.routes.proofs.Row.{Has}
use Rattle.routes.proofs.Change.{plain_outside, plain_longer}
use Rattle.routes.proofs.LookupOutcome.{plain_accepted}
use Rattle.runs.specs.Pair.{Pair, list_of}
use Rattle.runs.proofs.Agreed.{agreed_well}
use Rattle.edit.specs.Edit.{Edited, announce, withdraw}
use Rattle.edit.proofs.Accepted.{Accepted, announce_accepted, withdraw_accepted}
use Rattle.edit.proofs.EditKeepsPair.{edited, left_rows, left_well}

-- the changed number of an edit of prefix k, by plain lookup before and after, both of which answer
pub record TrueChange (k : ℕ) (p : Pair) (o : Edited) : Type 0 where
  pub before_done : (a : ℕ) → (plain_lookup p.list a).number ≡ done
  pub after_done : (a : ℕ) → (plain_lookup (edited o).list a).number ≡ done
  pub counts : o.changed
      ≡ counted (λ a. not (eqb (plain_lookup p.list a).hop (plain_lookup (edited o).list a).hop)) 0 addresses
  pub outside : (a : ℕ) → holds k a ≡ false → plain_lookup (edited o).list a ≡ plain_lookup p.list a
  pub longer : (a : ℕ) (t : Row) → Has t (list_of p) → holds t.key a ≡ true → length_of k < length_of t.key
      → plain_lookup (edited o).list a ≡ plain_lookup p.list a

module _ {k : ℕ} {after : List Row} {p : Pair} {o : Edited} (c : Accepted k after p o) where
  found_before : (a : ℕ) → plain_lookup p.list a ≡ looked_up done (plain (list_of p) a)
  found_before a = plain_accepted p.list a (agreed_well p c.agreed)

  found_after : (a : ℕ) → plain_lookup (edited o).list a ≡ looked_up done (plain after a)
  found_after a = plain_accepted (edited o).list a (left_well c) ∙ rw (left_rows c)

  -- equal answers are equal lookups
  kept : (a : ℕ) → plain after a ≡ plain (list_of p) a → plain_lookup (edited o).list a ≡ plain_lookup p.list a
  kept a e = found_after a ∙ ap (looked_up done) e ∙ sym (found_before a)

  pub changed_is_true : TrueChange k p o
  changed_is_true = record {
    before_done = λ a. ap (λ (x : LookupOutcome). x.number) (found_before a);
    after_done = λ a. ap (λ (x : LookupOutcome). x.number) (found_after a);
    counts =
        ap (λ (x : Edited). x.changed) c.is
        ∙ changed_between_is (list_of p) after
        ∙ changed_is (plain (list_of p)) (plain after)
        ∙ counted_agree _ _ 0 addresses (λ a from to. rw (found_before a, found_after a));
    outside = λ a out. kept a (plain_outside k (list_of p) after c.but_for c.good.ascends a out);
    longer = λ a t m e long. kept a (plain_longer k (list_of p) after c.but_for c.good.ascends a t m e long);
  }

module _ (p : Pair) (o : Edited) where
  pub announce_changed_is_true : (net len hop : ℕ) → o ≡ announce net len hop p → o.number ≡ done → TrueChange (key_of net len) p o
  announce_changed_is_true net len hop e d = changed_is_true (announce_accepted net len hop p o e d)

  pub withdraw_changed_is_true : (net len : ℕ) → o ≡ withdraw net len p → o.number ≡ done → TrueChange (key_of net len) p o
  withdraw_changed_is_true net len e d = changed_is_true (withdraw_accepted net len p o e d)
