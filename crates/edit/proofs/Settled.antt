-- What an edit returns and leaves is settled: two outcomes that keep its promise for one input are the same, in the answer and in all four
-- slices.
-- Assumes nothing.
use mathlib.Core.Path.{◌≡◌, refl, sym, ap, ◌∙◌}
use mathlib.Core.Bool.{cond}
use mathlib.Core.List.{List}
use Prim.Native.Nat.{ℕ}
use lib.Dec.{eqb}
use Rattle.ground.specs.Numbers.{done}
use Rattle.runs.specs.Pair.{Pair}
use Rattle.edit.specs.declared.Edit.{Edit}
use Rattle.std.specs.Prelude.{Result, Ok, Err}
use Rattle.ground.specs.declared.Refusal.{Refusal}
use Rattle.ground.proofs.Numbers.{refusal_by, number_tells, number_not_done}
use Rattle.edit.specs.Edit.{Edited, edit_gave, announce, withdraw}

-- the answer can be told from the outcome
abbrev answer_of : Edited → Result Edit Refusal
answer_of o =
    cond (eqb o.number done) (Ok (record { changed = o.changed; count = o.count; runs = o.runs })) (Err (refusal_by o.number))

-- what the answer and the four slices at exit are, told by the outcome
pub record Told (o : Edited) (r : Result Edit Refusal) (keys hops starts rhops : List ℕ) : Type 0 where
  pub answer : answer_of o ≡ r
  pub keys_are : o.keys ≡ keys
  pub hops_are : o.hops ≡ hops
  pub starts_are : o.starts ≡ starts
  pub rhops_are : o.rhops ≡ rhops

tells : (r : Result Edit Refusal) (keys hops starts rhops : List ℕ) → Told (edit_gave r keys hops starts rhops) r keys hops starts rhops
tells (Ok e) keys hops starts rhops = record { answer = refl; keys_are = refl; hops_are = refl; starts_are = refl; rhops_are = refl }
tells (Err e) keys hops starts rhops = record {
  answer = rw number_not_done (ap Err (number_tells e));
  keys_are = refl;
  hops_are = refl;
  starts_are = refl;
  rhops_are = refl;
}

module _ (r r' : Result Edit Refusal) (k k' h h' s s' t t' : List ℕ) where
  edit_settled : (o : Edited) → edit_gave r k h s t ≡ o → edit_gave r' k' h' s' t' ≡ o
      → (r ≡ r') × (k ≡ k') × (h ≡ h') × (s ≡ s') × (t ≡ t')
  edit_settled o e e' =
      let same = e ∙ sym e' in
      let one = tells r k h s t in
      let other = tells r' k' h' s' t' in (
        sym one.answer ∙ ap answer_of same ∙ other.answer,
        sym one.keys_are ∙ ap (λ (o : Edited). o.keys) same ∙ other.keys_are,
        sym one.hops_are ∙ ap (λ (o : Edited). o.hops) same ∙ other.hops_are,
        sym one.starts_are ∙ ap (λ (o : Edited). o.starts) same ∙ other.starts_are,
        sym one.rhops_are ∙ ap (λ (o : Edited). o.rhops) same ∙ other.rhops_are,
      )

  pub announce_settled : (net len hop : ℕ) (p : Pair) → edit_gave r k h s t ≡ announce net len hop p
      → edit_gave r' k' h' s' t' ≡ announce net len hop p → (r ≡ r') × (k ≡ k') × (h ≡ h') × (s ≡ s') × (t ≡ t')
  announce_settled net len hop p = edit_settled (announce net len hop p)

  pub withdraw_settled : (net len : ℕ) (p : Pair) → edit_gave r k h s t ≡ withdraw net len p
      → edit_gave r' k' h' s' t' ≡ withdraw net len p → (r ≡ r') × (k ≡ k') × (h ≡ h') × (s ≡ s') × (t ≡ t')
  withdraw_settled net len p = edit_settled (withdraw net len p)
