-- What a split returns and leaves is settled: two outcomes that keep its promise for one input are the same, in the answer and in both
-- slices.
-- Assumes nothing.
use mathlib.Core.Path.{◌≡◌, refl, sym, ap, ◌∙◌}
use mathlib.Core.Bool.{cond}
use mathlib.Core.List.{List}
use Prim.Native.Nat.{ℕ}
use lib.Dec.{eqb}
use Rattle.std.proofs.Common.{Result, Ok, Err}
use Rattle.ground.specs.declared.Refusal.{Refusal}
use Rattle.ground.specs.Numbers.{done}
use Rattle.ground.proofs.Numbers.{refusal_by, number_tells, number_not_done}
use Rattle.routes.specs.Row.{ListLent}
use Rattle.split.specs.Split.{SplitLent, SplitOutcome, split_gave, split}

-- the answer can be told from the outcome
abbrev answer_of : SplitOutcome → Result ℕ Refusal
answer_of o = cond (eqb o.number done) (Ok o.count) (Err (refusal_by o.number))

tells : (r : Result ℕ Refusal) (keys labels : List ℕ)
    → let o = split_gave r keys labels in (answer_of o ≡ r) × (o.keys ≡ keys) × (o.labels ≡ labels)
tells (Ok n) keys labels = (refl, refl, refl)
tells (Err e) keys labels = (rw (number_not_done e, number_tells e), refl, refl)

pub split_settled : (k : ℕ) (l : ListLent) (out : SplitLent) (r r' : Result ℕ Refusal) (s s' h h' : List ℕ)
    → split_gave r s h ≡ split k l out → split_gave r' s' h' ≡ split k l out → (r ≡ r') × (s ≡ s') × (h ≡ h')
split_settled k l out r r' s s' h h' e e' =
    let same = e ∙ sym e' in
    let one = tells r s h in
    let other = tells r' s' h' in (
      sym one.0 ∙ ap answer_of same ∙ other.0,
      sym one.1 ∙ ap (λ (o : SplitOutcome). o.keys) same ∙ other.1,
      sym one.2 ∙ ap (λ (o : SplitOutcome). o.labels) same ∙ other.2,
    )
