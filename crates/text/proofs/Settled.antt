-- The list writer is settled: two outcomes that keep the promise for one input are the same, in the answer and in the buffer. An outcome
-- tells its answer and its buffer.
-- Assumes nothing.
use mathlib.Core.Path.{◌≡◌, refl, sym, ap, ◌∙◌}
use mathlib.Core.Bool.{cond}
use mathlib.Core.List.{List}
use Prim.Native.Nat.{ℕ}
use lib.Dec.{eqb}
use Rattle.std.specs.Prelude.{Result, Ok, Err}
use Rattle.ground.specs.declared.Refusal.{Refusal}
use Rattle.ground.specs.Numbers.{done}
use Rattle.ground.proofs.Numbers.{refusal_by, number_tells, number_not_done}
use Rattle.routes.specs.Row.{ListLent}
use Rattle.text.specs.Text.{WriteOutcome, write_gave, write}

abbrev written_by : WriteOutcome → Result ℕ Refusal
written_by o = cond (eqb o.number done) (Ok o.length) (Err (refusal_by o.number))

tells : (r : Result ℕ Refusal) (buffer : List ℕ) → let o = write_gave r buffer in (written_by o ≡ r) × (o.buffer ≡ buffer)
tells (Ok n) buffer = (refl, refl)
tells (Err e) buffer = (rw (number_not_done e) (ap Err (number_tells e)), refl)

module _ (l : ListLent) (buffer : List ℕ) (r r' : Result ℕ Refusal) (out out' : List ℕ) where
  pub write_settled : write_gave r out ≡ write l buffer → write_gave r' out' ≡ write l buffer → (r ≡ r') × (out ≡ out')
  write_settled e e' =
      let same = e ∙ sym e' in
      let one = tells r out in
      let other = tells r' out' in (
        sym one.0 ∙ ap written_by same ∙ other.0,
        sym one.1 ∙ ap (λ (o : WriteOutcome). o.buffer) same ∙ other.1,
      )
