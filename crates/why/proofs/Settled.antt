-- The listing and its text are settled: two outcomes that keep the promise for one input are the same, in the answer and in the lent places
-- or the buffer. An outcome tells its answer and what was lent.
-- Assumes nothing.
use mathlib.Core.Path.{◌≡◌, refl, sym, ap, ◌∙◌}
use mathlib.Core.Bool.{cond}
use mathlib.Core.List.{List}
use mathlib.Core.Option.{Option, none, some}
use Prim.Native.Nat.{ℕ}
use lib.Dec.{eqb}
use Rattle.std.specs.Prelude.{Result, Ok, Err, Some, None}
use Rattle.std.specs.Prelude as code
use Rattle.ground.specs.declared.Refusal.{Refusal}
use Rattle.ground.specs.Numbers.{done}
use Rattle.ground.proofs.Numbers.{refusal_by, number_tells, number_not_done}
use Rattle.routes.specs.Row.{ListLent}
use Rattle.text.specs.Text.{WriteOutcome, write_gave}
use Rattle.why.specs.declared.Reason.{Reason}
use Rattle.why.specs.Why.{WhyOutcome, why_gave, why}
use Rattle.why.specs.Text.{why_text}

abbrev reason_of : Option ℕ → ℕ → code.Option Reason
reason_of none listed = None
reason_of (some place) listed = Some (record { place = place; listed = listed })

abbrev reason_by : WhyOutcome → Result (code.Option Reason) Refusal
reason_by o = cond (eqb o.number done) (Ok (reason_of o.reason o.listed)) (Err (refusal_by o.number))

tells : (r : Result (code.Option Reason) Refusal) (places : List ℕ) → let o = why_gave r places in (reason_by o ≡ r) × (o.places ≡ places)
tells (Ok (Some r)) places = (refl, refl)
tells (Ok None) places = (refl, refl)
tells (Err e) places = (rw (number_not_done e) (ap Err (number_tells e)), refl)

module _ (l : ListLent) (a : ℕ) (places : List ℕ) (r r' : Result (code.Option Reason) Refusal) (left left' : List ℕ) where
  pub why_settled : why_gave r left ≡ why l a places → why_gave r' left' ≡ why l a places → (r ≡ r') × (left ≡ left')
  why_settled e e' =
      let same = e ∙ sym e' in
      let one = tells r left in
      let other = tells r' left' in (
        sym one.0 ∙ ap reason_by same ∙ other.0,
        sym one.1 ∙ ap (λ (o : WhyOutcome). o.places) same ∙ other.1,
      )

abbrev written_by : WriteOutcome → Result ℕ Refusal
written_by o = cond (eqb o.number done) (Ok o.length) (Err (refusal_by o.number))

tells_text : (r : Result ℕ Refusal) (buffer : List ℕ) → let o = write_gave r buffer in (written_by o ≡ r) × (o.buffer ≡ buffer)
tells_text (Ok n) buffer = (refl, refl)
tells_text (Err e) buffer = (rw (number_not_done e) (ap Err (number_tells e)), refl)

module _ (l : ListLent) (a : ℕ) (buffer : List ℕ) (r r' : Result ℕ Refusal) (out out' : List ℕ) where
  pub why_text_settled : write_gave r out ≡ why_text l a buffer → write_gave r' out' ≡ why_text l a buffer → (r ≡ r') × (out ≡ out')
  why_text_settled e e' =
      let same = e ∙ sym e' in
      let one = tells_text r out in
      let other = tells_text r' out' in (
        sym one.0 ∙ ap written_by same ∙ other.0,
        sym one.1 ∙ ap (λ (o : WriteOutcome). o.buffer) same ∙ other.1,
      )
