-- What a listing of reasons answers is carried over to what C gets, and the places with it.
-- Assumes nothing.
use mathlib.Core.Path.{◌≡◌, refl, ap, ◌∙◌}
use mathlib.Core.List.{List, []}
use Prim.Native.Nat.{ℕ}
use Rattle.why.specs.declared.Reason.{Reason}
use Rattle.std.specs.Prelude as code
use Rattle.std.specs.Prelude.{Result, Ok, Err, Some, None}
use Rattle.ground.specs.declared.Refusal.{Refusal}
use Rattle.why.specs.Why.{WhyOutcome, why_gave}
use Rattle.c_structs.specs.declared.reasons.WhelkReason.{WhelkReason}
use Rattle.c_structs.specs.Structs.{WhyForC, why_gave_c, why_for_c}

-- what C gets with other places
abbrev leaving : List ℕ → WhyForC → WhyForC
leaving places o = why_gave_c o.answer places

gave_leaving : (r : Result (code.Option Reason) Refusal) (places : List ℕ) → leaving places (why_for_c (why_gave r [])) ≡ why_for_c (why_gave r places)
gave_leaving (Ok (Some r)) places = refl
gave_leaving (Ok None) places = refl
gave_leaving (Err e) places = refl

pub why_carried : (r : Result (code.Option Reason) Refusal) {w : WhelkReason} {places : List ℕ} {o : WhyOutcome} → why_gave_c w [] ≡ why_for_c (why_gave r [])
    → why_gave r places ≡ o → why_gave_c w places ≡ why_for_c o
why_carried r {places = places} e left = ap (leaving places) e ∙ gave_leaving r places ∙ ap why_for_c left
