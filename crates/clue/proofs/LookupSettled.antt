-- Rule 17.1: lookup with a hint and its quick form are settled. Two answers that keep the promise for one input are the same, since an outcome
-- is one answer's.
-- Assumes nothing.
use mathlib.Core.Path.{◌≡◌, refl, sym, ap, ◌∙◌}
use mathlib.Core.Bool.{cond}
use Prim.Native.Nat.{ℕ}
use lib.Dec.{eqb}
use Rattle.ground.specs.Numbers.{done}
use Rattle.routes.specs.Row.{ListLent}
use Rattle.clue.specs.declared.Hinted.{Hinted}
use Rattle.clue.specs.declared.Hinted.TheVariants as H
use Rattle.std.specs.Prelude.{Result, Ok, Err, Option, None, Some}
use Rattle.clue.specs.declared.Refusal.{Refusal}
use Rattle.clue.proofs.Numbers.{refusal_by, number_tells, number_not_done}
use Rattle.entries.specs.Entries.{EntriesLent}
use Rattle.clue.specs.Lookup.{HintOutcome, hint_gave, hint_lookup}
use Rattle.clue.specs.Quick.{QuickOutcome, quick_gave, quick_lookup}

abbrev hinted_by : HintOutcome → Result Hinted Refusal
hinted_by o = cond (eqb o.number done) (Ok (cond o.final (H.Final o.hop) (H.Searched o.hop))) (Err (refusal_by o.number))

tells : (r : Result Hinted Refusal) → hinted_by (hint_gave r) ≡ r
tells (Ok (H.Final h)) = refl
tells (Ok (H.Searched h)) = refl
tells (Err e) = rw number_not_done (ap Err (number_tells e))

pub hint_settled : (l : ListLent) (e : EntriesLent) (len a : ℕ) (r r' : Result Hinted Refusal) → hint_gave r ≡ hint_lookup l e len a
    → hint_gave r' ≡ hint_lookup l e len a → r ≡ r'
hint_settled l e len a r r' p p' = sym (tells r) ∙ ap hinted_by (p ∙ sym p') ∙ tells r'

abbrev told_by : QuickOutcome → Option ℕ
told_by o = cond o.final (Some o.hop) None

tells_quick : (t : Option ℕ) → told_by (quick_gave t) ≡ t
tells_quick (Some h) = refl
tells_quick None = refl

pub quick_settled : (e : EntriesLent) (len a : ℕ) (t t' : Option ℕ) → quick_gave t ≡ quick_lookup e len a → quick_gave t' ≡ quick_lookup e len a
    → t ≡ t'
quick_settled e len a t t' p p' = sym (tells_quick t) ∙ ap told_by (p ∙ sym p') ∙ tells_quick t'
