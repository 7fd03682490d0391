-- An import, with and without a lent tally, is settled: two outcomes that keep the promise for one input are the same.
-- Assumes nothing.
use mathlib.Core.Path.{◌≡◌, refl, sym, ap, ◌∙◌}
use mathlib.Core.List.{List}
use Prim.Native.Nat.{ℕ}
use Rattle.std.specs.Prelude.{Result, Ok, Err}
use Rattle.ground.specs.declared.Refusal.{Refusal}
use Rattle.ground.specs.Numbers.{number_of, done}
use Rattle.ground.proofs.Numbers.{number_not_done, one_number}
use Rattle.ground.proofs.Truth.{never_both}
use Rattle.feed.specs.declared.Counts.{Counts}
use Rattle.feed.specs.Import.{ImportLent, import, end_number, counts_gave, import_gave, TallyGave}

-- a refusal's number is none that a call gives which did what it is for
pub not_done : (e : Refusal) → done ≡ number_of e → ⊥
not_done e z = never_both (rw (← z)) (number_not_done e)

pub same_end : (e e' : Result (Unit {0}) Refusal) → end_number e ≡ end_number e' → e ≡ e'
same_end (Ok x) (Ok y) n = refl
same_end (Ok x) (Err e) n = absurd (not_done e n)
same_end (Err e) (Ok y) n = absurd (not_done e (sym n))
same_end (Err e) (Err e') n = ap Err (one_number e e' n)

-- an import's answer and the three slices at exit can be told from what they say
same_answer : (r r' : Result Counts Refusal) → end_number r ≡ end_number r' → counts_gave r ≡ counts_gave r' → r ≡ r'
same_answer (Ok c) (Ok c') n e = ap Ok e
same_answer (Ok c) (Err x) n e = absurd (not_done x n)
same_answer (Err x) (Ok c) n e = absurd (not_done x (sym n))
same_answer (Err x) (Err y) n e = ap Err (one_number x y n)

module _ {r r' : Result Counts Refusal} {k k' h h' p p' : List ℕ} where
  pub gave_one : import_gave r k h p ≡ import_gave r' k' h' p' → (r ≡ r') × (k ≡ k') × (h ≡ h') × (p ≡ p')
  gave_one e = (
    same_answer r r' (ap (λ o. o.number) e) (ap (λ o. o.counts) e),
    ap (λ o. o.keys) e,
    ap (λ o. o.hops) e,
    ap (λ o. o.report) e,
  )

  -- an import's answer and all three lent slices
  pub import_settled : (feed : List ℕ) (l : ImportLent)
      → import_gave r k h p ≡ import feed l → import_gave r' k' h' p' ≡ import feed l → (r ≡ r') × (k ≡ k') × (h ≡ h') × (p ≡ p')
  import_settled feed l e e' = gave_one (e ∙ sym e')

-- an import with a lent tally
pub tally_settled : (feed : List ℕ) (l : ImportLent) (tally : Counts) {r r' : Result (Unit {0}) Refusal}
    {k k' h h' p p' : List ℕ} {t t' : Counts}
    → TallyGave feed l tally r k h p t → TallyGave feed l tally r' k' h' p' t' → (r ≡ r') × (k ≡ k') × (h ≡ h') × (p ≡ p') × (t ≡ t')
tally_settled feed l tally {r} {r'} g g' = (
  same_end r r' (g.number ∙ sym g'.number),
  g.keys_left ∙ sym g'.keys_left,
  g.hops_left ∙ sym g'.hops_left,
  g.report_left ∙ sym g'.report_left,
  g.tally_left ∙ sym g'.tally_left,
)
