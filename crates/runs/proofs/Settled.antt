-- Rule 17.1: a build, of a half too, and a pair check are settled. Two outcomes that keep the promise for one input are the same, in the
-- answer and, for a build, in both lent slices. An outcome tells its answer and its slices.
-- Assumes nothing.
use mathlib.Core.Path.{◌≡◌, refl, sym, ap, ◌∙◌}
use mathlib.Core.Bool.{cond}
use mathlib.Core.List.{List}
use Prim.Native.Nat.{ℕ}
use lib.Dec.{eqb}
use Rattle.std.proofs.Common.{Result, Ok, Err}
use Rattle.ground.specs.declared.Refusal.{Refusal}
use Rattle.ground.specs.Numbers.{number_of, done}
use Rattle.ground.proofs.Numbers.{answer_by, tells_refusal}
use Rattle.routes.specs.Row.{ListLent}
use Rattle.runs.specs.Build.{SlotsLent, BuildOutcome, build_gave, build, build_half}
use Rattle.runs.specs.Pair.{Pair, pair_gave, pair_check}

abbrev built_by : BuildOutcome → Result ℕ Refusal
built_by o = answer_by o.number o.runs

tells : (r : Result ℕ Refusal) (starts hops : List ℕ)
    → let o = build_gave r starts hops in (built_by o ≡ r) × (o.starts ≡ starts) × (o.hops ≡ hops)
tells (Ok n) starts hops = (refl, refl, refl)
tells (Err e) starts hops = (tells_refusal e 0, refl, refl)

module _ (l : ListLent) (t : SlotsLent) (r r' : Result ℕ Refusal) (s s' h h' : List ℕ) where
  one_build : (o : BuildOutcome) → build_gave r s h ≡ o → build_gave r' s' h' ≡ o → (r ≡ r') × (s ≡ s') × (h ≡ h')
  one_build o e e' =
      let same = e ∙ sym e' in
      let one = tells r s h in
      let other = tells r' s' h' in (
        sym one.0 ∙ ap built_by same ∙ other.0,
        sym one.1 ∙ ap (λ (o : BuildOutcome). o.starts) same ∙ other.1,
        sym one.2 ∙ ap (λ (o : BuildOutcome). o.hops) same ∙ other.2,
      )

  pub build_settled : build_gave r s h ≡ build l t → build_gave r' s' h' ≡ build l t → (r ≡ r') × (s ≡ s') × (h ≡ h')
  build_settled = one_build (build l t)

  pub build_half_settled : build_gave r s h ≡ build_half l t → build_gave r' s' h' ≡ build_half l t → (r ≡ r') × (s ≡ s') × (h ≡ h')
  build_half_settled = one_build (build_half l t)

tells_pair : (r : Result (Unit {0}) Refusal) → answer_by (pair_gave r) tt ≡ r
tells_pair (Ok u) = refl
tells_pair (Err e) = tells_refusal e tt

pub pair_settled : (p : Pair) (r r' : Result (Unit {0}) Refusal) → pair_gave r ≡ pair_check p → pair_gave r' ≡ pair_check p → r ≡ r'
pair_settled p r r' e e' = sym (tells_pair r) ∙ ap (λ n. answer_by n tt) (e ∙ sym e') ∙ tells_pair r'
