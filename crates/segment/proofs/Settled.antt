-- Packing is settled: two outcomes that keep the promise for one input are the same, in the answer and in each lent slice. An outcome
-- tells its answer and its slices. (`packed_lookup_settled` stands in `PackedOutcome` of `packed`.)
-- Assumes nothing.
use mathlib.Core.Path.{◌≡◌, refl, sym, ap, ◌∙◌}
use mathlib.Core.Bool.{cond}
use mathlib.Core.List.{List}
use Prim.Native.Nat.{ℕ}
use lib.Dec.{eqb}
use Rattle.std.proofs.Common.{Result, Ok, Err}
use Rattle.ground.specs.declared.Refusal.{Refusal}
use Rattle.ground.specs.Numbers.{done}
use Rattle.ground.proofs.Numbers.{refusal_by, number_tells, number_not_done}
use Rattle.runs.specs.Pair.{Pair}
use Rattle.segment.specs.declared.Packed.{Packed}
use Rattle.segment.specs.Pack.{PackLent, PackOutcome, pack_gave, pack}

abbrev packed_by : PackOutcome → Result Packed Refusal
packed_by o =
    cond (eqb o.number done) (Ok (record { width = o.width; words = o.word_count; hops = o.hop_count })) (Err (refusal_by o.number))

tells : (r : Result Packed Refusal) (words bases hops : List ℕ)
    → let o = pack_gave r words bases hops in (packed_by o ≡ r) × (o.words ≡ words) × (o.bases ≡ bases) × (o.hops ≡ hops)
tells (Ok p) words bases hops = (refl, refl, refl, refl)
tells (Err e) words bases hops = (rw (number_not_done e, number_tells e), refl, refl, refl)

module _ (q : ℕ) (p : Pair) (l : PackLent) (r r' : Result Packed Refusal) (w w' b b' h h' : List ℕ) where
  pub pack_settled : pack_gave r w b h ≡ pack q p l → pack_gave r' w' b' h' ≡ pack q p l → (r ≡ r') × (w ≡ w') × (b ≡ b') × (h ≡ h')
  pack_settled e e' =
      let same = e ∙ sym e' in
      let one = tells r w b h in
      let other = tells r' w' b' h' in (
        sym one.0 ∙ ap packed_by same ∙ other.0,
        sym one.1 ∙ ap (λ (o : PackOutcome). o.words) same ∙ other.1,
        sym one.2 ∙ ap (λ (o : PackOutcome). o.bases) same ∙ other.2,
        sym one.3 ∙ ap (λ (o : PackOutcome). o.hops) same ∙ other.3,
      )
