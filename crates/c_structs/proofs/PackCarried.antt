-- What a packing answers is carried over to what C gets, and what it leaves with it.
-- Assumes nothing.
use mathlib.Core.Path.{◌≡◌, refl, ap, ◌∙◌}
use mathlib.Core.List.{List, []}
use Prim.Native.Nat.{ℕ}
use Rattle.std.specs.Prelude.{Result, Ok, Err}
use Rattle.ground.specs.declared.Refusal.{Refusal}
use Rattle.segment.specs.declared.Packed.{Packed}
use Rattle.segment.specs.Pack.{PackOutcome, pack_lent, pack_refused, pack_gave}
use Rattle.c_structs.specs.declared.WhelkPacked.{WhelkPacked}
use Rattle.c_structs.specs.Structs.{host_pack_gave}

-- an outcome with other slices
abbrev leaving : List ℕ → List ℕ → List ℕ → PackOutcome → PackOutcome
leaving words bases hops o = record {
  number = o.number;
  width = o.width;
  word_count = o.word_count;
  hop_count = o.hop_count;
  words = words;
  bases = bases;
  hops = hops;
}

gave_leaving : (r : Result Packed Refusal) (words bases hops : List ℕ) → leaving words bases hops (pack_gave r [] [] []) ≡ pack_gave r words bases hops
gave_leaving (Ok p) words bases hops = refl
gave_leaving (Err e) words bases hops = refl

pub pack_carried : (r : Result Packed Refusal) {w : WhelkPacked} {words bases hops : List ℕ} {o : PackOutcome}
    → host_pack_gave w [] [] [] ≡ pack_gave r [] [] [] → pack_gave r words bases hops ≡ o → host_pack_gave w words bases hops ≡ o
pack_carried r {w} {words} {bases} {hops} e g = ap (leaving words bases hops) e ∙ (gave_leaving r words bases hops ∙ g)
