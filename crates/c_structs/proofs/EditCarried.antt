-- What an edit answers is carried over to what C gets, and what it leaves with it.
-- Assumes nothing.
use mathlib.Core.Path.{◌≡◌, refl, ap, ◌∙◌}
use mathlib.Core.List.{List, []}
use Prim.Native.Nat.{ℕ}
use Rattle.edit.specs.declared.Edit.{Edit}
use Rattle.std.specs.Prelude.{Result, Ok, Err}
use Rattle.ground.specs.declared.Refusal.{Refusal}
use Rattle.edit.specs.Edit.{Edited, edit_outcome, edit_gave}
use Rattle.c_structs.specs.declared.edits.WhelkEdit.{WhelkEdit}
use Rattle.c_structs.specs.Structs.{host_edit_gave}

-- an outcome with other slices
abbrev leaving : List ℕ → List ℕ → List ℕ → List ℕ → Edited → Edited
leaving keys hops starts rhops o = edit_outcome o.number o.changed o.count o.runs keys hops starts rhops

gave_leaving : (r : Result Edit Refusal) (keys hops starts rhops : List ℕ)
    → leaving keys hops starts rhops (edit_gave r [] [] [] []) ≡ edit_gave r keys hops starts rhops
gave_leaving (Ok e) keys hops starts rhops = refl
gave_leaving (Err e) keys hops starts rhops = refl

pub edit_carried : (r : Result Edit Refusal) {w : WhelkEdit} {keys hops starts rhops : List ℕ} {o : Edited}
    → host_edit_gave w [] [] [] [] ≡ edit_gave r [] [] [] [] → edit_gave r keys hops starts rhops ≡ o → host_edit_gave w keys hops starts rhops ≡ o
edit_carried r {w} {keys} {hops} {starts} {rhops} e g =
    ap (leaving keys hops starts rhops) e ∙ (gave_leaving r keys hops starts rhops ∙ g)
