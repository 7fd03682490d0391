-- `clue::quick` meets its contract: what stands at the place where halving ends says which outcome it is (`QuickOutcomes`).
-- Assumes nothing.
use Rattle.std.proofs.Common.{sym, ◌∙◌, arith}
use Rattle.clue.proofs.QuickOutcomes.{quick_empty, quick_place_lem, quick_other, quick_marked, quick_found}
use Rattle.clue.proofs.quick.Goals as goal

pub returns-then-n-eq0 : goal.returns-then-n-eq0
returns-then-n-eq0 c = quick_empty _ _ _ (sym c.entry_room-n.ensures ∙ c.if-n-eq0.true)

pub returns-then-ekeys-place : goal.returns-then-ekeys-place
returns-then-ekeys-place c =
    quick_other _ _ _ (quick_place_lem _ _ _ c.entry_room-n.ensures c.clue_key-key.ensures c.halve-place.ensures.0)
    (λ e. omega (arith, c.if-ekeys-place.true, e, c.clue_key-key.ensures))

pub returns-then-marks-place-ne0 : goal.returns-then-marks-place-ne0
returns-then-marks-place-ne0 c =
    quick_marked _ _ _ (quick_place_lem _ _ _ c.entry_room-n.ensures c.clue_key-key.ensures c.halve-place.ensures.0)
    (λ e. omega (arith, c.if-marks-place-ne0.true, e))

pub returns : goal.returns
returns c =
    quick_found _ _ _ (quick_place_lem _ _ _ c.entry_room-n.ensures c.clue_key-key.ensures c.halve-place.ensures.0)
    (omega (arith, c.entry_room-n.ensures, c.halve-place.ensures))
    c.if-bits-gt32.false
    (omega (arith, c.clue_key-key.ensures))
    (omega arith)
