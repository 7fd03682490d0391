-- `why::why_text` meets its contract: the list writer writes the rows that `gather` gathers at the places that `find` noted.
-- Assumes nothing.
use Rattle.std.proofs.Common.{◌≡◌, false, true, sym, ◌∙◌}
use Rattle.routes.specs.WellFormed.{formed}
use Rattle.why.proofs.Outcome.{noted_there, text_of_gathered}
use Rattle.why.proofs.why_text.Goals as goal
use Rattle.why.proofs.why_text.Goals.{Else-not-list_ok}

tested : (c : Else-not-list_ok) → formed false c.args.count c.args.keys.now c.args.hops.now ≡ true
tested c = sym c.list_ok.ensures ∙ c.if-not-list_ok.false

pub gather-requires-clause-by_index : goal.gather-requires-clause-by_index
gather-requires-clause-by_index c =
    let e = c.find-n.ensures in noted_there _ _ _ _ (tested (goal.at.gather-requires-clause-by_index c).Else-not-list_ok) _ _ e.many e.listed

pub returns : goal.returns
returns c =
    let e = c.find-n.ensures in
    c.write.ensures
    ∙ text_of_gathered _ _ _ _ (tested (goal.at.returns c).Else-not-list_ok) _ _ e.many e.listed _ _ c.gather.ensures.0 c.gather.ensures.1 e.few _
