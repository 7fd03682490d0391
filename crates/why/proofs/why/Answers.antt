-- `why::why` meets its contract: the places that `find` noted stand at the front, and the last of them is the reason.
-- Assumes nothing.
use Rattle.std.proofs.Common.{◌≡◌, false, true, sym, ◌∙◌, arith}
use Rattle.routes.specs.WellFormed.{formed}
use Rattle.why.proofs.Outcome.{why_nothing, why_row}
use Rattle.why.proofs.why.Goals as goal
use Rattle.why.proofs.why.Goals.{Else-not-list_ok}

tested : (c : Else-not-list_ok) → formed false c.args.count c.args.keys.now c.args.hops.now ≡ true
tested c = sym c.list_ok.ensures ∙ c.if-not-list_ok.false

pub returns-in_default : goal.returns-in_default
returns-in_default c =
    let e = c.find-n.ensures in
    rw c.copy_from_slice.ensures.after
    (why_nothing _ _ _ _ (tested (goal.at.returns-in_default c).Else-not-list_ok) _ _ e.many e.listed _ c.if-places-n.false
    (omega (arith, c.in_default.ensures)))

pub returns : goal.returns
returns c =
    let e = c.find-n.ensures in
    rw c.copy_from_slice.ensures.after
    (why_row _ _ _ _ (tested (goal.at.returns c).Else-not-list_ok) _ _ e.many e.listed _ c.if-places-n.false _ c.in-Some.ensures.0
    c.in-Some.ensures.1)
