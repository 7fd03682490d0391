-- `rows::row_end` meets its contract.
-- Assumes nothing.
use Rattle.std.proofs.Common.{rules, tests, arith, eqb}
use Rattle.std.proofs.lemmas.Grind.{common_steps}
use Rattle.std.proofs.lemmas.Iterator.{YieldsList-from_slice}
use Rattle.std.proofs.lemmas.Iterator.Search.{position_from_yields_List}
use Rattle.rows.proofs.Splitting.{row_length_found, length_at_end}
use Rattle.rows.proofs.row_end.Goals as goal

pub returns-in_default : goal.returns-in_default
returns-in_default c =
    let e = length_at_end c.args.feed.now c.args.at in
    grind (arith, common_steps)

pub returns : goal.returns
returns c =
    let found = position_from_yields_List (λ b. eqb b 10) _ _ _ c.position.ensures.ran (YieldsList-from_slice c.in-Some.rest.now cc) (λ x b q k. search (rules, tests)) in
    let e = row_length_found c.in-Some.rest.now _ found in
    grind (arith, common_steps, e)
