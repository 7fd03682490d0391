-- `edit::withdraw` meets its contract: 15, or what both edits of a prefix do (`Outcomes`).
-- Assumes nothing.
use mathlib.Core.Path.{◌≡◌, sym, ◌∙◌}
use mathlib.Core.Bool.{false}
use Rattle.routes.specs.Row.{list_lent}
use Rattle.runs.specs.Table.{runs_lent}
use Rattle.runs.specs.Pair.{Pair, pair}
use Rattle.edit.specs.Edit.{bad_prefix}
use Rattle.edit.proofs.Accepted.{named, named_short}
use Rattle.edit.proofs.Outcomes.{withdraw_bad, withdraw_named}
use Rattle.edit.proofs.withdraw.Goals as goal

pub returns-then-bad_prefix : goal.returns-then-bad_prefix
returns-then-bad_prefix c =
    let handed : Pair = let a = c.args in
    pair (list_lent a.count a.keys.now a.hops.now) (runs_lent a.runs a.starts.now a.rhops.now) in
    withdraw_bad c.args.net c.args.len handed (sym c.bad_prefix.ensures ∙ c.if-bad_prefix.true)

pub edit_pair-requires : goal.edit_pair-requires
edit_pair-requires c =
    let is_named : bad_prefix c.args.net c.args.len ≡ false = sym c.bad_prefix.ensures ∙ c.if-bad_prefix.false in
    let a = c.args in
    (named a.net a.len is_named, named_short a.net a.len is_named)

pub returns : goal.returns
returns c =
    let handed : Pair = let a = c.args in
    pair (list_lent a.count a.keys.now a.hops.now) (runs_lent a.runs a.starts.now a.rhops.now) in
    let is_named : bad_prefix c.args.net c.args.len ≡ false = sym c.bad_prefix.ensures ∙ c.if-bad_prefix.false in
    c.edit_pair.ensures ∙ withdraw_named c.args.net c.args.len handed is_named
