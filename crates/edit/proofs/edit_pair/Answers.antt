use Rattle.std.proofs.Common.{rules, ◌≡◌, sym, ◌∙◌, Err}
use Rattle.edit.proofs.Outcomes.{edit_refused_lem, edit_agreed_lem}
use Rattle.edit.proofs.edit_pair.Goals as goal

pub returns-in_err-pair_check : goal.returns-in_err-pair_check
returns-in_err-pair_check c =
    let gave : c.from_residual.result ≡ Err c.in_err-pair_check.field-0.0 = search rules in
    rw gave (edit_refused_lem _ _ _ _ c.in_err-pair_check.ensures)

pub returns : goal.returns
returns c = c.edit_agreed.ensures ∙ edit_agreed_lem _ _ _ (sym c.in_ok-pair_check.ensures)
