-- `rows::read_row` meets its contract.
-- Assumes nothing.
use Rattle.std.proofs.Common.{◌≡◌, Err, refl, sym, ◌∙◌, rules}
use Rattle.rows.specs.declared.RowFault.TheVariants.{Shape}
use Rattle.rows.proofs.RowParse.{rowing_start, rowing_not_of_form, rowing_more}
use Rattle.rows.proofs.read_row.Goals as goal

pub loop-i-init : goal.loop-i-init
loop-i-init c = rowing_start _ _ refl

pub returns-in_err-number : goal.returns-in_err-number
returns-in_err-number c =
    let shape : c.from_residual.result ≡ Err Shape = search rules in
    rw shape (sym (rowing_not_of_form c.loop-i.invariant c.loop-i-test.true (sym c.field_from.ensures ∙ c.in_err-number.ensures.ok_part)))

pub loop-i-preserved : goal.loop-i-preserved
loop-i-preserved c =
    rowing_more c.loop-i.invariant c.loop-i-test.true (sym c.field_from.ensures ∙ c.in_ok-number.ensures.ok_part)
