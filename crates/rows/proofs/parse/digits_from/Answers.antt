-- `rows::parse::digits_from` meets its contract.
-- Assumes nothing.
use Rattle.std.proofs.Common.{◌≡◌, ◌+◌, sym, ◌∙◌, arith}
use Rattle.rows.proofs.Fields.{reads_start, reads_full, reads_end, reads_other, reads_more}
use Rattle.rows.proofs.parse.digits_from.Goals as goal
use Rattle.rows.proofs.parse.digits_from.Goals.{then-next-row-via-then-next-row, then-next-row-via-else-next-row+then-not-is_ascii_digit}

pub loop-next-init : goal.loop-next-init
loop-next-init c = reads_start _ _ _ c.requires.0

pub returns-then-next-row-clause-read : goal.returns-then-next-row-clause-read
returns-then-next-row-clause-read c =
    elim c.then-next-row.branch [
      | then-next-row-via-then-next-row w ↦ sym (reads_end c.loop-next.invariant (omega arith))
      | then-next-row-via-else-next-row+then-not-is_ascii_digit w ↦
          sym (reads_other c.loop-next.invariant (omega arith) (sym w.is_ascii_digit.ensures.value ∙ w.if-not-is_ascii_digit.true))
    ]

pub loop-next-preserved : goal.loop-next-preserved
loop-next-preserved c =
    rw c.from.ensures
    (reads_more c.loop-next.invariant (omega arith) (sym c.is_ascii_digit.ensures.value ∙ c.if-not-is_ascii_digit.false) (omega arith)
    (omega arith))

pub returns-clause-read : goal.returns-clause-read
returns-clause-read c =
    let full : c.loop-next.next ≡ c.args.at + c.args.most = omega (arith, c.loop-next.auto.next-end) in
    sym (rw (← full) (reads_full c.loop-next.invariant (omega arith)))
