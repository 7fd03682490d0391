-- `plan::joins::block_slot` meets its contract (`Joining`).
-- Assumes nothing.
use native.Mathlib.Omega.{arith}
use Rattle.plan.proofs.Joining.{slot_past, slot_same, slot_more}
use Rattle.plan.proofs.joins.block_slot.Goals as goal

pub returns-then-end-ge-ADDRESSES : goal.returns-then-end-ge-ADDRESSES
returns-then-end-ge-ADDRESSES c = let a = c.args in slot_past a.after a.end a.hop a.last (omega arith)

pub returns-then-hop-last : goal.returns-then-hop-last
returns-then-hop-last c = let a = c.args in slot_same a.after a.end a.hop a.last (omega arith) (omega arith)

pub returns : goal.returns
returns c = let a = c.args in slot_more a.after a.end a.hop a.last (omega arith) (λ e. omega arith)
