-- `sweep::open_here` meets its contract. The loop keeps the stack true over the rows before `row`, whose networks are at most the address.
-- A turn opens one row more; the loop ends at a row whose network is past the address, or past the last row.
-- Assumes nothing.
use mathlib.Core.Path.{refl, sym, ◌∙◌}
use native.Mathlib.Omega.{arith}
use Rattle.sweep.proofs.Stack.{opening, all_open}
use Rattle.sweep.proofs.open_here.Goals as goal

pub returns-then-network-at : goal.returns-then-network-at
returns-then-network-at c =
    (refl, all_open c.args.rows.sorted c.loop-row.invariant (omega arith) (λ l e. c.if-network-at.true (c.network.ensures ∙ e)))

pub loop-row-preserved : goal.loop-row-preserved
loop-row-preserved c =
    rw c.end_of.ensures (opening c.args.rows.sorted c.loop-row.invariant (sym c.network.ensures ∙ c.if-network-at.false) (omega arith))
