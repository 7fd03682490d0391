-- `plan::changed_by` meets its contract.
-- Assumes nothing.
use native.Mathlib.Omega.{arith}
use borrow.Author.Tests.{eq-eqb, ne_eqb}
use Rattle.cidr.proofs.Prefix.{prefix_parts}
use Rattle.plan.proofs.changed_by.Goals as goal

pub returns-then-old-new : goal.returns-then-old-new
returns-then-old-new c = let a = c.args in rw (eq-eqb a.old a.new (omega arith))

pub outer_size-requires : goal.outer_size-requires
outer_size-requires c =
    (omega (arith, c.network-net.ensures, (prefix_parts c.args.key c.requires.0).within))

pub overflow_sub-result : goal.overflow_sub-result
overflow_sub-result c =
    let outer = rw c.network-net.ensures at c.outer_size.ensures in
    omega (arith, outer, c.end_of.ensures, c.network-net.ensures, c.requires.1)

pub returns : goal.returns
returns c =
    let a = c.args in
    let outer = rw c.network-net.ensures at c.outer_size.ensures in
    rw (ne_eqb a.old a.new (λ e. omega arith)) (omega (arith, outer, c.end_of.ensures, c.network-net.ensures))
