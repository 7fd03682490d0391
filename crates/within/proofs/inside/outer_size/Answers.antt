use Rattle.std.proofs.Common.{arith}
use Rattle.within.proofs.Summing.{summing_start, summing_outer, summing_inner, summing_end}
use Rattle.within.proofs.inside.outer_size.Goals.{then-end-net, else-end-net}
use Rattle.within.proofs.inside.outer_size.Goals as goal

pub loop-key-init : goal.loop-key-init
loop-key-init c = summing_start c.requires

pub loop-key-preserved : goal.loop-key-preserved
loop-key-preserved c =
    let net = c.network-net.ensures in
    elim c.if-end-net.branch [
      | then-end-net w ↦ rw (w.end-is, w.sum-is) (summing_outer c.args.rows.sorted c.loop-key.invariant (omega arith) net w.end_of-next.ensures w.if-end-net.true)
      | else-end-net w ↦ rw (w.end-is, w.sum-is) (summing_inner c.args.rows.sorted c.loop-key.invariant (omega arith) net w.if-end-net.false)
    ]

pub returns : goal.returns
returns c = summing_end c.args.rows.sorted c.loop-key.invariant (omega arith)
