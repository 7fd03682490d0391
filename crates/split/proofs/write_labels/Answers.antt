-- `split::write_labels` meets its contract: at each row from place k on the sweep over the first half moves on to its network, where the
-- last open hop is the first half's answer.
-- Assumes nothing.
use native.Mathlib.Omega.{arith}
use Rattle.split.proofs.Labelling.{first_sorted, labelling_start, may_go, labelling_next, labelling_end}
use Rattle.split.proofs.write_labels.Goals as goal

pub invariant_of-first : goal.invariant_of-first
invariant_of-first c = record { sorted = first_sorted c.args.rows.sorted c.requires.within }

pub loop-i-init : goal.loop-i-init
loop-i-init c = record { stands = labelling_start c.args.rows.sorted c.requires c.open_all-s.ensures; from_k = omega arith }

pub step-s-requires : goal.step-s-requires
step-s-requires c = may_go c.args.rows.sorted c.requires.within c.loop-i.invariant.stands (omega arith) c.network-to.ensures

pub loop-i-preserved : goal.loop-i-preserved
loop-i-preserved c = record {
  stands = rw c.label.ensures
      (labelling_next c.args.rows.sorted c.requires.within c.loop-i.invariant.stands (omega arith) c.network-to.ensures c.step-s.ensures
      c.top_hop.ensures (omega arith));
  from_k = omega arith;
}

pub returns : goal.returns
returns c = labelling_end c.args.rows.sorted c.requires.within c.loop-i.invariant.stands (omega arith)
