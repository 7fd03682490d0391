-- An announced prefix has the new hop, a withdrawn one that of the nearest row around (`OwnHop`).
use Rattle.plan.proofs.Edited.{edited_withdrawn}
use Rattle.plan.proofs.OwnHop.{announced_hop}
use Rattle.plan.proofs.hops.new_hop.Goals as goal

pub returns-then-hop-eq0 : goal.returns-then-hop-eq0
returns-then-hop-eq0 c = rw (edited_withdrawn _ _ _ c.if-hop-eq0.true) c.parent_hop.ensures

pub returns-else-hop-eq0 : goal.returns-else-hop-eq0
returns-else-hop-eq0 c = announced_hop c.args.rows.sorted _ c.requires.0 _ c.if-hop-eq0.false
