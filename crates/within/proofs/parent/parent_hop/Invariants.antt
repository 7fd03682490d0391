-- The rows around that aren't the prefix's own are shorter than the lengths left to try.
use Rattle.cidr.specs.Prefix.{key_of}
use Rattle.within.proofs.Nearest.{Shorter}
use Rattle.within.proofs.parent.parent_hop.Given as goal

abbrev pub invariant-loop-l : goal.invariant-loop-l
invariant-loop-l l = Shorter l.rows.keys.now l.rows.hops.now (key_of l.net l.len) l.l
