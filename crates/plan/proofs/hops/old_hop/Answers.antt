-- A listed prefix has its row's hop, and any other that of the nearest row around (`OwnHop`).
use Rattle.std.proofs.Common.{arith}
use Rattle.plan.proofs.OwnHop.{found_there, found_own, unlisted_own}
use Rattle.plan.proofs.hops.old_hop.Goals as goal

pub offset_bounds-rows-at : goal.offset_bounds-rows-at
offset_bounds-rows-at c = omega (arith, found_there c.args.rows.sorted _ c.requires.2 c.in-Ok.is)

pub bounds-rows-at : goal.bounds-rows-at
bounds-rows-at c = found_there c.args.rows.sorted _ c.requires.2 c.in-Ok.is

pub returns-in-Ok : goal.returns-in-Ok
returns-in-Ok c = found_own c.args.rows.sorted _ c.requires.2 c.in-Ok.is c.requires.0

pub returns-in-Err : goal.returns-in-Err
returns-in-Err c = unlisted_own c.args.rows.sorted _ c.requires.2 c.in-Err.is c.parent_hop.ensures
