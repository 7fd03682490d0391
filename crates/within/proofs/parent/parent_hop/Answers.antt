use Rattle.std.proofs.Common.{arith, subst, ◌∙◌, ◌≡◌, ◌-◌}
use Rattle.cidr.specs.Prefix.{key_of}
use Rattle.cidr.proofs.Prefix.{prefix_parts, length_key}
use Rattle.sweep.proofs.Sorted.{keys_ascend, hop_there}
use Rattle.within.proofs.Placed.{key_stands, key_missing}
use Rattle.within.proofs.Nearest.{Shorter, around_network, shorter_start, shorter_next, found_parent, no_parent}
use Rattle.within.proofs.parent.parent_hop.Goals as goal

pub loop-l-init : goal.loop-l-init
loop-l-init c =
    subst (Shorter _ _ (key_of c.args.net c.args.len)) (length_key c.args.net c.args.len (omega (arith, c.requires.1)))
    (shorter_start c.args.rows.sorted _ c.requires.0)

pub key_around-requires : goal.key_around-requires
key_around-requires c =
    let parts = prefix_parts (key_of c.args.net c.args.len) c.requires.0 in
    (omega (arith, parts.within, c.requires.1), omega (arith, c.loop-l.invariant.upto, parts.short))

pub offset_bounds-rows-at : goal.offset_bounds-rows-at
offset_bounds-rows-at c =
    let a = keys_ascend c.args.rows.sorted in
    omega (arith, hop_there c.args.rows.sorted c.in-Ok.at (key_stands _ _ a (c.place_of.ensures a) c.in-Ok.is).0)

pub bounds-rows-at : goal.bounds-rows-at
bounds-rows-at c =
    let a = keys_ascend c.args.rows.sorted in
    hop_there c.args.rows.sorted c.in-Ok.at (key_stands _ _ a (c.place_of.ensures a) c.in-Ok.is).0

pub returns-in-Ok : goal.returns-in-Ok
returns-in-Ok c =
    let a = keys_ascend c.args.rows.sorted in
    let there = key_stands _ _ a (c.place_of.ensures a) c.in-Ok.is in
    found_parent c.args.rows.sorted _ c.requires.0 _ c.loop-l.invariant (omega arith) _
    (c.key_around.ensures ∙ around_network c.args.net c.args.len (c.loop-l.l - 1) c.requires.1)
    _ there.0 there.1

pub loop-l-preserved : goal.loop-l-preserved
loop-l-preserved c =
    let a = keys_ascend c.args.rows.sorted in
    let none = key_missing _ _ a (c.place_of.ensures a) c.in_default.is in
    shorter_next c.args.rows.sorted _ c.requires.0 _ c.loop-l.invariant (omega arith) _
    (c.key_around.ensures ∙ around_network c.args.net c.args.len (c.loop-l.l - 1) c.requires.1)
    _ none.0 none.1

pub returns : goal.returns
returns c =
    let none : c.loop-l.l ≡ 0 = omega arith in
    no_parent c.args.rows.sorted _ c.requires.0 (subst (Shorter _ _ _) none c.loop-l.invariant)
