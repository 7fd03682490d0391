-- `entries::entry::hop_around` meets its contract. The loop keeps true that the rows shorter than the lengths left to try have the say. The
-- measure is how many lengths are left.
-- Assumes nothing.
use mathlib.Core.Path.{◌≡◌, sym, ◌∙◌}
use Prim.Native.Nat.{◌<◌}
use native.Mathlib.Omega.{arith}
use lib.ListN.{length}
use Rattle.entries.proofs.Rows.{keys_ascend}
use Rattle.entries.proofs.Around.{shorter_start, shorter_none, place_within, place_hop, place_missing}
use Rattle.entries.proofs.entry.hop_around.Goals as goal

pub loop-shorter-init : goal.loop-shorter-init
loop-shorter-init c =
    (omega (arith, c.requires.clue_in_range.0), shorter_start _ c.args.a c.args.len c.requires.clue_in_range.0)

pub clue_key-requires : goal.clue_key-requires
clue_key-requires c = (omega arith, c.requires.clue_in_range.1)

pub offset_bounds-hops-at : goal.offset_bounds-hops-at
offset_bounds-hops-at c =
    let within : c.in-Ok.at < length c.args.hops.now = let w = c.requires.well_formed_list in
    place_within _ _ w _ _ (sym (c.place_of.ensures (keys_ascend _ _ w)) ∙ c.in-Ok.is) in
    omega (arith, within)

pub bounds-hops-at : goal.bounds-hops-at
bounds-hops-at c =
    let within : c.in-Ok.at < length c.args.hops.now = let w = c.requires.well_formed_list in
    place_within _ _ w _ _ (sym (c.place_of.ensures (keys_ascend _ _ w)) ∙ c.in-Ok.is) in
    within

pub returns-in-Ok : goal.returns-in-Ok
returns-in-Ok c =
    let w = c.requires.well_formed_list in
    let inv = c.loop-shorter.invariant in
    place_hop _ _ w _ _ _ inv.0 inv.1 (omega arith) _ c.clue_key.ensures _
    (sym (c.place_of.ensures (keys_ascend _ _ w)) ∙ c.in-Ok.is)

pub loop-shorter-preserved : goal.loop-shorter-preserved
loop-shorter-preserved c =
    let w = c.requires.well_formed_list in
    let inv = c.loop-shorter.invariant in (
      omega arith,
      place_missing _ _ w _ _ _ inv.0 inv.1 (omega arith) _ c.clue_key.ensures _
          (sym (c.place_of.ensures (keys_ascend _ _ w)) ∙ c.in_default.is),
    )

pub returns : goal.returns
returns c =
    let none : c.loop-shorter.shorter ≡ 0 = omega arith in
    sym (c.loop-shorter.invariant.1 ∙ rw none (shorter_none _ _))
