-- `clue::build` meets its contract: 15 where a length is above 32, 11 where the list test fails, 13 where the entries don't fit, and else
-- what `write` leaves, over the slices cut to the count.
-- Assumes nothing.
use Rattle.std.proofs.Common.{sym, arith}
use borrow.Author.Tests.{leb-true, leb-false}
use Rattle.entries.proofs.Cut.{list_test, cut_keys, cut_hops, cut_list, cut_well}
use Rattle.clue.proofs.BuildOutcomes.{build_long, build_ill, build_full, build_done}
use Rattle.clue.proofs.build.Goals as goal

pub returns-in_default : goal.returns-in_default
returns-in_default c = build_long _ _ _ _ c.in_default.ensures

pub returns-then-not-list_ok : goal.returns-then-not-list_ok
returns-then-not-list_ok c = build_ill _ _ _ _ c.in-Some.ensures.short (list_test _ _ _ _ c.if-not-list_ok.ensures)

pub returns-then-not-fit : goal.returns-then-not-fit
returns-then-not-fit c =
    build_full _ _ _ _ c.in-Some.ensures.short (list_test _ _ _ _ c.if-not-list_ok.ensures) c.in-Some.ensures.keys
    (omega (arith, leb-false _ _ (sym c.if-not-fit.ensures), c.entry_room-room.ensures))

pub slice_bounds-write-end : goal.slice_bounds-write-end
slice_bounds-write-end c = cut_keys _ _ _ (list_test _ _ _ _ c.if-not-list_ok.ensures)

pub slice_bounds-write-end-2 : goal.slice_bounds-write-end-2
slice_bounds-write-end-2 c = cut_hops _ _ _ (list_test _ _ _ _ c.if-not-list_ok.ensures)

pub write-n-requires-clause-well_formed_list : goal.write-n-requires-clause-well_formed_list
write-n-requires-clause-well_formed_list c = cut_well _ _ _ (list_test _ _ _ _ c.if-not-list_ok.ensures)

pub returns : goal.returns
returns c =
    let well = list_test _ c.args.count c.args.keys.now c.args.hops.now c.if-not-list_ok.ensures in
    build_done _ _ _ _ c.in-Some.ensures.short well c.in-Some.ensures.keys _
    (omega (arith, leb-true _ _ (sym c.if-not-fit.ensures), c.entry_room-room.ensures))
    (cut_list _ _ _ well)
    c.write-n.ensures.count
    c.write-n.ensures.entries_written
