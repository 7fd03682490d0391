-- `text::put_rows` meets its contract: there is room for the text ahead, and once that is put the whole text is there.
-- Assumes nothing.
use Rattle.std.proofs.Common.{length, take, sym}
use Rattle.std.proofs.lemmas.List.{length_push}
use Rattle.std.proofs.lemmas.Slice.Zip.{zip_turn, zip_end}
use Rattle.text.proofs.Along.{Turn, keys_long, at_turn, turns_over, putting_start, row_fits, putting_next, putting_end}
use Rattle.text.proofs.put_rows.Goals as goal
use Rattle.text.proofs.put_rows.Goals.{In-Some}

turn : (c : In-Some) → Turn c.args.count c.args.keys.now c.args.hops.now (length c.loop-key.yielded) c.in-Some.key.now c.in-Some.hop.now
turn c =
    at_turn _ _ _ c.requires.hops_value
    (zip_turn (take c.args.count c.args.keys.now) c.args.hops.now c.loop-key.yielded c.into_iter-key-iterator.result _ c.next.new.self _ (cc) (cc) c.loop-key.yielded_by _ c.in-Some.is
    c.next.ensures.steps)

pub slice_bounds-iter-end : goal.slice_bounds-iter-end
slice_bounds-iter-end c = sym (keys_long _ _ _ c.requires.hops_value)

pub loop-key-init : goal.loop-key-init
loop-key-init c = putting_start _ _ _ _ c.requires.hops_in_bounds

pub row-at-requires : goal.row-at-requires
row-at-requires c = row_fits c.requires.hops_value c.loop-key.invariant (turn (goal.at.row-at-requires c).In-Some)

pub loop-key-preserved : goal.loop-key-preserved
loop-key-preserved c =
    rw length_push
    (putting_next c.requires.hops_value c.loop-key.invariant (turn (goal.at.loop-key-preserved c).In-Some) c.row-at.ensures)

pub returns : goal.returns
returns c =
    putting_end c.requires.hops_value c.loop-key.invariant
    (turns_over _ _ _ c.requires.hops_value
    (zip_end (take c.args.count c.args.keys.now) c.args.hops.now c.loop-key.yielded c.into_iter-key-iterator.result _ c.next.new.self _ (cc) (cc) c.loop-key.yielded_by c.in-None.is
    c.next.ensures.steps))
