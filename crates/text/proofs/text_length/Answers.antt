-- `text::text_length` meets its contract.
-- Assumes nothing.
use Rattle.std.proofs.Common.{arith, length, take, sym}
use Rattle.std.proofs.lemmas.List.{length_push}
use Rattle.std.proofs.lemmas.Slice.Zip.{zip_turn, zip_end}
use Rattle.text.proofs.Along.{Turn, keys_long, at_turn, turns_over, in_top, network_small, counting_start, counting_next, counting_end}
use Rattle.text.proofs.text_length.Goals as goal
use Rattle.text.proofs.text_length.Goals.{In-Some}

turn : (c : In-Some) → Turn c.args.count c.args.keys.now c.args.hops.now (length c.loop-key.yielded) c.in-Some.key.now c.in-Some.hop.now
turn c =
    at_turn _ _ _ c.requires
    (zip_turn (take c.args.count c.args.keys.now) c.args.hops.now c.loop-key.yielded c.into_iter-key-iterator.result _ c.next.new.self _ (cc) (cc) c.loop-key.yielded_by _ c.in-Some.is
    c.next.ensures.steps)

pub slice_bounds-iter-end : goal.slice_bounds-iter-end
slice_bounds-iter-end c = sym (keys_long _ _ _ c.requires)

pub loop-key-init : goal.loop-key-init
loop-key-init c = counting_start _ _ _

pub of_row-bytes-requires : goal.of_row-bytes-requires
of_row-bytes-requires c =
    let t = turn (goal.at.of_row-bytes-requires c).In-Some in
    rw t.key_is (network_small _ _ _ c.requires _ t.ahead)

pub overflow_add-bytes : goal.overflow_add-bytes
overflow_add-bytes c =
    let t = turn (goal.at.overflow_add-bytes c).In-Some in
    omega (arith, in_top _ _ _ c.requires, c.loop-key.invariant.few, t.ahead, c.of_row-bytes.ensures.1)

pub loop-key-preserved : goal.loop-key-preserved
loop-key-preserved c =
    let t = turn (goal.at.loop-key-preserved c).In-Some in
    rw length_push (counting_next c.requires c.loop-key.invariant t c.of_row-bytes.ensures.0 c.of_row-bytes.ensures.1)

pub returns : goal.returns
returns c =
    counting_end c.requires c.loop-key.invariant
    (turns_over _ _ _ c.requires
    (zip_end (take c.args.count c.args.keys.now) c.args.hops.now c.loop-key.yielded c.into_iter-key-iterator.result _ c.next.new.self _ (cc) (cc) c.loop-key.yielded_by c.in-None.is
    c.next.ensures.steps))
