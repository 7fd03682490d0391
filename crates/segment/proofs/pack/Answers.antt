-- `segment::pack` meets its contract: the pair check's number, or, where the pair agrees, what packing the segment's blocks gives.
-- Assumes nothing.
use native.Mathlib.Omega.{arith}
use Rattle.segment.proofs.PackLaws.{refused_pair}
use Rattle.segment.proofs.PackAgreed.{pair_keys, pair_starts, pair_rhops, pair_ready, pair_packed}
use Rattle.segment.proofs.pack.Goals as goal

pub returns-in_err-pair_check : goal.returns-in_err-pair_check
returns-in_err-pair_check c =
    let was = c.in_err-pair_check.was in
    refused_pair _ _ _ _ _ _ _ (rw was at c.pair_check.ensures) c.from_residual.ensures.1

pub slice_bounds-pack_segment-end : goal.slice_bounds-pack_segment-end
slice_bounds-pack_segment-end c = pair_keys _ c.pair_check.ensures c.in_ok-pair_check.was

pub slice_bounds-pack_segment-end-2 : goal.slice_bounds-pack_segment-end-2
slice_bounds-pack_segment-end-2 c = pair_starts _ c.pair_check.ensures c.in_ok-pair_check.was

pub slice_bounds-pack_segment-end-3 : goal.slice_bounds-pack_segment-end-3
slice_bounds-pack_segment-end-3 c = pair_rhops _ c.pair_check.ensures c.in_ok-pair_check.was

pub pack_segment-requires : goal.pack_segment-requires
pack_segment-requires c = pair_ready _ c.pair_check.ensures c.in_ok-pair_check.was _ _ c.from.ensures (omega (arith, c.ranges.q.fits))

pub returns : goal.returns
returns c = pair_packed _ c.pair_check.ensures c.in_ok-pair_check.was _ _ c.from.ensures (omega (arith, c.ranges.q.fits)) _ c.pack_segment.ensures
