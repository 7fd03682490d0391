-- The keys and the hops at the places so far stand at the front of their slices (`Filling`).
-- Assumes nothing.
use Rattle.std.proofs.Common.{get_or}
use Rattle.why.proofs.Walking.{Filling}
use Rattle.why.proofs.gather.Given as goal

abbrev pub invariant-loop-i : goal.invariant-loop-i
invariant-loop-i l =
    Filling (λ at. get_or l.keys at 0) l.found l.initial.held_keys l.i l.held_keys
    × Filling (λ at. get_or l.hops at 0) l.found l.initial.held_hops l.i l.held_hops
