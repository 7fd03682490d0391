-- Invariants and measures.
-- Assumes nothing.
use Prim.Native.Nat.{ℕ, ◌≤◌, ◌<◌}
use lib.ListN.{get_or}
use Rattle.sweep.proofs.close_ended.Given as goal

abbrev pub invariant-loop-last : goal.invariant-loop-last
invariant-loop-last l = (i : ℕ) → l.last ≤ i → i < l.depth → get_or l.ends i 0 ≤ l.to
