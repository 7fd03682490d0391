-- The loop that counts the kept hops: it stands before a block, and of the blocks before it as many hops are kept as bits are 1. A block is
-- one hop more where the walk finds another hop, and no hop more else.
-- Assumes nothing.
use mathlib.Core.Path.{◌≡◌, ap}
use mathlib.Core.Bool.{Bool, true, false, not}
use mathlib.Core.List.{List}
use Prim.Native.Nat.{ℕ, ◌+◌, ◌≤◌, ◌<◌}
use native.Mathlib.Omega.{arith}
use lib.ListN.{length}
use lib.Dec.{eqb}
use Rattle.ground.specs.Stretch.{counted}
use Rattle.ground.specs.Stretch.Laws.{picked_none}
use Rattle.ground.specs.Stretch.Count.{counted_is, counted_at_most}
use Rattle.segment.specs.declared.Walk.{Walk}
use Rattle.segment.specs.Packed.{bit, kept_hops}
use Rattle.segment.specs.Inside.Blocks.{Runs, hop_in, Stands, Before, Grid}
use Rattle.segment.proofs.KeptHops.{counted_more, length_kept_hops}
use Rattle.segment.proofs.Walking.{bit_first}
use Rattle.segment.proofs.AtBlock.{AtBlock, some_block, at_next, bit_here}

pub record Counting (starts rhops : List ℕ) (base size n : ℕ) (s : Walk) (at block kept : ℕ) : Type 0 where
  pub at_block : AtBlock starts rhops base size n s at block
  pub count : kept ≡ counted (bit (hop_in starts rhops base size) n) 0 block

module _ {starts rhops : List ℕ} {base size n : ℕ} {s : Walk} where
  -- after the first block, whose hop is kept
  pub counting_start : Runs starts rhops → Grid base size n → Before starts rhops base size 0 s → Counting starts rhops base size n s base 1 1
  counting_start t g w = record {
    at_block = record { runs = t; grid = g; some = omega arith; there = omega arith; walk = record { stands = w.stands } };
    count = rw (counted_more (bit (hop_in starts rhops base size) n) 0, bit_first (hop_in starts rhops base size) n (some_block g), counted_is, picked_none);
  }

  module _ {at block kept : ℕ} (k : Counting starts rhops base size n s at block kept) where
    pub few_kept : kept ≤ block
    few_kept = omega (arith, k.count, counted_at_most (bit (hop_in starts rhops base size) n) 0 block)

    pub all_counted : block ≡ n → kept ≡ length (kept_hops (hop_in starts rhops base size) n)
    all_counted end =
        let hop = hop_in starts rhops base size in
        omega (arith, k.count, ap (counted (bit hop n) 0) end, length_kept_hops hop n)

    module _ (l : block < n) {next : Walk} (st : Stands starts rhops (at + size) next) {z : Bool}
        (f : z ≡ not (eqb next.hop s.hop)) where
      pub counting_kept : z ≡ true → Counting starts rhops base size n next (at + size) (block + 1) (kept + 1)
      counting_kept e = record { at_block = at_next k.at_block st; count = rw (counted_more, bit_here k.at_block st l f, e, k.count) }

      pub counting_same : z ≡ false → Counting starts rhops base size n next (at + size) (block + 1) kept
      counting_same e = record { at_block = at_next k.at_block st; count = rw (counted_more, bit_here k.at_block st l f, e, k.count) (omega arith) }
