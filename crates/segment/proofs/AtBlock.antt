-- A loop over the blocks of a segment stands before a block other than the first. The walk goes on to it, and finds another hop exactly
-- where the block's bit is 1. Each block ends in the segment, so the addresses fit.
-- Assumes nothing.
use mathlib.Core.Path.{◌≡◌}
use mathlib.Core.Bool.{Bool, not}
use mathlib.Core.List.{List}
use Prim.Native.Nat.{ℕ, zero, suc, ◌+◌, ◌-◌, ◌*◌, ◌≤◌, ◌<◌}
use native.Mathlib.Nat.{mul-le-mul_right}
use native.Mathlib.Omega.{arith}
use lib.ListN.{get_or}
use lib.Dec.{eqb}
use Rattle.segment.specs.declared.Walk.{Walk}
use Rattle.segment.specs.Inside.Blocks.{Runs, begun, hop_in, Stands, Before, Grid}
use Rattle.segment.specs.Packed.{bit}
use Rattle.segment.proofs.Walking.{one_more, may_go_on, hop_kept, bit_found, stands_before}

-- a block ends where all blocks end, or before
pub block_fits : {base size n : ℕ} → Grid base size n → (b : ℕ) → b < n → base + b * size + size ≤ 4294967296
block_fits {base} {size} {n} g b l =
    let next : b + 1 ≤ n = omega arith in omega (arith, g.within, g.whole, mul-le-mul_right {m = b + 1} {n = n} size next)

-- a segment has a block
pub some_block : {base size n : ℕ} → Grid base size n → 0 < n
some_block {size = size} {n} g = go n g.whole
  where
    go : (n : ℕ) → n * size ≡ 65536 → 0 < n
    go zero e = absurd (omega arith)
    go (suc n) e = omega arith

pub record AtBlock (starts rhops : List ℕ) (base size n : ℕ) (s : Walk) (at block : ℕ) : Type 0 where
  pub runs : Runs starts rhops
  pub grid : Grid base size n
  pub some : 0 < block
  pub there : at ≡ base + (block - 1) * size
  pub walk : Before starts rhops base size block s

module _ {starts rhops : List ℕ} {base size n at block : ℕ} {s : Walk} (a : AtBlock starts rhops base size n s at block) where
  on : at + size ≡ base + block * size
  on = omega (arith, a.there, one_more block size a.some)

  -- the walk may go on to the block
  pub may_go : Runs starts rhops × (s.begun ≤ begun starts (at + size)) × (s.hop ≡ get_or rhops (s.begun - 1) 0)
  may_go = (a.runs, rw on (may_go_on a.walk a.some), hop_kept a.walk)

  pub next_fits : block < n → at + size ≤ 4294967296
  next_fits l = omega (arith, on, block_fits a.grid block l)

  module _ {next : Walk} (st : Stands starts rhops (at + size) next) where
    stands : Stands starts rhops (base + block * size) next
    stands = rw on at st

    pub at_next : AtBlock starts rhops base size n next (at + size) (block + 1)
    at_next =
        let back : block + 1 - 1 ≡ block = omega arith in
        record { runs = a.runs; grid = a.grid; some = omega arith; there = rw back on; walk = stands_before starts rhops base size block stands }

    pub hop_here : next.hop ≡ hop_in starts rhops base size block
    unfolding hop_in
    hop_here = stands.hop_is

    pub bit_here : block < n → {z : Bool} → z ≡ not (eqb next.hop s.hop) → bit (hop_in starts rhops base size) n block ≡ z
    bit_here l = bit_found a.walk a.some l stands
