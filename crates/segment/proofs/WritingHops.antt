-- The loop that writes the kept hops: what stands in the slice are the hops kept of the blocks before the loop's block, and then the slots
-- as they were. A block whose bit is 1 is one hop more, for which there is room, since all kept hops have room.
-- Assumes nothing.
use mathlib.Core.Path.{◌≡◌, sym, ap, ◌∙◌}
use mathlib.Core.List.{List, [], ◌∷◌}
use mathlib.Core.Bool.{Bool, true, false, not}
use lib.Dec.{eqb}
use Prim.Native.Nat.{ℕ, ◌+◌, ◌≤◌, ◌<◌}
use native.Mathlib.Omega.{arith}
use lib.ListN.{length, set, length-set}
use Rattle.ground.proofs.Slots.{written_more}
use Rattle.ground.specs.Slots.{written}
use Rattle.ground.specs.Stretch.Laws.{picked_none}
use Rattle.segment.specs.declared.Walk.{Walk}
use Rattle.segment.specs.Packed.{kept_hops}
use Rattle.segment.specs.Inside.Blocks.{Runs, hop_in, Stands, Before, Grid}
use Rattle.segment.proofs.KeptHops.{hops_to, length_hops_to, hops_to_one, hops_to_zero}
use Rattle.segment.proofs.KeptHops.{kept_hops_is, length_kept_hops, through_at_most}
use Rattle.segment.proofs.AtBlock.{some_block, hop_here, bit_here}
use Rattle.segment.proofs.Walking.{bit_first}
use Rattle.segment.proofs.CountingHops.{Counting, counting_start, counting_kept, counting_same}

pub record Writing (starts rhops : List ℕ) (base size n : ℕ) (s : Walk) (at block kept : ℕ) (out₀ out : List ℕ) : Type 0 where
  pub counting : Counting starts rhops base size n s at block kept
  pub room : length (kept_hops (hop_in starts rhops base size) n) ≤ length out₀
  pub as_long : length out ≡ length out₀
  pub hops_are : out ≡ written (hops_to (hop_in starts rhops base size) n block) out₀

module _ (hop : ℕ → ℕ) (n : ℕ) (some : 0 < n) where
  -- the hop of the first block is kept
  first_kept : hops_to hop n (0 + 1) ≡ hop 0 ∷ []
  first_kept = hops_to_one hop n 0 (bit_first hop n some) ∙ rw picked_none

  some_kept : 0 < length (kept_hops hop n)
  some_kept = omega (arith, ap length first_kept, length_hops_to hop n (0 + 1), through_at_most hop n 0 some, length_kept_hops hop n)

pub first_fits : (starts rhops : List ℕ) (base size n : ℕ) {m : ℕ} → Grid base size n → length (kept_hops (hop_in starts rhops base size) n) ≤ m → 0 < m
first_fits starts rhops base size n g room = omega (arith, some_kept (hop_in starts rhops base size) n (some_block g))

first_hop : {starts rhops : List ℕ} {base size : ℕ} {s : Walk} → Before starts rhops base size 0 s → s.hop ≡ hop_in starts rhops base size 0
unfolding hop_in
first_hop b = b.stands.hop_is

module _ {starts rhops : List ℕ} {base size n : ℕ} {s : Walk} {out₀ : List ℕ} where
  -- after the first block, whose hop is written
  pub writing_start : Runs starts rhops → Grid base size n → Before starts rhops base size 0 s
      → length (kept_hops (hop_in starts rhops base size) n) ≤ length out₀ → {hop : ℕ} → hop ≡ s.hop
      → Writing starts rhops base size n s base 1 1 out₀ (set out₀ 0 hop)
  unfolding written
  writing_start t g b room {hop} is = record {
    counting = counting_start t g b;
    room = room;
    as_long = length-set out₀ 0 hop;
    hops_are =
        rw (first_kept (hop_in starts rhops base size) n (some_block g), ← first_hop b, ← is)
        (written_more [] out₀ hop (omega (arith, room, some_kept (hop_in starts rhops base size) n (some_block g))));
  }

  module _ {at block kept : ℕ} {out : List ℕ} (w : Writing starts rhops base size n s at block kept out₀ out) where
    pub all_written : block ≡ n → out ≡ written (kept_hops (hop_in starts rhops base size) n) out₀
    all_written end =
        let hop = hop_in starts rhops base size in
        w.hops_are ∙ ap (λ b. written (hops_to hop n b) out₀) end ∙ rw kept_hops_is

    module _ (l : block < n) {next : Walk} (st : Stands starts rhops (at + size) next) {z : Bool}
        (f : z ≡ not (eqb next.hop s.hop)) where
      module _ (e : z ≡ true) where
        one_more : kept < length (kept_hops (hop_in starts rhops base size) n)
        one_more =
            let hop = hop_in starts rhops base size in
            omega (arith, (counting_kept w.counting l st f e).count, through_at_most hop n block l, length_kept_hops hop n)

        pub hop_fits : kept < length out
        hop_fits = omega (arith, one_more, w.room, w.as_long)

        pub writing_kept : Writing starts rhops base size n next (at + size) (block + 1) (kept + 1) out₀ (set out kept next.hop)
        writing_kept = record {
          counting = counting_kept w.counting l st f e;
          room = w.room;
          as_long = length-set out kept next.hop ∙ w.as_long;
          hops_are =
              rw (w.hops_are, hop_here w.counting.at_block st, so_far, written_more (hops_to hop n block) out₀ (hop block) below)
              (rw (hops_to_one hop n block (bit_here w.counting.at_block st l f ∙ e)));
        }
          where
            hop : ℕ → ℕ
            hop = hop_in starts rhops base size

            so_far : kept ≡ length (hops_to hop n block)
            so_far = w.counting.count ∙ sym (length_hops_to hop n block)

            below : length (hops_to hop n block) < length out₀
            below = omega (arith, so_far, one_more, w.room)

      pub writing_same : z ≡ false → Writing starts rhops base size n next (at + size) (block + 1) kept out₀ out
      writing_same e = record {
        counting = counting_same w.counting l st f e;
        room = w.room;
        as_long = w.as_long;
        hops_are = rw (hops_to_zero _ _ _ (bit_here w.counting.at_block st l f ∙ e)) w.hops_are;
      }
