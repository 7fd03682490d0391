-- The hops of n blocks: there are as many as bits are 1, and the place of block b's hop is one less than how many of the bits 0 to b are 1.
-- If bit b is 1, block b itself is picked there, one hop more than before. Else block b has the hop and the place of the block before.
-- Assumes nothing.
use mathlib.Core.Path.{◌≡◌, sym, ap, ◌∙◌}
use mathlib.Core.Bool.{Bool, true, false, cond}
use mathlib.Core.Logic.{⊎_elim}
use mathlib.Core.List.{List, [], ◌∷◌, ◌++◌, map, map-append, append-nil}
use Prim.Native.Nat.{ℕ, zero, suc, ◌+◌, ◌-◌, ◌≤◌, ◌<◌}
use native.Mathlib.Nat.{zero-add}
use native.Mathlib.Numerals.{add-one}
use native.Mathlib.Omega.{arith}
use lib.ListN.{length, get_or, length-map}
use borrow.Author.Tests.{lt-ltb}
use Rattle.ground.specs.Stretch.{picked, counted, keep}
use Rattle.ground.specs.Stretch.Laws.{picked_none, picked_suc, picked_cut, picked_is}
use Rattle.ground.specs.Stretch.Count.{counted_is, counted_suc, counted_cut, picked_at}
use Rattle.ground.specs.Stretch.Turns.{turns_at_first, same_of_stays}
use Rattle.ground.proofs.Map.{get_d_map}
use Rattle.ground.proofs.Truth.{decided}
use Rattle.segment.specs.Packed.{bit, kept_hops}

-- one number more at the end
picked_more : (p : ℕ → Bool) (b : ℕ) → picked p 0 (b + 1) ≡ picked p 0 b ++ keep (p b) b []
picked_more p b = rw (picked_cut, zero-add) (ap (picked p 0 b ++◌) (picked_suc p b 0 ∙ rw picked_none))

pub counted_more : (p : ℕ → Bool) (b : ℕ) → counted p 0 (b + 1) ≡ counted p 0 b + cond (p b) 1 0
counted_more p b = rw (counted_cut, zero-add) (omega (arith, counted_suc p b 0, counted_is p (suc b) 0, ap length (picked_none p (suc b))))

-- the hops kept of the blocks before block b
abbrev pub hops_to : (ℕ → ℕ) → ℕ → ℕ → List ℕ
hops_to hop n b = map hop (picked (bit hop n) 0 b)

module _ (hop : ℕ → ℕ) (n b : ℕ) where
  pub length_hops_to : length (hops_to hop n b) ≡ counted (bit hop n) 0 b
  length_hops_to = rw (length-map, counted_is)

  pub hops_to_one : bit hop n b ≡ true → hops_to hop n (b + 1) ≡ hops_to hop n b ++ hop b ∷ []
  hops_to_one e = rw (picked_more, e, map-append)

  pub hops_to_zero : bit hop n b ≡ false → hops_to hop n (b + 1) ≡ hops_to hop n b
  hops_to_zero e = rw (picked_more, e, append-nil)

module _ (hop : ℕ → ℕ) (n : ℕ) where
  pub kept_hops_is : kept_hops hop n ≡ hops_to hop n n
  unfolding kept_hops
  kept_hops_is = rw picked_is

  pub length_kept_hops : length (kept_hops hop n) ≡ counted (bit hop n) 0 n
  length_kept_hops = rw (kept_hops_is, length_hops_to)

  first_bit : 0 < n → bit hop n 0 ≡ true
  unfolding bit
  first_bit some = rw (lt-ltb 0 n some) (turns_at_first 0 hop)

  module _ (b : ℕ) (l : b < n) where
    -- a bit that is 0 is that of a block with the hop of the block before
    same_hop : bit hop n b ≡ false → hop b ≡ hop (b - 1)
    unfolding bit
    same_hop e = same_of_stays 0 hop b (rw (lt-ltb b n l) at e)

    -- one more than the place of block b
    pub some_through : 0 < counted (bit hop n) 0 (b + 1)
    some_through = rw (add-one, counted_suc, first_bit (omega arith)) (omega arith)

    pub through_at_most : counted (bit hop n) 0 (b + 1) ≤ counted (bit hop n) 0 n
    through_at_most =
        let whole : n ≡ (b + 1) + (n - (b + 1)) = omega arith in
        omega (arith, ap (counted (bit hop n) 0) whole, counted_cut (bit hop n) 0 (b + 1) (n - (b + 1)))

  -- where bit b is 1, block b is picked at its place
  at_one : (b : ℕ) → b < n → bit hop n b ≡ true → get_or (picked (bit hop n) 0 n) (counted (bit hop n) 0 (b + 1) - 1) 0 ≡ b
  at_one b l e =
      let place : counted (bit hop n) 0 (b + 1) - 1 ≡ counted (bit hop n) 0 b = rw (counted_more, e) (omega arith) in
      rw place (picked_at (bit hop n) 0 n b b (omega arith) l e).1

  picked_hop : (b : ℕ) → b < n → hop (get_or (picked (bit hop n) 0 n) (counted (bit hop n) 0 (b + 1) - 1) 0) ≡ hop b
  picked_hop zero l = ap hop (at_one 0 l (first_bit l))
  picked_hop (suc b) l = ⊎_elim
      (λ (e : bit hop n (suc b) ≡ true). ap hop (at_one (suc b) l e))
      (λ (e : bit hop n (suc b) ≡ false).
      let same : counted (bit hop n) 0 (suc b + 1) ≡ counted (bit hop n) 0 (b + 1) = rw (counted_more, e, add-one) (omega arith) in
      let back : suc b - 1 ≡ b = omega arith in
      rw same (picked_hop b (omega arith)) ∙ sym (rw back at (same_hop (suc b) l e)))
      (decided (bit hop n (suc b)))

  pub hop_through : (b : ℕ) → b < n → get_or (kept_hops hop n) (counted (bit hop n) 0 (b + 1) - 1) 0 ≡ hop b
  hop_through b l =
      rw kept_hops_is (get_d_map hop (picked (bit hop n) 0 n) _ (rw (← counted_is) (omega (arith, some_through b l, through_at_most b l))))
      ∙ picked_hop b l
