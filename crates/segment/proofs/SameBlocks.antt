-- Packing looks at the hops of its n blocks and at no others: two ways to give a block its hop that agree on them are packed alike. And
-- the hop that the walk finds in a run table is the table's answer.
-- Assumes nothing.
use mathlib.Core.Path.{◌≡◌, refl, ◌∙◌, fun_ext}
use mathlib.Core.Logic.{⊎_elim}
use mathlib.Core.Bool.{Bool, true, false, not, ◌&&◌, ◌||◌}
use mathlib.Core.List.{List, map}
use Prim.Native.Nat.{ℕ, zero, suc, ◌+◌, ◌-◌, ◌^◌, ◌≤◌, ◌<◌}
use native.Mathlib.Omega.{arith}
use lib.ListN.{length, get_or}
use lib.Dec.{ltb, eqb}
use borrow.Author.Tests.{ltb-true, ltb-false}
use Rattle.ground.proofs.Truth.{decided}
use Rattle.ground.proofs.Ascends.{ascends_of}
use Rattle.ground.proofs.Lower.{lower_le, lower_within, lower_beyond}
use Rattle.ground.specs.Column.{ascends}
use Rattle.ground.specs.Stretch.{stretch, among, keep, turns_from}
use Rattle.cidr.specs.Prefix.{addresses}
use Rattle.runs.specs.Table.{RunTable}
use Rattle.segment.specs.Packed.{bit, code_words, kept_hops}
use Rattle.segment.specs.Pack.{PackLent}
use Rattle.segment.specs.Inside.Blocks.{Runs, begun, hop_at, room_checks, pack_blocks}
use Rattle.segment.proofs.Walking.{some_begun}

module _ (hop hop' : ℕ → ℕ) (n : ℕ) (agree : (b : ℕ) → b < n → hop b ≡ hop' b) where
  same_bit : (b : ℕ) → bit hop n b ≡ bit hop' n b
  unfolding bit turns_from
  same_bit b = go (ltb b n) refl
    where
      go : (z : Bool) → ltb b n ≡ z
          → (z && (eqb b 0 || not (eqb (hop b) (hop (b - 1))))) ≡ (z && (eqb b 0 || not (eqb (hop' b) (hop' (b - 1)))))
      go true e = let l = ltb-true b n e in rw (agree b l, agree (b - 1) (omega arith))
      go false e = refl

  same_bits : bit hop n ≡ bit hop' n
  same_bits = fun_ext same_bit

  same_kept : (p : ℕ → Bool) (lo m : ℕ) → lo + m ≤ n → map hop (among p (stretch lo m)) ≡ map hop' (among p (stretch lo m))
  unfolding among stretch
  same_kept p lo zero l = refl
  same_kept p lo (suc m) l = go (p lo) (same_kept p (suc lo) m (omega arith))
    where
      go : (z : Bool) → map hop (among p (stretch (suc lo) m)) ≡ map hop' (among p (stretch (suc lo) m))
          → map hop (keep z lo (among p (stretch (suc lo) m))) ≡ map hop' (keep z lo (among p (stretch (suc lo) m)))
      go true e = rw (agree lo (omega arith), e)
      go false e = e

  pub same_words : code_words hop n ≡ code_words hop' n
  unfolding code_words
  same_words = rw same_bits

  pub same_hops : kept_hops hop n ≡ kept_hops hop' n
  unfolding kept_hops
  same_hops = same_kept (bit hop n) 0 n (omega arith) ∙ rw same_bits

pub same_packed : (w : ℕ) (hop hop' : ℕ → ℕ) → ((b : ℕ) → b < 2 ^ w → hop b ≡ hop' b) → (l : PackLent)
    → pack_blocks w hop l ≡ pack_blocks w hop' l
unfolding pack_blocks room_checks
same_packed w hop hop' agree l = rw (same_words hop hop' (2 ^ w) agree, same_hops hop hop' (2 ^ w) agree)

module _ {f : ℕ → ℕ} {starts rhops : List ℕ} (t : RunTable f starts rhops) where
  pub table_runs : Runs starts rhops
  table_runs = record { paired = t.paired; some_run = t.some_run; first = t.first; ascend = ascends_of starts t.ascend }

  -- the hop of the last run that has begun is the answer
  pub table_hop : (a : ℕ) → a < addresses → hop_at starts rhops a ≡ f a
  unfolding hop_at
  table_hop a l = t.answers (begun starts a - 1) a (omega (arith, some, upto)) at_most l next
    where
      asc : ascends starts ≡ true
      asc = table_runs.ascend

      some : 0 < begun starts a
      some = some_begun table_runs a

      upto : begun starts a ≤ length starts
      upto = lower_le (a + 1) starts

      at_most : get_or starts (begun starts a - 1) 0 ≤ a
      at_most = ⊎_elim
          (λ e. omega (arith, ltb-true (get_or starts (begun starts a - 1) 0) (a + 1) e))
          (λ e. absurd
          (omega (arith, some, lower_beyond (a + 1) starts asc (begun starts a - 1) (omega (arith, some, upto)) (ltb-false _ _ e))))
          (decided (ltb (get_or starts (begun starts a - 1) 0) (a + 1)))

      next : begun starts a - 1 + 1 < length starts → a < get_or starts (begun starts a - 1 + 1) 0
      next m = ⊎_elim
          (λ e. absurd (omega (arith, lower_within (a + 1) starts asc (begun starts a - 1 + 1) m (ltb-true _ _ e))))
          (λ e. omega (arith, ltb-false (get_or starts (begun starts a - 1 + 1) 0) (a + 1) e))
          (decided (ltb (get_or starts (begun starts a - 1 + 1) 0) (a + 1)))
