-- `sweep::top_hop` meets its contract: the last of the first `depth` open hops, or the base where there is none.
-- Assumes nothing.
use mathlib.Core.Path.{◌≡◌, refl, sym, ap, ◌∙◌}
use mathlib.Core.List.{List, [], ◌∷◌, ◌++◌}
use Prim.Native.Nat.{ℕ, suc, ◌-◌, ◌≤◌, ◌<◌}
use native.Mathlib.Omega.{arith}
use lib.ListN.{length, get_or, take}
use lib.Seq.{take-suc}
use Rattle.sweep.specs.Sweep.{last_or}
use Rattle.sweep.proofs.top_hop.Goals as goal

last_snoc : (h : ℕ) (xs : List ℕ) (x : ℕ) → last_or h (xs ++ x ∷ []) ≡ x
unfolding last_or
last_snoc h [] x = refl
last_snoc h (y ∷ xs) x = last_snoc y xs x

top_is : (base depth : ℕ) (open-hops : List ℕ) → 0 < depth → depth ≤ length open-hops
    → get_or open-hops (depth - 1) 0 ≡ last_or base (take depth open-hops)
top_is base depth open-hops pos l =
    let one : depth ≡ suc (depth - 1) = omega arith in
    sym
    (ap (λ n. last_or base (take n open-hops)) one
    ∙ rw (take-suc open-hops (depth - 1) 0 (omega arith)) (last_snoc base (take (depth - 1) open-hops) _))

top_none : (base depth : ℕ) (open-hops : List ℕ) → depth ≡ 0 → base ≡ last_or base (take depth open-hops)
unfolding last_or
top_none base depth open-hops e = rw e

pub returns-then-depth-eq0 : goal.returns-then-depth-eq0
returns-then-depth-eq0 c = let a = c.args in top_none a.base a.depth a.open_hops.now c.if-depth-eq0.true

pub returns-else-depth-eq0 : goal.returns-else-depth-eq0
returns-else-depth-eq0 c = let a = c.args in top_is a.base a.depth a.open_hops.now (omega arith) (omega arith)
