-- The two seams as the code finds them. Where net isn't 0 a run begins below it, so there is one before it; and some run begins up to end. The
-- run at net joins the one before exactly if it has its hop, and the block goes one slot up unless the run at end joins the one before it.
-- Assumes nothing.
use mathlib.Core.Path.{◌≡◌, sym, ap, ◌∙◌}
use mathlib.Core.Bool.{Bool, true, false, cond, ◌||◌}
use mathlib.Core.List.{List}
use Prim.Native.Nat.{ℕ, ◌+◌, ◌-◌, ◌≤◌, ◌<◌}
use native.Mathlib.Omega.{arith}
use lib.ListN.{length, get_or}
use lib.Dec.{eqb, leb}
use borrow.Author.Tests.{eq-eqb, ne_eqb, lt-ltb, le-ltb, le-leb, lt-leb}
use Rattle.ground.specs.Column.{lower}
use Rattle.ground.proofs.Lower.{lower_within, lower_le}
use Rattle.within.specs.declared.inside.Middle.{Middle}
use Rattle.plan.specs.declared.joins.Joint.{Joint}
use Rattle.plan.specs.declared.table.Splice.{Splice}
use Rattle.plan.specs.Joints.{OldTable, joins_behind, Jointed, Seamed}

pub at_most_one : (b : Bool) → cond b 0 1 ≤ 1
at_most_one true = omega arith
at_most_one false = omega arith

-- where the block goes
module _ (after end hop last : ℕ) where
  pub slot_past : 4294967296 ≤ end → after ≡ after + cond (leb 4294967296 end || eqb hop last) 0 1
  slot_past l = rw (le-leb 4294967296 end l) (omega arith)

  pub slot_same : end < 4294967296 → hop ≡ last → after ≡ after + cond (leb 4294967296 end || eqb hop last) 0 1
  slot_same l e = rw (lt-leb 4294967296 end l, eq-eqb hop last e) (omega arith)

  pub slot_more : end < 4294967296 → (hop ≡ last → ⊥) → after + 1 ≡ after + cond (leb 4294967296 end || eqb hop last) 0 1
  slot_more l ne = rw (lt-leb 4294967296 end l, ne_eqb hop last ne)

module _ {starts hops : List ℕ} (t : OldTable starts hops) where
  -- a run begins below any number but 0
  pub some_below : (k : ℕ) → 0 < k → (0 < lower k starts) × (lower k starts ≤ length starts)
  some_below k l = (lower_within k starts t.ascend 0 t.some (rw t.first l), lower_le k starts)

  module _ (net hop place : ℕ) (e : place ≡ lower net starts) where
    pub joint_first : net ≡ 0 → Jointed starts hops net hop record { from = place; first = 0 }
    joint_first z =
        let first = le-ltb 0 net (omega arith) in
        record { from_is = rw first (e ∙ omega arith); first_is = rw first (sym z) }

    pub joint_new : 0 < net → (get_or hops (place - 1) 0 ≡ hop → ⊥) → Jointed starts hops net hop record { from = place; first = net }
    joint_new l ne =
        let other = ne_eqb hop (get_or hops (lower net starts - 1) 0) (λ q. ne (ap (λ n. get_or hops (n - 1) 0) e ∙ sym q)) in
        record { from_is = rw (lt-ltb 0 net l, other) (e ∙ omega arith); first_is = rw (lt-ltb 0 net l, other) }

    pub joint_shared : 0 < net → get_or hops (place - 1) 0 ≡ hop
        → Jointed starts hops net hop record { from = place - 1; first = get_or starts (place - 1) 0 }
    joint_shared l q =
        let same = eq-eqb hop (get_or hops (lower net starts - 1) 0) (sym q ∙ ap (λ n. get_or hops (n - 1) 0) e) in
        record { from_is = rw (lt-ltb 0 net l, same) (ap (λ n. n - 1) e); first_is = rw (lt-ltb 0 net l, same) (ap (λ n. get_or starts (n - 1) 0) e) }

-- the first slot inside is within the table
pub joint_within : {starts hops : List ℕ} {net hop : ℕ} {j : Joint} → Jointed starts hops net hop j → j.from ≤ length starts
joint_within {starts} {hops} {net} j = omega (arith, j.from_is, lower_le net starts)

pub seamed : {starts hops : List ℕ} {net end past to : ℕ} {m : Middle} {j : Joint} → Jointed starts hops net m.first j
    → past ≡ lower (end + 1) starts
    → to ≡ j.from + m.runs + cond (leb 4294967296 end || eqb (get_or hops (past - 1) 0) m.last) 0 1
    → Seamed starts hops net end m record { from = j.from; first = j.first; past = past; to = to; hop = get_or hops (past - 1) 0 }
seamed {starts} {hops} {net} {end} {past} {to} {m} {j} w e q = record {
  from_is = w.from_is;
  first_is = w.first_is;
  past_is = e;
  to_is = rw e at q;
  hop_is = ap (λ n. get_or hops (n - 1) 0) e;
}

-- the block's old place is within the table, and its new one not far beyond
pub seamed_past : {starts hops : List ℕ} {net end : ℕ} {m : Middle} {s : Splice} → Seamed starts hops net end m s → s.past ≤ length starts
seamed_past {starts} {hops} {net} {end} w = omega (arith, w.past_is, lower_le (end + 1) starts)

pub seamed_to : {starts hops : List ℕ} {net end : ℕ} {m : Middle} {s : Splice} → Seamed starts hops net end m s
    → s.to ≤ length starts + m.runs + 1
seamed_to {starts} {hops} {net} {end} {m} w =
    omega (arith, w.to_is, w.from_is, lower_le net starts, at_most_one (joins_behind starts hops end m.last))
