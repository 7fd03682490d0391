-- Rows in key order, place by place: each has its hop, each key is a prefix and below those after it, and so each network is at most those
-- of the rows after it.
-- Assumes nothing.
use mathlib.Core.Path.{◌≡◌, ◌∙◌}
use mathlib.Core.Bool.{true}
use mathlib.Core.Logic.{⊎_elim}
use mathlib.Core.List.{List}
use Prim.Native.Nat.{ℕ, ◌≤◌, ◌<◌}
use native.Mathlib.Nat.{eq-or-lt_of_le}
use native.Mathlib.Omega.{arith}
use lib.ListN.{length, get_or}
use lib.Seq.{take-length}
use Rattle.ground.specs.Column.{ascends}
use Rattle.ground.proofs.Truth.{and_left, and_right}
use Rattle.ground.proofs.Ascends.{ascends_at}
use Rattle.cidr.specs.Prefix.{network, is_prefix}
use Rattle.cidr.proofs.Prefix.{Prefix, prefix_parts}
use Rattle.routes.specs.Row.{keys_of}
use Rattle.routes.specs.WellFormed.{prefixes, ascending, half_rows}
use Rattle.routes.proofs.RowsOf.{every_at}
use Rattle.routes.proofs.Columns.{keys_of_rows}
use Rattle.sweep.specs.Sweep.{all_rows, Sorted}

module _ {keys hops : List ℕ} (s : Sorted keys hops) where
  pub hop_there : (i : ℕ) → i < length keys → i < length hops
  hop_there i l = omega (arith, s.paired)

  pub prefix_there : (i : ℕ) → i < length keys → Prefix (get_or keys i 0)
  unfolding half_rows prefixes
  prefix_there i l =
      let all = and_left (prefixes (all_rows keys hops)) _ s.half in
      prefix_parts (get_or keys i 0) (every_at (λ r. is_prefix r.key) (length keys) keys hops all i l l (hop_there i l))

  pub in_order : ascending (all_rows keys hops) ≡ true
  unfolding half_rows
  in_order = and_right (prefixes (all_rows keys hops)) _ s.half

  pub keys_are : keys_of (all_rows keys hops) ≡ keys
  keys_are = keys_of_rows (length keys) keys hops (omega arith) (omega (arith, s.paired)) ∙ take-length keys

  pub keys_ascend : ascends keys ≡ true
  unfolding ascending
  keys_ascend = rw keys_are at in_order

  pub climbs : (i j : ℕ) → i < j → j < length keys → get_or keys i 0 < get_or keys j 0
  climbs i j l m = ascends_at keys keys_ascend i j l m

  -- what is at most a row's network is at most those of the rows after it
  pub beyond : (a row : ℕ) → (row < length keys → a ≤ network (get_or keys row 0))
      → (i : ℕ) → row ≤ i → i < length keys → a ≤ network (get_or keys i 0)
  beyond a row h i l lt = ⊎_elim
      (λ (q : row ≡ i). rw q at (h (omega arith)))
      (λ m. omega (arith, h (omega arith), climbs row i m lt))
      (eq-or-lt_of_le l)
