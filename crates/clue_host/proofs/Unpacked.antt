-- Rule 19.8: how the header takes the one number apart that C gets of a lookup with a hint, or of the quick form. A shift to the right by 16 or
-- 32 bits divides by 65,536 or 4,294,967,296, and the last 16 bits are what is left of a division by 65,536.
-- Assumes nothing.
use mathlib.Core.Path.{◌≡◌}
use mathlib.Core.Bool.{Bool, true, false}
use Prim.Native.Nat.{◌/◌, ◌%◌, ◌≤◌, ◌<◌}
use native.Mathlib.Omega.{arith}
use Rattle.entries.specs.Entries.{mark}
use Rattle.clue.specs.Lookup.{HintOutcome}
use Rattle.clue.specs.Quick.{QuickOutcome}
use Rattle.clue_host.specs.Exports.{hint_for_c, quick_for_c}

mark_small : (b : Bool) → mark b ≤ 1
unfolding mark
mark_small true = omega arith
mark_small false = omega arith

module _ (o : HintOutcome) (number : o.number < 65536) (hop : o.hop < 65536) where
  pub hint_number : hint_for_c o / 65536 % 65536 ≡ o.number
  unfolding hint_for_c
  hint_number = omega (arith, mark_small o.final)

  pub hint_hop : hint_for_c o % 65536 ≡ o.hop
  unfolding hint_for_c
  hint_hop = omega (arith, mark_small o.final)

  pub hint_stored : hint_for_c o / 4294967296 ≡ mark o.final
  unfolding hint_for_c
  hint_stored = omega (arith, mark_small o.final)

module _ (o : QuickOutcome) (hop : o.hop < 65536) where
  pub quick_final_lem : quick_for_c o / 65536 ≡ mark o.final
  unfolding quick_for_c
  quick_final_lem = omega (arith, mark_small o.final)

  pub quick_hop : quick_for_c o % 65536 ≡ o.hop
  unfolding quick_for_c
  quick_hop = omega (arith, mark_small o.final)
