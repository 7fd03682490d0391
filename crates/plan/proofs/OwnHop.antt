-- The hop at the prefix's own addresses, by where its key was found. Before the edit it is the found row's, or where none was found that
-- of the nearest row around, since then a withdrawal changes nothing. After an announcement it is the announced hop.
-- Assumes nothing.
use mathlib.Core.Path.{◌≡◌, sym, ap, ◌∙◌, subst}
use mathlib.Core.Bool.{true}
use mathlib.Core.List.{List}
use Prim.Native.Nat.{ℕ, ◌<◌}
use lib.ListN.{length, get_or}
use Rattle.ground.specs.Column.{is_in, lower}
use Rattle.cidr.specs.Prefix.{is_prefix}
use Rattle.routes.specs.Row.{row}
use Rattle.routes.specs.Change.{withdrawn}
use Rattle.routes.proofs.Row.{Has}
use Rattle.routes.proofs.Columns.{withdrawn_unlisted}
use Rattle.sweep.specs.Sweep.{all_rows, Sorted}
use Rattle.sweep.proofs.Sorted.{hop_there, in_order, keys_are, keys_ascend}
use Rattle.std.specs.Prelude.{Result, Ok, Err}
use Rattle.within.specs.Own.{enclosing_hop}
use Rattle.plan.specs.Edited.{edited_rows}
use Rattle.plan.specs.Found.{FoundIn, place_of, stands}
use Rattle.plan.proofs.Edited.{edited_announced}
use Rattle.plan.proofs.Found.{in_within, in_there}
use Rattle.within.proofs.Own.{listed_own, announced_own}
use Rattle.within.proofs.Nearest.{row_listed}

module _ {keys hops : List ℕ} (s : Sorted keys hops) (k : ℕ) where
  module _ {f : Result ℕ ℕ} (w : FoundIn keys k f) {at : ℕ} where
    module _ (is : f ≡ Ok at) where
      is_in_lem : is_in k keys ≡ true
      is_in_lem = sym w.listed_is ∙ ap stands is

      at_lem : at ≡ lower k keys
      at_lem = sym (ap place_of is) ∙ w.at_is

      key_there : at < length keys
      key_there = rw at_lem (in_within keys k (keys_ascend s) is_in_lem)

      pub found_there : at < length hops
      found_there = hop_there s at key_there

      pub found_own : is_prefix k ≡ true → get_or hops at 0 ≡ enclosing_hop k (all_rows keys hops)
      found_own pre = sym (listed_own k pre (all_rows keys hops) (in_order s) (get_or hops at 0)
          (subst (λ x. Has (row x (get_or hops at 0)) (all_rows keys hops)) own_key (row_listed s at key_there)))
        where
          own_key : get_or keys at 0 ≡ k
          own_key = rw at_lem (in_there keys k (keys_ascend s) is_in_lem)

    pub unlisted_own : f ≡ Err at → {h : ℕ} → h ≡ enclosing_hop k (withdrawn k (all_rows keys hops))
        → h ≡ enclosing_hop k (all_rows keys hops)
    unlisted_own is around =
        around ∙ ap (enclosing_hop k) (withdrawn_unlisted k (all_rows keys hops) (ap (is_in k) (keys_are s) ∙ sym w.listed_is ∙ ap stands is))

  pub announced_hop : is_prefix k ≡ true → (h : ℕ) → (h ≡ 0 → ⊥) → h ≡ enclosing_hop k (edited_rows k h (all_rows keys hops))
  announced_hop pre h n =
      sym (ap (enclosing_hop k) (edited_announced k h (all_rows keys hops) n) ∙ announced_own k pre (all_rows keys hops) (in_order s) h)
