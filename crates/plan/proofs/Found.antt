-- Where keys ascend, a key is listed exactly if it stands at its place (`in_at_place` of routes); and what a search for the place tells.
-- Assumes nothing.
use mathlib.Core.Path.{◌≡◌, refl, sym, ◌∙◌}
use mathlib.Core.Logic.{⊎_elim}
use mathlib.Core.Bool.{true, false≢true}
use mathlib.Core.List.{List}
use Prim.Native.Nat.{ℕ, ◌<◌}
use lib.ListN.{length, get_or}
use lib.Dec.{ltb}
use borrow.Author.Tests.{ltb-true, eqb-true}
use Rattle.ground.specs.Column.{ascends, is_in, lower}
use Rattle.ground.proofs.Truth.{decided, and_left, and_right}
use Rattle.std.specs.Prelude.{Result, Ok, Err, IsOk}
use Rattle.routes.specs.Place.{place_in}
use Rattle.routes.proofs.KeyPlace.{in_at_place}
use Rattle.plan.specs.Found.{FoundIn, stands}

module _ (keys : List ℕ) (k : ℕ) (a : ascends keys ≡ true) where
  -- a number that is in stands at its place
  pub in_within : is_in k keys ≡ true → lower k keys < length keys
  in_within e = ltb-true _ _ (and_left (ltb (lower k keys) (length keys)) _ (sym (in_at_place k keys a) ∙ e))

  pub in_there : is_in k keys ≡ true → get_or keys (lower k keys) 0 ≡ k
  in_there e = eqb-true _ _ (and_right (ltb (lower k keys) (length keys)) _ (sym (in_at_place k keys a) ∙ e))

-- what a search for a key's place answers
module _ (keys : List ℕ) (k : ℕ) where
  pub found_in : {f : Result ℕ ℕ} → f ≡ place_in keys k → FoundIn keys k f
  unfolding place_in
  found_in e = ⊎_elim
      (λ t. rw e (record { at_is = rw t refl; listed_is = rw t refl }))
      (λ n. rw e (record { at_is = rw n refl; listed_is = rw n refl }))
      (decided (is_in k keys))

-- where the key stands, the answer is Ok
pub stands_ok : (f : Result ℕ ℕ) → stands f ≡ true → IsOk f
stands_ok (Ok at) e = refl
stands_ok (Err at) e = absurd (false≢true e)
