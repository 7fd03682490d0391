-- What the place of a key among ascending keys says: at a place, the key is among them and stands there; missing, it isn't.
-- Assumes nothing.
use mathlib.Core.Path.{◌≡◌, refl, sym, ap, ◌∙◌}
use mathlib.Core.Bool.{Bool, true, false, cond}
use mathlib.Core.List.{List}
use Prim.Native.Nat.{ℕ}
use Rattle.std.specs.Prelude.{Result, Ok, Err}
use Rattle.ground.specs.Column.{is_in, lower}
use Rattle.routes.specs.Place.{place_in}

-- the two answers told apart, and the place of either
abbrev listed : Result ℕ ℕ → Bool
listed (Ok i) = true
listed (Err i) = false

abbrev placed : Result ℕ ℕ → ℕ
placed (Ok i) = i
placed (Err i) = i

module _ (keys : List ℕ) (k : ℕ) where
  listed_is : listed (place_in keys k) ≡ is_in k keys
  unfolding place_in
  listed_is = go (is_in k keys)
    where
      go : (b : Bool) → listed (cond b (Ok (lower k keys)) (Err (lower k keys))) ≡ b
      go true = refl
      go false = refl

  placed_is : placed (place_in keys k) ≡ lower k keys
  unfolding place_in
  placed_is = go (is_in k keys)
    where
      go : (b : Bool) → placed (cond b (Ok (lower k keys)) (Err (lower k keys))) ≡ lower k keys
      go true = refl
      go false = refl

  module _ (i : ℕ) where
    pub at_in : place_in keys k ≡ Ok i → (is_in k keys ≡ true) × (i ≡ lower k keys)
    at_in e = (sym listed_is ∙ ap listed e, sym (ap placed e) ∙ placed_is)

    pub missing_out : place_in keys k ≡ Err i → (is_in k keys ≡ false) × (i ≡ lower k keys)
    missing_out e = (sym listed_is ∙ ap listed e, sym (ap placed e) ∙ placed_is)
