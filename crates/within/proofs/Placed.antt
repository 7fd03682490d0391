-- What the place of a key among ascending keys tells: the key stands there (Ok), or it isn't what would stand there (Err).
-- Assumes nothing.
use Rattle.std.proofs.Common.{◌≡◌, refl, sym, ap, ◌∙◌, ⊎_elim, ℕ, ◌<◌, ◌≤◌, arith, List, Bool, true, false, length, get_or, Result, Ok, Err, lt-ltb, eq-eqb, ltb-true, eqb-true}
use Rattle.std.proofs.lemmas.Bool.{false≢true}
use Rattle.ground.specs.Column.{ascends, is_in, lower}
use Rattle.ground.proofs.Truth.{decided, and_left, and_right, and_both}
use Rattle.cidr.specs.Prefix.{addresses, key_of, is_prefix}
use Rattle.cidr.proofs.Prefix.{prefix_parts, network_key}
use Rattle.sweep.specs.Sweep.{Sorted}
use Rattle.sweep.proofs.Sorted.{keys_ascend}
use Rattle.routes.specs.Place.{place_in}
use Rattle.routes.proofs.KeyPlace.{in_at_place}

abbrev stands : Result ℕ ℕ → Bool
stands (Ok at) = true
stands (Err at) = false

abbrev placed : Result ℕ ℕ → ℕ
placed (Ok at) = at
placed (Err at) = at

module _ (keys : List ℕ) (k : ℕ) where
  stands_is : stands (place_in keys k) ≡ is_in k keys
  unfolding place_in
  stands_is = ⊎_elim (λ t. rw t refl) (λ n. rw n refl) (decided (is_in k keys))

  placed_is : placed (place_in keys k) ≡ lower k keys
  unfolding place_in
  placed_is = ⊎_elim (λ t. rw t refl) (λ n. rw n refl) (decided (is_in k keys))

  module _ (a : ascends keys ≡ true) {r : Result ℕ ℕ} (gave : r ≡ place_in keys k) {at : ℕ} where
    pub key_stands : r ≡ Ok at → (at < length keys) × (get_or keys at 0 ≡ k)
    key_stands is =
        let listed = sym (in_at_place k keys a) ∙ sym stands_is ∙ ap stands (sym gave ∙ is) in
        let here = sym (ap placed (sym gave ∙ is)) ∙ placed_is in (
          rw here (ltb-true _ _ (and_left _ _ listed)),
          rw here (eqb-true _ _ (and_right _ _ listed)),
        )

    pub key_missing : r ≡ Err at → (at ≡ lower k keys) × (at < length keys → get_or keys at 0 ≡ k → ⊥)
    key_missing is =
        let here = sym (ap placed (sym gave ∙ is)) ∙ placed_is in (
          here,
          λ l e. false≢true (sym (sym (in_at_place k keys a) ∙ sym stands_is ∙ ap stands (sym gave ∙ is)) ∙ rw (← here) (and_both (lt-ltb _ _ l) (eq-eqb _ _ e))),
        )

-- a key isn't at the place where it would stand
pub not_there : (keys hops : List ℕ) (k at : ℕ) {r : Result ℕ ℕ} → Sorted keys hops → (ascends keys ≡ true → r ≡ place_in keys k) → r ≡ Err at
    → at < length keys → k ≡ get_or keys at 0 → ⊥
not_there keys hops k at s gave is l e = (key_missing keys k (keys_ascend s) (gave (keys_ascend s)) is).1 l (sym e)

-- a prefix's network is an address
pub network_fits : (net len : ℕ) → is_prefix (key_of net len) ≡ true → len ≤ 32 → net < addresses
network_fits net len e short =
    let parts = prefix_parts (key_of net len) e in
    omega (arith, parts.within, network_key net len (omega arith))
