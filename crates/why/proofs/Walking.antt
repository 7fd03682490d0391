-- The walks: `find` notes the places of the rows that hold an address, one row after the other, and a row more is one slot more or none;
-- `gather` fills a slice with what a list of places gives, one place after the other.
-- Assumes nothing.
use mathlib.Core.Path.{◌≡◌, refl, ◌∙◌}
use mathlib.Core.Bool.{true, false}
use mathlib.Core.List.{List, map, map-append}
use Prim.Native.Nat.{ℕ, ◌+◌, ◌≤◌, ◌<◌}
use native.Mathlib.Numerals.{add-one}
use native.Mathlib.Omega.{arith}
use lib.ListN.{length, get_or, take, set, length-append, length-map}
use lib.Seq.{get_or-take, length-take-le, take-suc, take_all}
use Rattle.ground.specs.Slots.{written}
use Rattle.ground.specs.Stretch.Laws.{picked_none}
use Rattle.ground.proofs.Slots.{take_written, written_more}
use Rattle.cidr.specs.Prefix.{holds}
use Rattle.routes.specs.Row.{rows_of}
use Rattle.routes.specs.WellFormed.{well_formed}
use Rattle.why.specs.Why.{places_of}
use Rattle.why.proofs.Places.{places_to, place_in, place_out, places_are, room_for_one}
use Rattle.why.proofs.Listed.{at_most_33}

-- filling: what f gives at the first i places stands at the front
pub record Filling (f : ℕ → ℕ) (places old : List ℕ) (i : ℕ) (cur : List ℕ) : Type 0 where
  pub slots : cur ≡ written (map f (take i places)) old

module _ (f : ℕ → ℕ) {places old : List ℕ} where
  pub filling_start : Filling f places old 0 old
  unfolding written
  filling_start = record { slots = refl }

  module _ {i : ℕ} {cur : List ℕ} (room : length places ≤ length old) (c : Filling f places old i cur) where
    pub filling_next : i < length places → Filling f places old (i + 1) (set cur i (f (get_or places i 0)))
    filling_next l =
        let long : length (map f (take i places)) ≡ i = simp length-map (length-take-le i places (omega arith)) in
        record {
          slots =
              rw (add-one, take-suc places i 0 l, map-append, c.slots)
              (rw long at (written_more (map f (take i places)) old (f (get_or places i 0)) (omega (arith, long))));
        }

    pub filling_end : length places ≤ i → cur ≡ written (map f places) old
    filling_end l = rw (take_all i places l) at c.slots

-- noting: the places so far stand at the front
pub record Noting (count : ℕ) (keys : List ℕ) (a : ℕ) (old : List ℕ) (n i : ℕ) (cur : List ℕ) : Type 0 where
  pub within : i ≤ count
  pub many : n ≡ length (places_to keys a i)
  pub slots : cur ≡ written (places_to keys a i) old

pub noting_start : (count : ℕ) (keys : List ℕ) (a : ℕ) (old : List ℕ) → Noting count keys a old 0 0 old
unfolding written
noting_start count keys a old = record { within = omega arith; many = rw picked_none; slots = rw picked_none }

module _ {count : ℕ} {keys : List ℕ} (hops : List ℕ) (well : well_formed count keys hops ≡ true) {a : ℕ} {old : List ℕ} {n i : ℕ}
    {cur : List ℕ} (c : Noting count keys a old n i cur) where
  -- a turn of the walk over the list's keys
  module _ (in_list : i < count) where
    -- the row's key, as the code read it
    module _ {k : ℕ} (k_is : k ≡ get_or keys i 0) where
      module _ (e : holds k a ≡ true) where
        held : holds (get_or keys i 0) a ≡ true
        held = rw k_is at e

        pub note_fits : n < 33
        note_fits = rw c.many (room_for_one count keys hops well a i in_list held)

        pub noting_one : {n' j : ℕ} → n' ≡ n + 1 → j ≡ i → length old ≡ 33 → Noting count keys a old n' (i + 1) (set cur n j)
        noting_one n_is j_is room = record {
          within = omega (arith, in_list);
          many = rw (n_is, add-one i, place_in keys a i held, length-append) (omega (arith, c.many));
          slots =
              rw (j_is, add-one i, place_in keys a i held, c.slots, c.many)
              (written_more (places_to keys a i) old i (omega (arith, note_fits, c.many)));
        }

      pub noting_none : holds k a ≡ false → Noting count keys a old n (i + 1) cur
      noting_none e =
          let out = place_out keys a i (rw k_is at e) in
          record { within = omega (arith, in_list); many = rw (add-one, out) c.many; slots = rw (add-one, out) c.slots }

  -- after the last row all places are noted
  module _ (over : count ≤ i) where
    all : i ≡ count
    all = omega (arith, c.within)

    pub noted_many : n ≡ length (places_of a (rows_of count keys hops))
    noted_many = rw (places_are count keys hops well a) (rw all at c.many)

    pub noted_few : n ≤ 33
    noted_few = rw noted_many (at_most_33 count keys hops well a)

    pub noted : take n cur ≡ places_of a (rows_of count keys hops)
    noted =
        rw c.slots (take_written (places_to keys a i) old n c.many ∙ rw (all, places_are count keys hops well a) refl)
