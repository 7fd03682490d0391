-- Rule 18.2: the reason is true. It is the last place listed: its row holds the address, every other row that holds it is shorter, and its
-- hop is the plain answer. Where there is none, no row holds the address and the plain answer is 0.
-- Assumes nothing.
use mathlib.Core.Path.{◌≡◌, refl, sym, ap, ◌∙◌}
use mathlib.Core.Logic.{◌⊎◌, inl, inr, ⊎_elim}
use mathlib.Core.Bool.{true, false}
use mathlib.Core.List.{List, [], ◌∷◌, ◌++◌, map, map-append}
use mathlib.Core.Option.{none, some}
use Prim.Native.Nat.{ℕ, zero, suc, ◌-◌, ◌<◌, zero-le}
use native.Mathlib.Nat.{le_refl, eq-or-lt_of_le}
use native.Mathlib.Omega.{arith}
use lib.ListN.{length, get_or, take, length-map}
use lib.Seq.{take_all, take-suc, get_or-take, length-take-le}
use borrow.Author.Tests.{lt-leb}
use Rattle.ground.specs.Column.{lower}
use Rattle.ground.proofs.Truth.{decided, cond_false}
use Rattle.ground.proofs.Lower.{lower_at}
use Rattle.cidr.specs.Prefix.{length_of, holds}
use Rattle.routes.specs.Row.{Row, rows_of, keys_of}
use Rattle.routes.specs.WellFormed.{well_formed}
use Rattle.routes.specs.Plain.{matching, longer, longest, hop_of, plain}
use Rattle.routes.proofs.RowsOf.{row_at}
use Rattle.routes.proofs.Columns.{keys_of_rows}
use Rattle.why.specs.Why.{places_of, place_of, reason_for}
use Rattle.why.proofs.Places.{keys_there, hops_there, keys_ascending, key_climbs}
use Rattle.why.proofs.Listed.{listed_holds, placed, rows_listed, lengths_ascend}

-- of rows that are each shorter than one behind them, that one is the longest
longest_last : (xs : List Row) (r : Row) → ((k : ℕ) → k < length xs → length_of (get_or (keys_of xs) k 0) < length_of r.key)
    → longest (xs ++ r ∷ []) ≡ some r
unfolding longest longer
longest_last [] r h = refl
longest_last (x ∷ xs) r h =
    ap (longer x) (longest_last xs r (λ k l. h (suc k) (omega arith)))
    ∙ cond_false (some x) (some r) (lt-leb (length_of r.key) (length_of x.key) (h 0 (omega arith)))

-- the key of the row at a place of a list of places
key_at : (keys hops places : List ℕ) (k : ℕ) → k < length places
    → get_or (keys_of (map (row_at keys hops) places)) k 0 ≡ get_or keys (get_or places k 0) 0
key_at keys hops [] k l = absurd (omega arith)
key_at keys hops (p ∷ ps) zero l = refl
key_at keys hops (p ∷ ps) (suc k) l = key_at keys hops ps k (omega arith)

-- a list that isn't empty is its first numbers and the last one
last_split : (xs : List ℕ) → 0 < length xs → xs ≡ take (length xs - 1) xs ++ get_or xs (length xs - 1) 0 ∷ []
last_split xs some_in =
    let whole : suc (length xs - 1) ≡ length xs = omega arith in
    sym (take_all (suc (length xs - 1)) xs (omega arith)) ∙ take-suc xs (length xs - 1) 0 (omega arith)

empty_is : (xs : List ℕ) → length xs ≡ 0 → xs ≡ []
empty_is [] e = refl
empty_is (x ∷ xs) e = absurd (omega arith)

-- the row at the place holds the address, every other row that holds it is shorter, and its hop is the plain answer
pub record Decides (count : ℕ) (keys hops : List ℕ) (a i : ℕ) : Type 0 where
  pub within : i < count
  pub held : holds (get_or keys i 0) a ≡ true
  pub longest : (j : ℕ) → j < count → holds (get_or keys j 0) a ≡ true → (j ≡ i → ⊥) → length_of (get_or keys j 0) < length_of (get_or keys i 0)
  pub hop : plain (rows_of count keys hops) a ≡ get_or hops i 0

-- no row holds the address, and the plain answer is 0
pub record Undecided (count : ℕ) (keys hops : List ℕ) (a : ℕ) : Type 0 where
  pub none_holds : (j : ℕ) → j < count → holds (get_or keys j 0) a ≡ false
  pub no_hop_lem : plain (rows_of count keys hops) a ≡ 0

module _ (count : ℕ) (keys hops : List ℕ) (well : well_formed count keys hops ≡ true) (a : ℕ) where
  -- where places are listed, the last one
  module _ (listed : 0 < length (places_of a (rows_of count keys hops))) where
    abbrev last : ℕ
    last = get_or (places_of a (rows_of count keys hops)) (length (places_of a (rows_of count keys hops)) - 1) 0

    last_in_lem : (last < count) × (holds (get_or keys last 0) a ≡ true)
    last_in_lem = listed_holds count keys hops well a _ (omega arith)

    longest_is : longest (matching a (rows_of count keys hops)) ≡ some (row_at keys hops last)
    longest_is =
        let places = places_of a (rows_of count keys hops) in
        let front = take (length places - 1) places in
        let long : length front ≡ length places - 1 = length-take-le (length places - 1) places (omega arith) in
        ap longest
        (rows_listed count keys hops well a
        ∙ ap (map (row_at keys hops)) (last_split places listed)
        ∙ map-append (row_at keys hops) front (last ∷ []))
        ∙ longest_last (map (row_at keys hops) front) (row_at keys hops last) (λ k l.
        let in_front : k < length front = rw length-map at l in
        rw (key_at keys hops front k in_front, get_or-take (length places - 1) places k 0 (omega arith))
        (lengths_ascend count keys hops well a k (length places - 1) (omega arith) (omega arith)))

    -- a key stands at its place
    place_is : lower (get_or keys last 0) (keys_of (rows_of count keys hops)) ≡ last
    place_is =
        let in_keys = keys_there count keys hops well in
        let long : length (take count keys) ≡ count = length-take-le count keys in_keys in
        let in_count = last_in_lem.0 in
        rw (keys_of_rows count keys hops in_keys (hops_there count keys hops well))
        (lower_at (get_or keys last 0) (take count keys) last (keys_ascending count keys hops well) (omega arith)
        (λ pos. rw (get_or-take count keys (last - 1) 0 (omega arith))
        (key_climbs count keys hops well (last - 1) last (omega arith) in_count))
        (λ l. rw (get_or-take count keys last 0 in_count) (le_refl (get_or keys last 0))))

    pub reason_is_last : reason_for a (rows_of count keys hops) ≡ some last
    unfolding reason_for place_of
    reason_is_last = ap (place_of (rows_of count keys hops)) longest_is ∙ ap some place_is

    last_decides : Decides count keys hops a last
    unfolding plain
    last_decides = record {
      within = last_in_lem.0;
      held = last_in_lem.1;
      longest = λ j l e other.
          let places = places_of a (rows_of count keys hops) in
          let at = placed count keys hops well a j l e in
          let not_last : at.0 ≡ length places - 1 → ⊥ = λ q. other (sym at.2 ∙ ap (λ k. get_or places k 0) q) in
          rw at.2 at (lengths_ascend count keys hops well a at.0 (length places - 1) (omega arith) (omega arith));
      hop = ap hop_of longest_is;
    }

  -- where none is
  module _ (unlisted : length (places_of a (rows_of count keys hops)) ≡ 0) where
    longest_none : longest (matching a (rows_of count keys hops)) ≡ none
    unfolding longest
    longest_none =
        let places = places_of a (rows_of count keys hops) in
        ap longest (rows_listed count keys hops well a ∙ ap (map (row_at keys hops)) (empty_is places unlisted))

    pub reason_is_none : reason_for a (rows_of count keys hops) ≡ none
    unfolding reason_for place_of
    reason_is_none = ap (place_of (rows_of count keys hops)) longest_none

    none_decides : Undecided count keys hops a
    unfolding plain
    none_decides = record {
      none_holds = λ j l.
          ⊎_elim (λ e. absurd (omega (arith, (placed count keys hops well a j l e).1))) (λ e. e) (decided (holds (get_or keys j 0) a));
      no_hop_lem = ap hop_of longest_none;
    }

  some_or_none : (length (places_of a (rows_of count keys hops)) ≡ 0) ⊎ (0 < length (places_of a (rows_of count keys hops)))
  some_or_none = ⊎_elim (λ z. inl (sym z)) inr (eq-or-lt_of_le zero-le)

  never : {A : Type 0} {i : ℕ} → reason_for a (rows_of count keys hops) ≡ some i → reason_for a (rows_of count keys hops) ≡ none → A
  never e e' = absurd (let z : ◌≡◌ {A = ℕ} 0 1 = cc in omega arith)

  module _ {i : ℕ} (e : reason_for a (rows_of count keys hops) ≡ some i) where
    -- the reason is the last place listed
    pub reason_last : (0 < length (places_of a (rows_of count keys hops)))
        × (get_or (places_of a (rows_of count keys hops)) (length (places_of a (rows_of count keys hops)) - 1) 0 ≡ i)
    reason_last = ⊎_elim
        (λ z. never e (reason_is_none z))
        (λ listed. (listed, let same = sym (reason_is_last listed) ∙ e in cc))
        some_or_none

    -- and it is true
    pub reason_true : Decides count keys hops a i
    reason_true = rw reason_last.1 at (last_decides reason_last.0)

  -- no reason is true too
  pub no_reason_true : reason_for a (rows_of count keys hops) ≡ none → Undecided count keys hops a
  no_reason_true e = ⊎_elim none_decides (λ listed. never (reason_is_last listed) e) some_or_none
