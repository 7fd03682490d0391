-- The rows that hold an address, among the first i rows. Of two rows that hold one address the later is longer and lies in the earlier, so
-- there are at most 33, and their ends fall. A row whose network is passed holds a later address exactly if it held this one and ends after
-- that one (`still_matched`); a row whose network is ahead holds nothing yet (`none_ahead`).
-- Assumes nothing.
use mathlib.Core.Path.{◌≡◌, refl, sym, ap, ◌∙◌}
use mathlib.Core.Bool.{Bool, true, false}
use mathlib.Core.List.{List, [], ◌∷◌, ◌++◌, map-append}
use Prim.Native.Nat.{ℕ, zero, suc, ◌+◌, ◌≤◌, ◌<◌}
use native.Mathlib.Nat.{add-zero, add-suc}
use native.Mathlib.Omega.{arith}
use lib.ListN.{length, get_or, take, length-append}
use lib.Seq.{take-nil}
use lib.Dec.{ltb}
use borrow.Author.Tests.{ltb-true, ltb-false, lt-ltb, le-ltb}
use Rattle.ground.proofs.Falls.{Falls, least_snoc, falls_snoc}
use Rattle.cidr.specs.Prefix.{network, length_of, end_of, holds}
use Rattle.cidr.proofs.Prefix.{within_holds, holds_to, not_before, not_after, ended_of_not, longer_later, ends_earlier}
use Rattle.routes.specs.Row.{Row, rows_of, those}
use Rattle.routes.specs.Plain.{matching}
use Rattle.routes.proofs.Row.{those_one, those_none}
use Rattle.routes.proofs.RowsOf.{row_at, rows_suc}
use Rattle.sweep.specs.Sweep.{ends_of, Sorted}
use Rattle.sweep.proofs.Sorted.{hop_there, prefix_there, climbs}

-- the rows that hold the address, one listed row after the other
pub data Matched (keys hops : List ℕ) (a : ℕ) : ℕ → List Row → Type 0 where
  start : Matched keys hops a 0 []
  more : {i : ℕ} {m : List Row} → i < length keys → holds (get_or keys i 0) a ≡ true → Matched keys hops a i m
      → Matched keys hops a (suc i) (m ++ row_at keys hops i ∷ [])
  pass : {i : ℕ} {m : List Row} → i < length keys → holds (get_or keys i 0) a ≡ false → Matched keys hops a i m
      → Matched keys hops a (suc i) m

-- the row's prefix ends after the address
abbrev after : ℕ → Row → Bool
after a r = ltb a (end_of r.key)

-- where the first d rows end after the address and the others don't
pub those_after : (a : ℕ) (m : List Row) (d : ℕ) → ((i : ℕ) → i < d → a < get_or (ends_of m) i 0)
    → ((i : ℕ) → d ≤ i → i < length m → get_or (ends_of m) i 0 ≤ a) → those (after a) m ≡ take d m
unfolding those
those_after a [] d kept gone = sym (take-nil d)
those_after a (r ∷ m) zero kept gone =
    rw (le-ltb a (end_of r.key) (gone 0 (omega arith) (omega arith)))
    (those_after a m zero (λ i l. absurd (omega arith)) (λ i l lt. gone (suc i) (omega arith) (omega arith)))
those_after a (r ∷ m) (suc d) kept gone =
    rw (lt-ltb a (end_of r.key) (kept 0 (omega arith)))
    (ap (r ∷◌) (those_after a m d (λ i l. kept (suc i) (omega arith)) (λ i l lt. gone (suc i) (omega arith) (omega arith))))

module _ {keys hops : List ℕ} (s : Sorted keys hops) where
  -- one row more, which holds the address or doesn't
  module _ (a i : ℕ) (l : i < length keys) where
    pub grow_in : holds (get_or keys i 0) a ≡ true
        → matching a (rows_of (suc i) keys hops) ≡ matching a (rows_of i keys hops) ++ row_at keys hops i ∷ []
    unfolding matching
    grow_in e = rw (rows_suc i keys hops l (hop_there s i l)) (those_one _ _ _ e)

    grow_out : holds (get_or keys i 0) a ≡ false → matching a (rows_of (suc i) keys hops) ≡ matching a (rows_of i keys hops)
    unfolding matching
    grow_out e = rw (rows_suc i keys hops l (hop_there s i l)) (those_none _ _ _ e)

  pub matched : (a i : ℕ) → i ≤ length keys → Matched keys hops a i (matching a (rows_of i keys hops))
  unfolding matching rows_of those
  matched a zero l = start
  matched a (suc i) l = go (holds (get_or keys i 0) a) refl (matched a i (omega arith))
    where
      go : (b : Bool) → holds (get_or keys i 0) a ≡ b → Matched keys hops a i (matching a (rows_of i keys hops))
          → Matched keys hops a (suc i) (matching a (rows_of (suc i) keys hops))
      go true e rest = rw (grow_in a i l e) (more l e rest)
      go false e rest = rw (grow_out a i l e) (pass l e rest)

  module _ {a : ℕ} where
    -- of the rows that hold the address, each is longer than those before it, so they are at most 33
    shorter_before : {i : ℕ} {m : List Row} → Matched keys hops a i m → (j : ℕ) → i ≤ j → j < length keys → holds (get_or keys j 0) a ≡ true
        → length m ≤ length_of (get_or keys j 0)
    shorter_before start j l lt e = omega arith
    shorter_before (more {i} k q rest) j l lt e =
        let longer = longer_later (get_or keys i 0) (get_or keys j 0) a (climbs s i j l lt) q e in
        rw length-append (omega (arith, shorter_before rest i (omega arith) k q))
    shorter_before (pass k q rest) j l lt e = shorter_before rest j (omega arith) lt e

    pub at_most_33 : {i : ℕ} {m : List Row} → Matched keys hops a i m → length m ≤ 33
    at_most_33 start = omega arith
    at_most_33 (more {i} k q rest) = rw length-append (omega (arith, shorter_before rest i (omega arith) k q, prefix_there s i k))
    at_most_33 (pass k q rest) = at_most_33 rest

    -- and it ends no later
    end_above : {i : ℕ} {m : List Row} → Matched keys hops a i m → (j : ℕ) → i ≤ j → j < length keys → holds (get_or keys j 0) a ≡ true
        → (k : ℕ) → k < length (ends_of m) → end_of (get_or keys j 0) ≤ get_or (ends_of m) k 0
    end_above start j l lt e k h = absurd (omega arith)
    end_above (more {i} {m} g q rest) j l lt e k h =
        rw map-append
        (least_snoc (ends_of m) (end_of (get_or keys i 0)) _ (λ x y. end_above rest j (omega arith) lt e x y)
        (ends_earlier (get_or keys i 0) (get_or keys j 0) a (climbs s i j l lt) q e) k (omega (arith, simp (map-append, length-append) at h)))
    end_above (pass g q rest) j l lt e k h = end_above rest j (omega arith) lt e k h

    pub ends_fall : {i : ℕ} {m : List Row} → Matched keys hops a i m → Falls (ends_of m)
    ends_fall start = λ i j l lt. absurd (omega arith)
    ends_fall (more {i} {m} k q rest) =
        rw map-append (falls_snoc (ends_of m) (end_of (get_or keys i 0)) (ends_fall rest) (end_above rest i (omega arith) k q))
    ends_fall (pass k q rest) = ends_fall rest

    -- what holds the address ends past it
    pub ends_past : {i : ℕ} {m : List Row} → Matched keys hops a i m → (k : ℕ) → k < length (ends_of m) → a < get_or (ends_of m) k 0
    ends_past start k h = absurd (omega arith)
    ends_past (more {i} {m} g q rest) k h =
        rw map-append
        (least_snoc (ends_of m) (end_of (get_or keys i 0)) (suc a) (λ x y. ends_past rest x y) (holds_to (get_or keys i 0) a q) k
        (omega (arith, simp (map-append, length-append) at h)))
    ends_past (pass g q rest) k h = ends_past rest k h

  -- from an address on to a later one, over rows whose networks are passed
  module _ (at to : ℕ) (le : at ≤ to) where
    never_in : (i : ℕ) → i < length keys → network (get_or keys i 0) ≤ at → holds (get_or keys i 0) at ≡ false
        → holds (get_or keys i 0) to ≡ false
    never_in i l p e =
        not_after (get_or keys i 0) to (omega (arith, ended_of_not (get_or keys i 0) at (prefix_there s i l) p e))

    pub still_matched : {i : ℕ} {m : List Row} → Matched keys hops at i m → ((j : ℕ) → j < i → network (get_or keys j 0) ≤ at)
        → matching to (rows_of i keys hops) ≡ those (after to) m
    unfolding matching rows_of those
    still_matched start p = refl
    still_matched (more {i} {m} l q rest) p = go (ltb to (end_of (get_or keys i 0))) refl (still_matched rest (λ j lt. p j (omega arith)))
      where
        go : (b : Bool) → ltb to (end_of (get_or keys i 0)) ≡ b → matching to (rows_of i keys hops) ≡ those (after to) m
            → matching to (rows_of (suc i) keys hops) ≡ those (after to) (m ++ row_at keys hops i ∷ [])
        go true e rec =
            let passed = p i (omega arith) in
            let held = within_holds (get_or keys i 0) to (prefix_there s i l) (omega arith) (ltb-true _ _ e) in
            grow_in to i l held ∙ rw rec (sym (those_one (after to) m _ e))
        go false e rec = grow_out to i l (not_after (get_or keys i 0) to (ltb-false _ _ e)) ∙ rw rec (sym (those_none (after to) m _ e))
    still_matched (pass {i} l q rest) p =
        grow_out to i l (never_in i l (p i (omega arith)) q) ∙ still_matched rest (λ j lt. p j (omega arith))

  -- rows that are ahead add nothing
  pub none_ahead : (a row d : ℕ) → row + d ≤ length keys → ((i : ℕ) → row ≤ i → i < length keys → a < network (get_or keys i 0))
      → matching a (rows_of (row + d) keys hops) ≡ matching a (rows_of row keys hops)
  none_ahead a row zero l h = rw add-zero
  none_ahead a row (suc d) l h =
      rw add-suc
      (grow_out a (row + d) (omega arith) (not_before _ a (h (row + d) (omega arith) (omega arith)))
      ∙ none_ahead a row d (omega arith) h)
