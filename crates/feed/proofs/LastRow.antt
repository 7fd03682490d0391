-- The later row wins: an imported list has for each prefix the hop of its last row that was taken or replaced another. One row of the feed
-- gives its own prefix its hop where its number is 0 or 4, and changes no other hop. So, row by row, the hop of a prefix is that of the last
-- such row so far, and the list is empty at first.
-- Assumes nothing.
use mathlib.Core.Path.{◌≡◌, refl, sym, ap, ◌∙◌}
use mathlib.Core.Logic.{◌⊎◌, inl, inr}
use mathlib.Core.Bool.{Bool, true, false, cond}
use mathlib.Core.List.{List, [], ◌∷◌}
use mathlib.Core.Option.{Option, none, some, or_else}
use Prim.Native.Nat.{ℕ, ◌<◌}
use native.Mathlib.Omega.{arith}
use borrow.Author.Tests.{eqb-true, ne_eqb}
use lib.Dec.{eqb}
use Rattle.ground.proofs.Truth.{decided}
use Rattle.routes.specs.Row.{Row}
use Rattle.routes.specs.Change.{announced}
use Rattle.routes.proofs.Change.{Order, before, same, after, order, announced_before, announced_at, announced_after}
use Rattle.rows.specs.Rows.{rows_in}
use Rattle.rows.specs.Reading.{Reading, good, bad, read_row}
use Rattle.feed.specs.Import.{row_number, enters, list_after, row_numbers_from, list_from, row_numbers, imported_list}
use Rattle.feed.specs.LastRow.{hop_for, last_hop, hop_listed}

or_else_none : (a : Option ℕ) → or_else a none ≡ a
unfolding or_else
or_else_none none = refl
or_else_none (some x) = refl

or_else_assoc : (a b c : Option ℕ) → or_else (or_else a b) c ≡ or_else a (or_else b c)
unfolding or_else
or_else_assoc none b c = refl
or_else_assoc (some x) b c = refl

-- a hop in front of what follows
in_front : (b : Bool) (h : ℕ) (o : Option ℕ) → cond b (some h) o ≡ or_else (cond b (some h) none) o
unfolding or_else
in_front true h o = refl
in_front false h o = refl

-- an announcement gives its own prefix its hop, and changes no other hop
hop_announced : (k j h : ℕ) (rows : List Row) → hop_listed k (announced j h rows) ≡ or_else (hop_for k (good j h)) (hop_listed k rows)
unfolding announced hop_listed hop_for or_else
hop_announced k j h [] = in_front (eqb k j) h none
hop_announced k j h (t ∷ ts) = go (order j t.key) (hop_announced k j h ts)
  where
    -- at the row that has the prefix already
    at_row : (b : Bool) (o : Option ℕ) → cond b (some h) o ≡ or_else (cond b (some h) none) (cond b (some t.hop) o)
    at_row true o = refl
    at_row false o = refl

    -- past a row that has another
    past_row : t.key < j → (eqb k t.key ≡ true) ⊎ (eqb k t.key ≡ false)
        → cond (eqb k t.key) (some t.hop) (or_else (cond (eqb k j) (some h) none) (hop_listed k ts))
        ≡ or_else (cond (eqb k j) (some h) none) (cond (eqb k t.key) (some t.hop) (hop_listed k ts))
    past_row l (inl e) =
        let is = eqb-true k t.key e in
        rw (e, ne_eqb k j (λ q. omega arith))
    past_row l (inr e) = rw e

    go : Order j t.key → hop_listed k (announced j h ts) ≡ or_else (cond (eqb k j) (some h) none) (hop_listed k ts)
        → hop_listed k (announced j h (t ∷ ts)) ≡ or_else (cond (eqb k j) (some h) none) (hop_listed k (t ∷ ts))
    go (before l) rec = ap (hop_listed k) (announced_before j h t ts l) ∙ in_front (eqb k j) h (hop_listed k (t ∷ ts))
    go (same e) rec = ap (hop_listed k) (announced_at j h t ts e) ∙ rw e (at_row (eqb k t.key) (hop_listed k ts))
    go (after l) rec = ap (hop_listed k) (announced_after j h t ts l) ∙ rw rec (past_row l (decided (eqb k t.key)))

-- one row of the feed gives its prefix its hop where its number is 0 or 4
hop_after : (room : ℕ) (list : List Row) (x : Reading) (k : ℕ)
    → hop_listed k (list_after room list x) ≡ or_else (cond (enters (row_number room list x)) (hop_for k x) none) (hop_listed k list)
unfolding list_after hop_for or_else
hop_after room list (bad n) k = go (enters (row_number room list (bad n)))
  where
    go : (b : Bool) → hop_listed k list ≡ or_else (cond b none none) (hop_listed k list)
    go true = refl
    go false = refl
hop_after room list (good j h) k = go (enters (row_number room list (good j h)))
  where
    go : (b : Bool) → hop_listed k (cond b (announced j h list) list) ≡ or_else (cond b (hop_for k (good j h)) none) (hop_listed k list)
    go true = hop_announced k j h list
    go false = refl

-- the rows of a feed from any list on: the hop of the last such row, or else the hop that the list had
hop_from : (room : ℕ) (list : List Row) (rows : List (List ℕ)) (k : ℕ)
    → hop_listed k (list_from room list rows) ≡ or_else (last_hop k (row_numbers_from room list rows) rows) (hop_listed k list)
unfolding list_from row_numbers_from last_hop or_else
hop_from room list [] k = refl
hop_from room list (b ∷ bs) k =
    hop_from room (list_after room list (read_row b)) bs k
    ∙ (ap (or_else (last_hop k (row_numbers_from room (list_after room list (read_row b)) bs) bs)) (hop_after room list (read_row b) k)
    ∙ sym (or_else_assoc (last_hop k (row_numbers_from room (list_after room list (read_row b)) bs) bs) _ (hop_listed k list)))

pub last_row_wins : (room : ℕ) (feed : List ℕ) (k : ℕ)
    → hop_listed k (imported_list room feed) ≡ last_hop k (row_numbers room feed) (rows_in feed)
unfolding imported_list row_numbers hop_listed
last_row_wins room feed k = hop_from room [] (rows_in feed) k ∙ or_else_none (last_hop k (row_numbers_from room [] (rows_in feed)) (rows_in feed))
