-- Pulls from the feed's start on give what its rows say, all of them in their order, and then no row.
-- Assumes nothing.
use mathlib.Core.Path.{◌≡◌, refl, sym, ap, ◌∙◌}
use mathlib.Core.Logic.{◌⊎◌, inl, inr}
use mathlib.Core.Bool.{true, false}
use mathlib.Core.List.{List, [], ◌∷◌, map}
use mathlib.Core.Option.{none, some}
use Prim.Native.Nat.{ℕ, zero, suc, ◌+◌, ◌-◌, ◌≤◌, ◌<◌, min}
use native.Mathlib.Omega.{arith}
use lib.Dec.{ltb}
use lib.ListN.{length, take, drop}
use borrow.Author.Tests.{ltb-true, ltb-false}
use Rattle.ground.proofs.Truth.{decided}
use Rattle.std.specs.Prelude.{Result, Some, None}
use Rattle.rows.specs.declared.Row.{Row}
use Rattle.rows.specs.declared.RowFault.{RowFault}
use Rattle.rows.specs.declared.Reader.{Reader}
use Rattle.rows.specs.Rows.{rows_in, row_length}
use Rattle.rows.specs.Reading.{Reading, read_row, reading_of}
use Rattle.rows.specs.Pull.{Pulled, before, pull, pulls_from, pulls, PulledBy}
use Rattle.rows.proofs.Splitting.{rows_from, no_rows_at_end, rows_at_most}
use Rattle.rows.proofs.Pulling.{pull_at_end, pull_row}

module _ (feed : List ℕ) where
  -- behind the feed's end there is no row, so the place may as well be the end
  rows_behind : (k : ℕ) → rows_in (drop (min k (length feed)) feed) ≡ rows_in (drop k feed)
  rows_behind k = go (decided (ltb k (length feed)))
    where
      go : (ltb k (length feed) ≡ true) ⊎ (ltb k (length feed) ≡ false) → rows_in (drop (min k (length feed)) feed) ≡ rows_in (drop k feed)
      go (inl t) =
          let l = ltb-true k (length feed) t in
          let same : min k (length feed) ≡ k = omega arith in
          rw same
      go (inr t) =
          let l = ltb-false k (length feed) t in
          let end : min k (length feed) ≡ length feed = omega arith in
          rw end (no_rows_at_end feed (length feed) (omega arith) ∙ sym (no_rows_at_end feed k l))

  -- what a pull that gives a row says of the feed: the row's bytes, its reading, and that the other rows follow from the next place on
  pub record PulledRow (at : ℕ) (x : Reading) (next : ℕ) : Type 0 where
    pub bytes : List ℕ
    pub reads : x ≡ read_row bytes
    pub rest : rows_in (drop at feed) ≡ bytes ∷ rows_in (drop next feed)
    pub on : at < next
    pub within : next ≤ length feed

  pulled_some : (at next : ℕ) (x : Reading) → record { reading = some x; next = next } ≡ pull feed at → PulledRow at x next
  pulled_some at next x e = go (decided (ltb at (length feed)))
    where
      go : (ltb at (length feed) ≡ true) ⊎ (ltb at (length feed) ≡ false) → PulledRow at x next
      go (inl t) =
          let l = ltb-true at (length feed) t in
          let end : ℕ = at + row_length (drop at feed) in
          let whole : ◌≡◌ {A = Pulled} (record { reading = some x; next = next })
          (record { reading = some (read_row (take (end - at) (drop at feed))); next = min (end + 1) (length feed) }) =
          e ∙ pull_row feed at end l refl in
          let same : some x ≡ some (read_row (take (end - at) (drop at feed))) = ap (λ p. p.reading) whole in
          let there : next ≡ min (end + 1) (length feed) = ap (λ p. p.next) whole in
          record {
            bytes = take (end - at) (drop at feed);
            reads = cc;
            rest = rows_from feed at end l refl ∙ ap (λ rows. take (end - at) (drop at feed) ∷ rows) (rw there (sym (rows_behind (end + 1))));
            on = omega arith;
            within = omega arith;
          }
      go (inr t) =
          let none_there : some x ≡ none = ap (λ p. p.reading) (e ∙ pull_at_end feed at (ltb-false at (length feed) t)) in cc

  pulled_none : (at next : ℕ) → record { reading = none; next = next } ≡ pull feed at → rows_in (drop at feed) ≡ []
  pulled_none at next e = go (decided (ltb at (length feed)))
    where
      go : (ltb at (length feed) ≡ true) ⊎ (ltb at (length feed) ≡ false) → rows_in (drop at feed) ≡ []
      go (inl t) =
          let end : ℕ = at + row_length (drop at feed) in
          let a_row : none ≡ some (read_row (take (end - at) (drop at feed))) =
          ap (λ p. p.reading) (e ∙ pull_row feed at end (ltb-true at (length feed) t) refl) in
          cc
      go (inr t) = no_rows_at_end feed at (ltb-false at (length feed) t)

  -- one pull more
  pulls_step : (n at : ℕ) {p : Pulled} → pull feed at ≡ p → pulls_from (suc n) feed at ≡ before p.reading (pulls_from n feed p.next)
  unfolding pulls_from
  pulls_step n at e = ap (λ p. before p.reading (pulls_from n feed p.next)) e

  none_left : (at : ℕ) (rows : List (List ℕ)) → length rows ≤ 0 → pulls_from 0 feed at ≡ map read_row rows
  unfolding pulls_from
  none_left at [] h = refl
  none_left at (r ∷ rs) h = absurd (omega arith)

  -- from any place on, where pulls for all rows from there are allowed
  pub pulls_are_rows_from : (n at : ℕ) → length (rows_in (drop at feed)) ≤ n → pulls_from n feed at ≡ map read_row (rows_in (drop at feed))
  pulls_are_rows_from zero at h = none_left at (rows_in (drop at feed)) h
  pulls_are_rows_from (suc n) at h = go (decided (ltb at (length feed))) (λ k few. pulls_are_rows_from n k few)
    where
      go : (ltb at (length feed) ≡ true) ⊎ (ltb at (length feed) ≡ false)
          → ((k : ℕ) → length (rows_in (drop k feed)) ≤ n → pulls_from n feed k ≡ map read_row (rows_in (drop k feed)))
          → pulls_from (suc n) feed at ≡ map read_row (rows_in (drop at feed))
      go (inl t) later =
          let l = ltb-true at (length feed) t in
          let end : ℕ = at + row_length (drop at feed) in
          let rows = rows_from feed at end l refl in
          let next : ℕ = min (end + 1) (length feed) in
          let few = ap length (rows_behind (end + 1)) in
          pulls_step n at (pull_row feed at end l refl)
          ∙ (ap (λ rest. read_row (take (end - at) (drop at feed)) ∷ rest)
          (later next (omega (arith, few, ap length rows)) ∙ ap (map read_row) (rows_behind (end + 1)))
          ∙ ap (map read_row) (sym rows))
      go (inr t) later =
          let l = ltb-false at (length feed) t in
          pulls_step n at (pull_at_end feed at l) ∙ ap (map read_row) (sym (no_rows_at_end feed at l))

  -- the feed's rows in their order, what each says by itself
  pub pulls_are_rows : pulls feed ≡ map read_row (rows_in feed)
  unfolding pulls
  pulls_are_rows = pulls_are_rows_from (length feed) 0 (rows_at_most feed)

-- a pull of a reader
module _ {was is : Reader} where
  pub pulled_row : {x : Result Row RowFault} → PulledBy was (Some x) is → PulledRow was.feed.now was.place (reading_of x) is.place
  pulled_row p = pulled_some was.feed.now was.place is.place _ p.gave

  pub pulled_end : PulledBy was None is → rows_in (drop was.place was.feed.now) ≡ []
  pulled_end p = pulled_none was.feed.now was.place is.place p.gave

-- A host pulls a reader until there is no row, and has had these rows.
pub data PullsAll : Reader → List (Result Row RowFault) → Type 0 where
  ends : {r r' : Reader} → PulledBy r None r' → PullsAll r []
  goes_on : {r r' : Reader} {x : Result Row RowFault} {xs : List (Result Row RowFault)} → PulledBy r (Some x) r' → PullsAll r' xs → PullsAll r (x ∷ xs)

pulls_in_turn : {r : Reader} {xs : List (Result Row RowFault)} → PullsAll r xs → (n : ℕ) → length xs < n
    → pulls_from n r.feed.now r.place ≡ map reading_of xs
pulls_in_turn (ends p) zero l = absurd (omega arith)
pulls_in_turn {r} (ends p) (suc n) l = pulls_step r.feed.now n r.place (sym p.gave)
pulls_in_turn (goes_on p more) zero l = absurd (omega arith)
pulls_in_turn {r} (goes_on {r' = r'} {x = x} p more) (suc n) l =
    pulls_step r.feed.now n r.place (sym p.gave)
    ∙ (ap (λ f. reading_of x ∷ pulls_from n f.now r'.place) (sym p.same_feed)
    ∙ ap (λ rest. reading_of x ∷ rest) (pulls_in_turn more n (omega arith)))

-- They are the rows from the reader's place on, all of them in their order.
pub reader_gives_rows : (r : Reader) (xs : List (Result Row RowFault)) → PullsAll r xs
    → map reading_of xs ≡ map read_row (rows_in (drop r.place r.feed.now))
reader_gives_rows r xs p =
    let feed = r.feed.now in
    let n : ℕ = suc (length xs + length (rows_in (drop r.place feed))) in
    sym (pulls_in_turn p n (omega arith)) ∙ pulls_are_rows_from feed n r.place (omega arith)
