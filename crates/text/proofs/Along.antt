-- A walk along a list's rows, that counts the bytes of their texts or puts the texts one behind the other. It has the rows from its place
-- on before it: what it does with those completes what was done with the rows before. And how many bytes the text has at the most.
-- Assumes nothing.
use mathlib.Core.Path.{◌≡◌, refl, ap, ◌∙◌}
use mathlib.Core.Bool.{true}
use mathlib.Core.List.{List, [], ◌∷◌, ◌++◌}
use Prim.Native.Nat.{ℕ, zero, suc, ◌+◌, ◌*◌, ◌/◌, ◌≤◌, ◌<◌, min}
use native.Mathlib.Omega.{arith}
use lib.Dec.{leb, ltb}
use lib.ListN.{length, get_or, take, length-append}
use lib.Seq.{length-take-le, get_or-take}
use borrow.Author.Tests.{ltb-true}
use Rattle.ground.proofs.Truth.{and_left, and_right}
use Rattle.cidr.specs.Prefix.{is_prefix, network, length_of, addresses}
use Rattle.routes.specs.Row.{row, rows_of, list_room, top_room}
use Rattle.routes.specs.WellFormed.{prefixes, ascending, hops_given, half_rows, good_rows, well_formed}
use Rattle.routes.proofs.RowsOf.{row_at, every_at}
use Rattle.routes.proofs.Rest.{rest, rest_start, rest_next, rest_end}
use Rattle.routes.proofs.ListTest.{well_half, half_room}
use Rattle.runs.proofs.WholeList.{in_keys, in_hops}
use Rattle.digits.specs.Digits.{row_text}
use Rattle.text.specs.Text.{text_of}
use Rattle.digits.specs.Putting.{Wrote, Fits, Put}
use Rattle.digits.proofs.Sizes.{row_at_most}
use Rattle.digits.proofs.Putting.{put_none, put_front, first_fits, rest_fits, put_then, put_long}

-- a well-formed list has no more rows than the top room
pub in_top : (count : ℕ) (keys hops : List ℕ) → well_formed count keys hops ≡ true → count ≤ top_room
unfolding list_room
in_top count keys hops e = omega (arith, half_room count keys hops (well_half count keys hops e))

-- the network of each row's key is an address
pub network_small : (count : ℕ) (keys hops : List ℕ) → well_formed count keys hops ≡ true
    → (i : ℕ) → i < count → get_or keys i 0 / 64 < addresses
unfolding well_formed good_rows half_rows prefixes is_prefix
network_small count keys hops e i l =
    let rows = rows_of count keys hops in
    let in_order = well_half count keys hops e in
    let half = and_right (hops_given rows) (half_rows rows) (and_right (leb count (list_room keys hops)) (good_rows rows) e) in
    let key = every_at (λ r. is_prefix r.key) count keys hops (and_left (prefixes rows) (ascending rows) half) i l
    (omega (arith, in_keys count keys hops in_order)) (omega (arith, in_hops count keys hops in_order)) in
    let k = get_or keys i 0 in
    ltb-true (network k) addresses (and_left (ltb (network k) addresses) _ (and_right (leb (length_of k) 32) _ key))

-- A turn of a walk over the list's keys and hops side by side: there is a row at its place, and the walk has that row's key and hop.
pub record Turn (count : ℕ) (keys hops : List ℕ) (i key hop : ℕ) : Type 0 where
  pub ahead : i < count
  pub key_is : key ≡ get_or keys i 0
  pub hop_is : hop ≡ get_or hops i 0

module _ (count : ℕ) (keys hops : List ℕ) (well : well_formed count keys hops ≡ true) where
  pub keys_long : length (take count keys) ≡ count
  keys_long = length-take-le count keys (in_keys count keys hops (well_half count keys hops well))

  pub at_turn : {i key hop : ℕ}
      → (i < length (take count keys)) × (i < length hops) × ((d : ℕ) → key ≡ get_or (take count keys) i d) × ((d : ℕ) → hop ≡ get_or hops i d)
      → Turn count keys hops i key hop
  at_turn {i} t = record {
    ahead = omega (arith, keys_long, t.0);
    key_is = t.2 0 ∙ get_or-take count keys i 0 (omega (arith, keys_long, t.0));
    hop_is = t.3 0;
  }

  -- after the last turn no row is left
  pub turns_over : {i : ℕ} → i ≡ min (length (take count keys)) (length hops) → count ≤ i
  turns_over e = omega (arith, keys_long, in_hops count keys hops (well_half count keys hops well))

-- n rows have at most 25 n bytes
pub text_at_most : (n : ℕ) (keys hops : List ℕ) → ((i : ℕ) → i < n → get_or keys i 0 / 64 < 4294967296) → ((i : ℕ) → get_or hops i 0 < 65536)
    → length (text_of (rows_of n keys hops)) ≤ 25 * n
unfolding rows_of text_of
text_at_most zero keys hops nets small = omega arith
text_at_most (suc n) [] hops nets small = omega arith
text_at_most (suc n) (k ∷ keys) [] nets small = omega arith
text_at_most (suc n) (k ∷ keys) (h ∷ hops) nets small =
    let one = row_at_most k h (nets 0 (omega arith)) (small 0) in
    let more = text_at_most n keys hops (λ i l. nets (suc i) (omega arith)) (λ i. small (suc i)) in
    omega (arith, length-append (row_text (row k h)) (text_of (rows_of n keys hops)))

module _ (count : ℕ) (keys hops : List ℕ) where
  abbrev pub ahead : ℕ → List ℕ
  ahead i = text_of (rest count keys hops i)

  pub ahead_start : ahead 0 ≡ text_of (rows_of count keys hops)
  ahead_start = ap text_of (rest_start count keys hops)

  module _ (well : well_formed count keys hops ≡ true) (i : ℕ) where
    pub ahead_next : i < count → ahead i ≡ row_text (row_at keys hops i) ++ ahead (i + 1)
    unfolding text_of
    ahead_next l = ap text_of (rest_next count keys hops i l (half_room count keys hops (well_half count keys hops well)))

    pub ahead_end : count ≤ i → ahead i ≡ []
    unfolding text_of
    ahead_end l = ap text_of (rest_end count keys hops i l)

-- counting: what was counted and the length of the text ahead make the whole
pub record Counting (count : ℕ) (keys hops : List ℕ) (bytes i : ℕ) : Type 0 where
  pub within : i ≤ count
  pub few : bytes ≤ 40 * i
  pub whole : bytes + length (ahead count keys hops i) ≡ length (text_of (rows_of count keys hops))

pub counting_start : (count : ℕ) (keys hops : List ℕ) → Counting count keys hops 0 0
counting_start count keys hops =
    record { within = omega arith; few = omega arith; whole = omega (arith, ap length (ahead_start count keys hops)) }

module _ {count : ℕ} {keys hops : List ℕ} (well : well_formed count keys hops ≡ true) {bytes i : ℕ}
    (s : Counting count keys hops bytes i) where
  pub counting_next : {key hop n : ℕ} → Turn count keys hops i key hop → n ≡ length (row_text (row key hop)) → n ≤ 40
      → Counting count keys hops (bytes + n) (i + 1)
  counting_next {n = n} t e' small =
      let l = t.ahead in
      let e : n ≡ length (row_text (row_at keys hops i)) = rw (t.key_is, t.hop_is) at e' in
      let text = row_text (row_at keys hops i) in
      let next = ap length (ahead_next count keys hops well i l) ∙ length-append text (ahead count keys hops (i + 1)) in
      record { within = omega arith; few = omega (arith, s.few); whole = omega (arith, s.whole) }

  pub counting_end : count ≤ i → bytes ≡ length (text_of (rows_of count keys hops))
  counting_end l = omega (arith, s.whole, ap length (ahead_end count keys hops well i l))

-- putting: there is room for the text ahead, and where that is put the whole text is there
pub record Putting (count : ℕ) (keys hops old out : List ℕ) (at i : ℕ) : Type 0 where
  pub within : i ≤ count
  pub fits : Fits at (ahead count keys hops i) out
  pub goes_on : {s : ℕ} {new : List ℕ} → Put at (ahead count keys hops i) s out new → Put 0 (text_of (rows_of count keys hops)) s old new
  pub as_long : length out ≡ length old

pub putting_start : (count : ℕ) (keys hops old : List ℕ) → length (text_of (rows_of count keys hops)) ≤ length old
    → Putting count keys hops old old 0 0
putting_start count keys hops old room = record {
  within = omega arith;
  fits = record { room = omega (arith, ap length (ahead_start count keys hops)) };
  goes_on = λ p. rw (ahead_start count keys hops) at p;
  as_long = refl;
}

module _ {count : ℕ} {keys hops old out : List ℕ} (well : well_formed count keys hops ≡ true) {at i : ℕ}
    (s : Putting count keys hops old out at i) where
  module _ (l : i < count) where
    cut : Fits at (row_text (row_at keys hops i) ++ ahead count keys hops (i + 1)) out
    cut = rw (ahead_next count keys hops well i l) at s.fits

    row_fits_there : Fits at (row_text (row_at keys hops i)) out
    row_fits_there = first_fits (ahead count keys hops (i + 1)) cut

    puts : {r : ℕ} {new : List ℕ} → Put at (row_text (row_at keys hops i)) r out new → Putting count keys hops old new r (i + 1)
    puts p = record {
      within = omega arith;
      fits = rest_fits (ahead count keys hops (i + 1)) cut p;
      goes_on = λ q. s.goes_on (rw (ahead_next count keys hops well i l) (put_then (ahead count keys hops (i + 1)) cut p q));
      as_long = put_long p row_fits_there.room ∙ s.as_long;
    }

  module _ {key hop : ℕ} (t : Turn count keys hops i key hop) where
    pub row_fits : Fits at (row_text (row key hop)) out
    row_fits = rw (t.key_is, t.hop_is) (row_fits_there t.ahead)

    pub putting_next : {r : ℕ} {new : List ℕ} → Put at (row_text (row key hop)) r out new → Putting count keys hops old new r (i + 1)
    putting_next p = puts t.ahead (rw (t.key_is, t.hop_is) at p)

  pub putting_end : count ≤ i → Wrote (text_of (rows_of count keys hops)) at old out
  putting_end l = put_front (s.goes_on (rw (ahead_end count keys hops well i l) (put_none at out)))
