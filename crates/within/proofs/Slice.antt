-- The rows inside a prefix stand together: in key order they come right after the prefix's own place, up to the first key whose network is
-- at the prefix's end or later. So they are a slice of the list, and its ends are places of two numbers among the keys.
-- Assumes nothing.
use mathlib.Core.Path.{◌≡◌, refl, sym, ap, ◌∙◌}
use mathlib.Core.Logic.{⊎_elim}
use mathlib.Core.Bool.{Bool, true, not, ◌&&◌, and-true, and-false}
use mathlib.Core.List.{List, [], ◌∷◌}
use Prim.Native.Nat.{ℕ, suc, ◌+◌, ◌-◌, ◌*◌, ◌≤◌, ◌<◌}
use native.Mathlib.Nat.{sub-zero}
use native.Mathlib.Omega.{arith}
use lib.Dec.{leb, ltb, eqb}
use lib.ListN.{take, drop}
use borrow.Author.Tests.{ltb-true, ltb-false, lt-ltb, le-ltb, le-leb, lt-leb, eq-eqb, ne_eqb}
use Rattle.ground.proofs.Truth.{decided}
use Rattle.ground.specs.Column.{ascends, lower}
use Rattle.ground.specs.Stretch.{among}
use Rattle.ground.proofs.Lower.{lower_past, lower_skip, lower_none}
use Rattle.cidr.specs.Prefix.{network, length_of, end_of, is_prefix, covers}
use Rattle.cidr.proofs.Prefix.{Prefix, prefix_parts, size_pos, within_holds, not_after}
use Rattle.cidr.proofs.Covers.{covers_later, covers_never_earlier}
use Rattle.routes.specs.Row.{Row, keys_of, those}
use Rattle.routes.specs.WellFormed.{ascending}
use Rattle.routes.proofs.Row.{those_same}
use Rattle.routes.proofs.WellFormed.{HalfGood, ascending_tail}
use Rattle.routes.proofs.Change.{Order, order}
use Rattle.within.specs.Own.{inner}

-- where the first number of an ascending column isn't below k, no later one is
none_lower : (k x : ℕ) (xs : List ℕ) → ascends (x ∷ xs) ≡ true → k ≤ x → lower k xs ≡ 0
none_lower k x xs a l = sym (lower_skip k x xs l) ∙ lower_none k x xs a l

-- the row's key is lo or greater, and below hi
abbrev pub between : ℕ → ℕ → Row → Bool
between lo hi r = leb lo r.key && ltb r.key hi

-- the rows from the first key that isn't below lo to the last that is below hi
abbrev pub slice_of : ℕ → ℕ → List Row → List Row
slice_of lo hi rows = take (lower hi (keys_of rows) - lower lo (keys_of rows)) (drop (lower lo (keys_of rows)) rows)

-- Where keys ascend, such a slice has the rows with keys from lo on and below hi.
module _ (lo hi : ℕ) (le : lo ≤ hi) where
  -- one row more at the front: before the slice, in it, behind it
  module _ (r : Row) (rs : List Row) (asc : ascends (keys_of (r ∷ rs)) ≡ true) (rec : those (between lo hi) rs ≡ slice_of lo hi rs) where
    sliced_before : r.key < lo → those (between lo hi) (r ∷ rs) ≡ slice_of lo hi (r ∷ rs)
    unfolding those
    sliced_before l =
        let both : suc (lower hi (keys_of rs)) - suc (lower lo (keys_of rs)) ≡ lower hi (keys_of rs) - lower lo (keys_of rs) = omega arith in
        rw (lower_past lo r.key (keys_of rs) l, lower_past hi r.key (keys_of rs) (omega arith), lt-leb lo r.key l)
        (rw both rec)

    sliced_in : lo ≤ r.key → r.key < hi → those (between lo hi) (r ∷ rs) ≡ slice_of lo hi (r ∷ rs)
    unfolding those
    sliced_in l u =
        let start = rw (none_lower lo r.key (keys_of rs) asc l, sub-zero) at rec in
        rw (le-leb lo r.key l, lt-ltb r.key hi u)
        (rw (lower_none lo r.key (keys_of rs) asc l, lower_past hi r.key (keys_of rs) u, sub-zero) (ap (r ∷◌) start))

    sliced_behind : hi ≤ r.key → those (between lo hi) (r ∷ rs) ≡ slice_of lo hi (r ∷ rs)
    unfolding those
    sliced_behind u =
        let l : lo ≤ r.key = omega arith in
        let nothing = rw (none_lower lo r.key (keys_of rs) asc l, none_lower hi r.key (keys_of rs) asc u) at rec in
        rw (le-leb lo r.key l, le-ltb r.key hi u)
        (rw (lower_none lo r.key (keys_of rs) asc l, lower_none hi r.key (keys_of rs) asc u) nothing)

  pub those_between : (rows : List Row) → ascending rows ≡ true → those (between lo hi) rows ≡ slice_of lo hi rows
  unfolding those ascending lower among
  those_between [] asc = refl
  those_between (r ∷ rs) asc =
      let rec = those_between rs (ascending_tail r rs asc) in
      ⊎_elim (λ e. sliced_before r rs asc rec (ltb-true _ _ e))
      (λ e.
      ⊎_elim (λ q. sliced_in r rs asc rec (ltb-false _ _ e) (ltb-true _ _ q)) (λ q. sliced_behind r rs asc rec (ltb-false _ _ q))
      (decided (ltb r.key hi)))
      (decided (ltb r.key lo))

module _ (k : ℕ) (p : Prefix k) (r : ℕ) (p' : Prefix r) where
  inside_between : (covers k r && not (eqb k r)) ≡ (leb (k + 1) r && ltb r (end_of k * 64))
  inside_between = go (order k r)
    where
      later : k < r → covers k r ≡ ltb r (end_of k * 64)
      later l = ⊎_elim
          (λ e.
          let to = ltb-true r (end_of k * 64) e in
          covers_later k r l p' ∙ within_holds k (network r) p (omega arith) (omega arith) ∙ sym e)
          (λ e.
          let past = ltb-false r (end_of k * 64) e in
          covers_later k r l p' ∙ not_after k (network r) (omega arith) ∙ sym e)
          (decided (ltb r (end_of k * 64)))

      go : Order k r → (covers k r && not (eqb k r)) ≡ (leb (k + 1) r && ltb r (end_of k * 64))
      go (Order.before l) =
          rw (le-leb (k + 1) r (omega arith), ne_eqb k r (λ e. omega arith)) (and-true (covers k r) ∙ later l)
      go (Order.same e) = rw (lt-leb (k + 1) r (omega arith), eq-eqb k r e) (and-false (covers k r))
      go (Order.after l) = rw (lt-leb (k + 1) r (omega arith), covers_never_earlier r k l p')

pub inner_slice : (k : ℕ) → is_prefix k ≡ true → (rows : List Row) → HalfGood rows → inner k rows ≡ slice_of (k + 1) (end_of k * 64) rows
unfolding inner
inner_slice k pre rows g =
    those_same (λ r. covers k r.key && not (eqb k r.key)) (between (k + 1) (end_of k * 64)) rows
    (λ r m. inside_between k (prefix_parts k pre) r.key (prefix_parts r.key (g.prefixed r m)))
    ∙ those_between (k + 1) (end_of k * 64) (omega (arith, size_pos (length_of k))) rows g.ascends
