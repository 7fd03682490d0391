-- How the width comes from ascending keys: the walk starts at the segment's first key and keeps the width of all keys before its place. A
-- key of the segment may widen it, and at the first key behind the segment, or at the end, it is the width of all keys.
-- Assumes nothing.
use mathlib.Core.Path.{◌≡◌, sym, ap, ◌∙◌}
use mathlib.Core.Bool.{true}
use mathlib.Core.List.{List}
use Prim.Native.Nat.{ℕ, ◌+◌, ◌-◌, ◌*◌, ◌≤◌, ◌<◌, max}
use native.Mathlib.Omega.{arith}
use lib.ListN.{length, get_or, take, drop, length-take, length-drop}
use lib.Seq.{take_all, get_or-take, get_or-drop}
use borrow.Rule.Slice.PartMut.{mid_of}
use Rattle.ground.specs.Column.{ascends, lower}
use Rattle.ground.proofs.Lower.{lower_le}
use Rattle.cidr.specs.Prefix.{length_of}
use Rattle.segment.specs.Inside.Width.{width_in}
use Rattle.segment.proofs.WidthOf.{width_more, by_inside, width_before, width_behind, below_lower, from_lower}

pub record Widening (keys : List ℕ) (q first start i width : ℕ) : Type 0 where
  pub ascend : ascends keys ≡ true
  pub first_is : first ≡ q * 4194304
  pub segment : q < 65536
  pub from : start ≡ lower first keys
  pub is : width ≡ width_in q (take (start + i) keys)

pub widening_start : {keys : List ℕ} {q first start : ℕ} → ascends keys ≡ true → first ≡ q * 4194304 → q < 65536 → start ≡ lower first keys
    → Widening keys q first start 0 0
widening_start {keys} {q} {first} {start} a e s l = record {
  ascend = a;
  first_is = e;
  segment = s;
  from = l;
  is = sym (width_before q keys (start + 0) (λ j below. omega (arith, below_lower first keys a j (omega arith))));
}

module _ {keys : List ℕ} {q first start i width : ℕ} (s : Widening keys q first start i width) where
  abbrev rest : List ℕ
  rest = mid_of start (length keys - start) keys

  rest_long : length rest ≡ length keys - start
  rest_long = simp (length-take, length-drop) (omega arith)

  pub widening_end : length rest ≤ i → width ≡ width_in q keys
  widening_end l = s.is ∙ ap (width_in q) (take_all (start + i) keys (omega (arith, rest_long)))

  module _ (within : i < length rest) where
    here : get_or rest i 0 ≡ get_or keys (start + i) 0
    here = get_or-take (length keys - start) (drop start keys) i 0 (omega (arith, rest_long)) ∙ get_or-drop start keys i 0

    pub widening_behind : first + 4194304 ≤ get_or rest i 0 → width ≡ width_in q keys
    widening_behind l = s.is ∙ sym (width_behind q keys (start + i) s.ascend (omega (arith, s.first_is, here)))

    module _ (before : get_or rest i 0 < first + 4194304) where
      wider : width_in q (take (start + i + 1) keys) ≡ max width (length_of (get_or rest i 0) - 16)
      wider =
          let in_keys : start + i < length keys = omega (arith, rest_long) in
          let above : first ≤ get_or keys (start + i) 0 = from_lower first keys s.ascend (start + i) (omega (arith, s.from)) in_keys in
          width_more q keys (start + i) in_keys
          ∙ rw (here, ← s.is, by_inside q (get_or keys (start + i) 0) (omega (arith, s.first_is, above)) (omega (arith, s.first_is, here)))

      pub widening_on : {width' : ℕ} → width' ≡ max width (length_of (get_or rest i 0) - 16) → Widening keys q first start (i + 1) width'
      widening_on e =
          let next : start + (i + 1) ≡ start + i + 1 = omega arith in
          record { ascend = s.ascend; first_is = s.first_is; segment = s.segment; from = s.from; is = rw next (e ∙ sym wider) }

-- what the walk along the keys goes by
pub ruleset widening = (lower_le, widening_start, widening_end, widening_behind)
