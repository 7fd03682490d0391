-- Rule 9.3: a block has one hop. A listed prefix of at most 16 + width bits holds all addresses of a block or none, since it is no smaller
-- than a block. A longer one has its network in another segment, or else the width would be greater, and holds no address of this one.
-- So the same rows hold all addresses of a block.
-- Assumes nothing.
use mathlib.Core.Path.{◌≡◌, refl, sym, ap, ◌∙◌}
use mathlib.Core.Logic.{⊎_elim}
use mathlib.Core.Bool.{Bool, true, false, cond}
use mathlib.Core.List.Memᴰ
use mathlib.Core.List.{List, [], ◌∷◌}
use Prim.Native.Nat.{ℕ, ◌+◌, ◌-◌, ◌*◌, ◌/◌, ◌%◌, ◌^◌, ◌≤◌, ◌<◌, zero-le}
use native.Mathlib.Nat.{add_comm, div-add-mod', div-mul-le_self, le_trans, le-max_left, le-max_right, max-le}
use native.Mathlib.Omega.{arith}
use lib.Dec.{leb, eqb}
use lib.Pow.{shr-shr, shl-shr, field, split}
use borrow.Author.Tests.{eq-eqb, leb-true, leb-false}
use Rattle.ground.proofs.Truth.{and_left, and_right, decided}
use Rattle.cidr.specs.Prefix.{network, length_of, size, host_bits, is_prefix, holds}
use Rattle.cidr.proofs.Prefix.{prefix_parts, holds_is}
use Rattle.routes.specs.Row.{Row, every, those}
use Rattle.routes.specs.Plain.{matching, longest, hop_of, plain}
use Rattle.routes.specs.WellFormed.{prefixes}
use Rattle.routes.proofs.Row.{Has}
use Rattle.segment.specs.Packed.{width, block_hop}
use Rattle.packed.specs.Lookup.{block_of}

-- a row whose network is in the segment makes the width no less than the row's length, less 16
pub width_least : (q : ℕ) (rows : List Row) (r : Row) → Has r rows → network r.key / 65536 ≡ q → length_of r.key - 16 ≤ width q rows
unfolding width
width_least q [] r m e = absurd (Memᴰ.not-nil m)
width_least q (s ∷ ss) r m e =
    ⊎_elim (λ p. le_trans (first p) (le-max_left _ (width q ss)))
    (λ n. le_trans (width_least q ss r n e) (le-max_right _ (width q ss)))
    (Memᴰ.cases_cons m)
  where
    first : r ≡ s → length_of r.key - 16 ≤ cond (eqb (network s.key / 65536) q) (length_of s.key - 16) 0
    first p = rw (← p, eq-eqb (network r.key / 65536) q e) (omega arith)

-- no prefix is longer than 32, so no width is above 16
pub width_most : (q : ℕ) (rows : List Row) → prefixes rows ≡ true → width q rows ≤ 16
unfolding width prefixes every
width_most q [] e = zero-le
width_most q (r ∷ rs) e =
    max-le (part (eqb (network r.key / 65536) q) (prefix_parts r.key (and_left (is_prefix r.key) _ e)).short)
    (width_most q rs (and_right (is_prefix r.key) _ e))
  where
    part : (b : Bool) → length_of r.key ≤ 32 → cond b (length_of r.key - 16) 0 ≤ 16
    part true l = omega arith
    part false l = zero-le

-- two numbers that differ in their last k bits only differ in their last m only, if m is no less
shifted_more : (a b k m : ℕ) → k ≤ m → a / 2 ^ k ≡ b / 2 ^ k → a / 2 ^ m ≡ b / 2 ^ m
shifted_more a b k m l e =
    let s : k + (m - k) ≡ m = omega arith in
    rw (← s, ← shr-shr a k (m - k), ← shr-shr b k (m - k), e)

-- a number less its remainder, as a multiple
cleared : (a m : ℕ) → a - a % m ≡ a / m * m
cleared a m = omega (arith, div-add-mod' a m)

module _ (key : ℕ) where
  -- a prefix holds both of two addresses or neither, if they differ in some of its host bits only
  short_same : (a b k : ℕ) → k ≤ 32 - length_of key → a / 2 ^ k ≡ b / 2 ^ k → holds key a ≡ holds key b
  unfolding holds host_bits size
  short_same a b k l e =
      rw (cleared a (2 ^ (32 - length_of key)), cleared b (2 ^ (32 - length_of key)), shifted_more a b k (32 - length_of key) l e)

  -- a prefix of length 16 or more holds addresses of its network's segment only
  long_own : (a : ℕ) → 16 ≤ length_of key → holds key a ≡ true → network key / 65536 ≡ a / 65536
  unfolding host_bits size
  long_own a l h =
      shifted_more (network key) a (32 - length_of key) 16 (omega arith)
      (rw (← holds_is key a h, cleared a (2 ^ (32 - length_of key))) (shl-shr (a / 2 ^ (32 - length_of key)) (32 - length_of key)))

  -- and none of another segment
  long_other : (a q : ℕ) → 16 ≤ length_of key → (network key / 65536 ≡ q → ⊥) → a / 65536 ≡ q → holds key a ≡ false
  long_other a q l n e = ⊎_elim (λ h. absurd (n (long_own a l h ∙ e))) (λ h. h) (decided (holds key a))

-- an address without the last bits, by its segment and its block
block_shift : (w a : ℕ) → a / 2 ^ (16 - w) ≡ a / 65536 * 2 ^ (16 - (16 - w)) + block_of w a
unfolding block_of
block_shift w a = cut (16 - (16 - w)) (16 - w) (omega arith)
  where
    cut : (j k : ℕ) → j + k ≡ 16 → a / 2 ^ k ≡ a / 65536 * 2 ^ j + a % 65536 / 2 ^ k
    cut j k s =
        let whole : 2 ^ (j + k) ≡ 65536 = ap (2 ^◌) s in
        sym (split (a / 2 ^ k) j) ∙ rw (shr-shr a k j, add_comm k j, ← field a j k, whole)

module _ (q w a b : ℕ) (here : a / 65536 ≡ q) (there : b / 65536 ≡ q) (block : block_of w a ≡ block_of w b) where
  -- two addresses of one block are both held by a prefix or neither is, if the prefix has at most 16 + w bits or is of another segment
  same_held : (key : ℕ) → (network key / 65536 ≡ q → length_of key - 16 ≤ w) → holds key a ≡ holds key b
  same_held key fits = ⊎_elim
      (λ e. short_same key a b (16 - w) (omega (arith, leb-true)) (block_shift w a ∙ rw (here, block, ← there) (sym (block_shift w b))))
      (λ e. long_other key a q (omega (arith, leb-false)) (outside e) here
      ∙ sym (long_other key b q (omega (arith, leb-false)) (outside e) there))
      (decided (leb (length_of key) (16 + w)))
    where
      outside : leb (length_of key) (16 + w) ≡ false → network key / 65536 ≡ q → ⊥
      outside e p = omega (arith, leb-false, fits p)

-- tests that agree on the listed rows pick the same of them
those_agree : (p p' : Row → Bool) (rows : List Row) → ((r : Row) → Has r rows → p r ≡ p' r) → those p rows ≡ those p' rows
unfolding those
those_agree p p' [] h = refl
those_agree p p' (r ∷ rs) h = rw (h r (Memᴰ.head refl), those_agree p p' rs (λ s m. h s (Memᴰ.tail m)))

module _ (q : ℕ) (rows : List Row) where
  -- Rule 9.3: no listed prefix begins or ends inside a block, so its addresses are held by the same rows.
  pub same_rows : (a b : ℕ) → a / 65536 ≡ q → b / 65536 ≡ q → block_of (width q rows) a ≡ block_of (width q rows) b
      → matching a rows ≡ matching b rows
  unfolding matching
  same_rows a b here there block =
      those_agree _ _ rows (λ r m. same_held q (width q rows) a b here there block r.key (width_least q rows r m))

  -- so they have one plain answer
  pub same_hop : (a b : ℕ) → a / 65536 ≡ q → b / 65536 ≡ q → block_of (width q rows) a ≡ block_of (width q rows) b
      → plain rows a ≡ plain rows b
  unfolding plain
  same_hop a b here there block = ap (λ m. hop_of (longest m)) (same_rows a b here there block)

  -- Rule 9.3: the block's hop is the plain answer at each of its addresses. This needs no well-formed list.
  pub one_hop : (a : ℕ) → a / 65536 ≡ q → plain rows a ≡ block_hop q rows (width q rows) (block_of (width q rows) a)
  unfolding block_hop block_of
  one_hop a here = same_hop a (q * 65536 + t * s) here (omega (arith, inside)) first
    where
      s : ℕ
      s = 2 ^ (16 - width q rows)

      t : ℕ
      t = a % 65536 / s

      inside : t * s < 65536
      inside = omega (arith, div-mul-le_self (a % 65536) s)

      first : a % 65536 / s ≡ (q * 65536 + t * s) % 65536 / s
      first =
          let low : (q * 65536 + t * s) % 65536 ≡ t * s = omega (arith, inside) in
          rw low (sym (shl-shr t (16 - width q rows)))
