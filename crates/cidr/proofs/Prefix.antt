-- What a prefix is and which addresses it holds, as facts about numbers: a prefix holds the addresses from its network on, as many as its
-- size, and of all prefixes of one length at most one holds an address.
-- Assumes nothing.
use mathlib.Core.Path.{◌≡◌, refl, sym, ap, ◌∙◌, subst}
use mathlib.Core.Logic.{⊎_elim}
use mathlib.Core.Bool.{true, false, ◌&&◌}
use Prim.Native.Nat.{ℕ, ◌+◌, ◌-◌, ◌*◌, ◌/◌, ◌%◌, ◌^◌, ◌≤◌, ◌<◌, zero-le}
use native.Mathlib.Nat.{mod-lt, mod-le, mod-add-mod, mod-eq_of_lt, zero-add, add-sub_of_le, add-sub_cancel, lt_of_not-le}
use native.Mathlib.Nat.{le_of_lt, mul-le-mul_right, suc-mul}
use native.Mathlib.Omega.{arith}
use lib.Dec.{leb, ltb, eqb}
use lib.Pow.{pow_pos, pow-add, mod-pow-add}
use borrow.Author.Tests.{leb-true, ltb-true, eqb-true, le-leb, lt-ltb, eq-eqb}
use Rattle.ground.proofs.Truth.{and_left, and_right, and_both, decided, never_both}
use Rattle.cidr.specs.Prefix.{addresses, key_of, network, length_of, size, end_of, host_bits, is_prefix, holds, covers}

pub size_pos : (len : ℕ) → 0 < size len
unfolding size
size_pos len = pow_pos (32 - len)

-- the parts of a prefix
pub record Prefix (key : ℕ) : Type 0 where
  pub short : length_of key ≤ 32
  pub within : network key < addresses
  pub aligned : host_bits (length_of key) (network key) ≡ 0

module _ (key : ℕ) (e : is_prefix key ≡ true) where
  rest : (ltb (network key) addresses && eqb (host_bits (length_of key) (network key)) 0) ≡ true
  unfolding is_prefix
  rest = and_right (leb (length_of key) 32) _ e

  pub prefix_parts : Prefix key
  unfolding is_prefix
  prefix_parts = record {
    short = leb-true _ _ (and_left (leb (length_of key) 32) _ e);
    within = ltb-true _ _ (and_left (ltb (network key) addresses) _ rest);
    aligned = eqb-true _ _ (and_right (ltb (network key) addresses) _ rest);
  }

pub parts_prefix : (key : ℕ) → Prefix key → is_prefix key ≡ true
unfolding is_prefix
parts_prefix key p =
    and_both (le-leb _ _ p.short) (and_both (lt-ltb _ _ p.within) (eq-eqb _ _ p.aligned))

-- a key is its network and its length
pub key_split : (key : ℕ) → key_of (network key) (length_of key) ≡ key
key_split key = omega arith

pub network_key : (net len : ℕ) → len < 64 → network (key_of net len) ≡ net
network_key net len h = omega arith

pub length_key : (net len : ℕ) → len < 64 → length_of (key_of net len) ≡ len
length_key net len h = omega arith

pub host_bits_lt : (len a : ℕ) → host_bits len a < size len
unfolding host_bits
host_bits_lt len a = mod-lt a (size_pos len)

pub host_bits_le : (len a : ℕ) → host_bits len a ≤ a
unfolding host_bits
host_bits_le len a = mod-le a (size len)

pub holds_is : (key a : ℕ) → holds key a ≡ true → a - host_bits (length_of key) a ≡ network key
unfolding holds
holds_is key a e = eqb-true _ _ e

-- the key of the prefix of a length that holds an address: it does, and of all prefixes of that length no other one does
abbrev pub key_around : ℕ → ℕ → ℕ
key_around a len = key_of (a - host_bits len a) len

pub key_around_holds : (a len : ℕ) → len < 64 → holds (key_around a len) a ≡ true
unfolding holds
key_around_holds a len h =
    rw (length_key (a - host_bits len a) len h, network_key (a - host_bits len a) len h) (eq-eqb (a - host_bits len a) _ refl)

pub only_key_around : (key a : ℕ) → holds key a ≡ true → key ≡ key_around a (length_of key)
only_key_around key a e = sym (key_split key) ∙ ap (λ n. key_of n (length_of key)) (sym (holds_is key a e))

pub same_key : (k k' a : ℕ) → length_of k ≡ length_of k' → holds k a ≡ true → holds k' a ≡ true → k ≡ k'
same_key k k' a e h h' = only_key_around k a h ∙ ap (key_around a) e ∙ sym (only_key_around k' a h')

-- what a prefix holds lies between its network and one past its end
pub holds_from : (key a : ℕ) → holds key a ≡ true → network key ≤ a
holds_from key a e = subst (λ n. n ≤ a) (holds_is key a e) (omega arith)

pub holds_to : (key a : ℕ) → holds key a ≡ true → a < end_of key
holds_to key a e = omega (arith, holds_is key a e, host_bits_lt (length_of key) a, host_bits_le (length_of key) a)

-- and all of that is held
host_bits_past : (len net d : ℕ) → host_bits len net ≡ 0 → d < size len → host_bits len (net + d) ≡ d
unfolding host_bits
host_bits_past len net d e h =
    sym (mod-add-mod net (size len) d) ∙ (ap (λ x. (x + d) % size len) e ∙ (ap (λ x. x % size len) (zero-add d) ∙ mod-eq_of_lt h))

pub within_holds : (key a : ℕ) → Prefix key → network key ≤ a → a < end_of key → holds key a ≡ true
unfolding holds
within_holds key a p from to = eq-eqb _ _ (subst (λ x. x - host_bits (length_of key) x ≡ network key) there step)
  where
    there : network key + (a - network key) ≡ a
    there = add-sub_of_le from

    step : network key + (a - network key) - host_bits (length_of key) (network key + (a - network key)) ≡ network key
    step =
        rw (host_bits_past (length_of key) (network key) (a - network key) p.aligned (omega arith))
        (add-sub_cancel (network key) (a - network key))

-- before its network and from its end on it holds nothing; past its network, what isn't held is past its end
pub not_before : (key a : ℕ) → a < network key → holds key a ≡ false
not_before key a l = ⊎_elim (λ e. absurd (omega (arith, holds_from key a e))) (λ e. e) (decided (holds key a))

pub not_after : (key a : ℕ) → end_of key ≤ a → holds key a ≡ false
not_after key a l = ⊎_elim (λ e. absurd (omega (arith, holds_to key a e))) (λ e. e) (decided (holds key a))

pub ended_of_not : (key a : ℕ) → Prefix key → network key ≤ a → holds key a ≡ false → end_of key ≤ a
ended_of_not key a p from e =
    let no_more : ¬ (a < end_of key) = λ lt. never_both (within_holds key a p from lt) e in
    omega arith

-- Rule 2.9: of two prefixes one inside the other, the shorter has the smaller key.
pub covers_before : (key other : ℕ) → covers key other ≡ true → length_of key < length_of other → key < other
unfolding covers
covers_before key other e long =
    let held = and_right (leb (length_of key) (length_of other)) (holds key (network other)) e in
    let from : network key ≤ network other = holds_from key (network other) held in
    omega (arith, key_split key, key_split other)

-- a longer prefix leaves no more host bits
host_bits_fall : (len len' a : ℕ) → len' ≤ len → host_bits len a ≤ host_bits len' a
unfolding host_bits size
host_bits_fall len len' a h =
    let e : 32 - len' ≡ (32 - len') - (32 - len) + (32 - len) = omega arith in
    rw e (omega (arith, mod-pow-add a ((32 - len') - (32 - len)) (32 - len)))

-- of two prefixes that hold an address, the one with the greater key is the longer
pub longer_later : (k k' a : ℕ) → k < k' → holds k a ≡ true → holds k' a ≡ true → length_of k < length_of k'
longer_later k k' a lt h h' =
    lt_of_not-le (λ e. omega (arith, host_bits_fall (length_of k) (length_of k') a e, holds_is k a h, holds_is k' a h'))

-- and it ends no later
block_end : (a j n : ℕ) → a % 2 ^ (j + n) + 2 ^ n ≤ a % 2 ^ n + 2 ^ (j + n)
block_end a j n =
    let q = a / 2 ^ n % 2 ^ j in
    let fits : q * 2 ^ n + 2 ^ n ≤ 2 ^ j * 2 ^ n = rw suc-mul at (mul-le-mul_right (2 ^ n) (mod-lt (a / 2 ^ n) (pow_pos j))) in
    rw (mod-pow-add a j n, pow-add 2 j n) (omega arith)

host_bits_end : (len len' a : ℕ) → len ≤ len' → host_bits len a + size len' ≤ host_bits len' a + size len
unfolding host_bits size
host_bits_end len len' a h =
    let e : 32 - len ≡ (32 - len) - (32 - len') + (32 - len') = omega arith in
    rw e (block_end a ((32 - len) - (32 - len')) (32 - len'))

pub ends_earlier : (k k' a : ℕ) → k < k' → holds k a ≡ true → holds k' a ≡ true
    → end_of k' ≤ end_of k
ends_earlier k k' a lt h h' =
    let ends = host_bits_end (length_of k) (length_of k') a (le_of_lt (longer_later k k' a lt h h')) in
    omega (arith, holds_is k a h, holds_is k' a h', host_bits_le (length_of k) a, host_bits_le (length_of k') a)

-- a prefix ends with the last address, or earlier
pub end_within : (key : ℕ) → Prefix key → end_of key ≤ addresses
unfolding host_bits size
end_within key p = omega (arith, host_bits_end 0 (length_of key) (network key) zero-le, p.aligned, p.within)
