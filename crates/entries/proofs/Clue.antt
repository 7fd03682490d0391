-- What a clue is, as a key: its network is the address without its host bits, and a prefix holds the clue exactly if it isn't longer and
-- holds the address. A longer prefix that holds the address extends the clue.
-- Assumes nothing.
use mathlib.Core.Path.{◌≡◌, refl}
use mathlib.Core.Logic.{⊎_elim}
use mathlib.Core.Bool.{true, ◌&&◌}
use Prim.Native.Nat.{ℕ, ◌-◌, ◌≤◌, ◌<◌}
use native.Mathlib.Nat.{le_of_lt}
use native.Mathlib.Omega.{arith}
use lib.Dec.{leb, ltb, eqb}
use borrow.Author.Tests.{leb-true, ltb-true, eqb-true, le-leb, lt-ltb, eq-eqb}
use Rattle.cidr.specs.Prefix.{addresses, network, length_of, host_bits, is_prefix, holds, covers}
use Rattle.entries.specs.Clue.{clue_of, extends}
use Rattle.entries.proofs.Decided.{decided, and_left, and_right, and_both}
use Rattle.entries.proofs.HostBits.{cut_twice}

-- the parts of a prefix
pub record Prefix (key : ℕ) : Type 0 where
  pub short : length_of key ≤ 32
  pub within : network key < addresses
  pub aligned : host_bits (length_of key) (network key) ≡ 0

module _ (key : ℕ) (e : is_prefix key ≡ true) where
  rest : (ltb (network key) addresses && eqb (host_bits (length_of key) (network key)) 0) ≡ true
  unfolding is_prefix
  rest = and_right (leb (length_of key) 32) _ e

  pub prefix_parts : Prefix key
  unfolding is_prefix
  prefix_parts = record {
    short = leb-true _ _ (and_left (leb (length_of key) 32) _ e);
    within = ltb-true _ _ (and_left (ltb (network key) addresses) _ rest);
    aligned = eqb-true _ _ (and_right (ltb (network key) addresses) _ rest);
  }

  -- a prefix is the clue of its own length and network
  pub own_clue : clue_of (length_of key) (network key) ≡ key
  unfolding clue_of
  own_clue = rw prefix_parts.aligned (omega arith)

-- a prefix that holds an address is the clue of its own length and that address
pub holds_clue : (key a : ℕ) → holds key a ≡ true → key ≡ clue_of (length_of key) a
unfolding holds clue_of
holds_clue key a e = omega (arith, eqb-true (a - host_bits (length_of key) a) (network key) e)

module _ (len a : ℕ) (short : len ≤ 32) where
  pub clue_network : network (clue_of len a) ≡ a - host_bits len a
  unfolding clue_of
  clue_network = omega arith

  pub clue_length : length_of (clue_of len a) ≡ len
  unfolding clue_of
  clue_length = omega arith

  pub clue_holds : holds (clue_of len a) a ≡ true
  unfolding holds
  clue_holds = rw (clue_network, clue_length) (eq-eqb (a - host_bits len a) _ refl)

  pub covers_clue : (key : ℕ) → covers key (clue_of len a) ≡ (leb (length_of key) len && holds key a)
  unfolding covers holds
  covers_clue key = rw (clue_network, clue_length) (⊎_elim
      (λ e. rw (cut_twice len (length_of key) a (leb-true _ _ e)))
      (λ e. rw e)
      (decided (leb (length_of key) len)))

  pub longer_extends : (key : ℕ) → len < length_of key → holds key a ≡ true → extends (clue_of len a) key ≡ true
  unfolding extends covers holds
  longer_extends key longer e =
      let is : a - host_bits (length_of key) a ≡ network key = eqb-true _ _ e in
      let cut : network key - host_bits len (network key) ≡ a - host_bits len a =
      rw is at (cut_twice (length_of key) len a (le_of_lt longer)) in
      rw (clue_network, clue_length)
      (and_both (lt-ltb len (length_of key) longer)
      (and_both (le-leb len (length_of key) (le_of_lt longer)) (eq-eqb (network key - host_bits len (network key)) (a - host_bits len a) cut)))
