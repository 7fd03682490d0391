-- Which rows of the first half hold a row of the rest. The row comes later in key order. So the rows that hold its prefix are those that
-- hold its network, or any other address of it, and its label is made with the first half's plain answer there.
-- Assumes nothing.
use mathlib.Core.Path.{◌≡◌, ap}
use mathlib.Core.Bool.{true}
use mathlib.Core.List.{List}
use Prim.Native.Nat.{ℕ, ◌<◌}
use lib.Bits.{bit_xor}
use lib.ListN.{drop}
use Rattle.cidr.specs.Prefix.{network, holds, covers}
use Rattle.cidr.proofs.Prefix.{Prefix, prefix_parts}
use Rattle.cidr.proofs.Covers.{covers_later, holds_later}
use Rattle.routes.specs.Row.{Row, row}
use Rattle.routes.specs.Plain.{matching, longest, hop_of, plain}
use Rattle.routes.proofs.Row.{Has, those_same}
use Rattle.routes.proofs.WellFormed.{HalfGood}
use Rattle.split.specs.Split.{covering, relabelled, first_half}
use Rattle.split.proofs.Halves.{first_has, rest_has, first_before}

module _ (k : ℕ) (rows : List Row) (g : HalfGood rows) (r : Row) (m : Has r (drop k rows)) where
  later : (s : Row) → Has s (first_half k rows) → s.key < r.key
  later s n = first_before k rows g.ascends s r n m

  prefix : Prefix r.key
  prefix = prefix_parts r.key (g.prefixed r (rest_has k rows r m))

  pub covering_is_matching : covering r.key (first_half k rows) ≡ matching (network r.key) (first_half k rows)
  unfolding covering matching
  covering_is_matching =
      those_same (λ s. covers s.key r.key) (λ s. holds s.key (network r.key)) (first_half k rows)
      (λ s n. covers_later s.key r.key (later s n) prefix)

  pub label_is : relabelled (first_half k rows) r ≡ row r.key (bit_xor r.hop (plain (first_half k rows) (network r.key)))
  unfolding relabelled plain
  label_is = rw covering_is_matching

  -- at an address of the row, the first half's answer is the one that the label is made with
  pub first_answer : (a : ℕ) → holds r.key a ≡ true → plain (first_half k rows) (network r.key) ≡ plain (first_half k rows) a
  unfolding plain matching
  first_answer a held = ap (λ rs. hop_of (longest rs))
      (those_same (λ s. holds s.key (network r.key)) (λ s. holds s.key a) (first_half k rows)
      (λ s n.
      holds_later s.key r.key (later s n) (prefix_parts s.key (g.prefixed s (first_has k rows s n))) prefix a held))
