-- Rule 5.2: every call makes its checks in the order 15, 11, 14, 16, 17, 18, 19, 12, 13, whatever it is handed.
-- Assumes nothing.
use mathlib.Core.Path.{◌≡◌, refl}
use mathlib.Core.Bool.{Bool, true}
use mathlib.Core.List.{List}
use Prim.Native.Nat.{ℕ}
use Rattle.ground.specs.Numbers.{check_order, past, in_order, Check}
use Rattle.routes.specs.Row.{ListLent}
use Rattle.routes.specs.Lookup.{lookup_checks, half_checks}
use Rattle.feed.specs.Import.{ImportLent, import_checks}
use Rattle.text.specs.Text.{write_checks}
use Rattle.why.specs.Why.{why_checks}
use Rattle.why.specs.Text.{why_text_checks}
use Rattle.runs.specs.Table.{RunsLent}
use Rattle.runs.specs.Build.{SlotsLent, build_checks}
use Rattle.runs.specs.Pair.{Pair, pair_checks}
use Rattle.lookup.specs.Lookup.{run_checks, bytes_checks}
use Rattle.segment.specs.Pack.{PackLent, pack_checks}
use Rattle.packed.specs.Lookup.{SegmentLent, packed_checks}
use Rattle.edit.specs.Edit.{announce_checks, withdraw_checks}
use Rattle.split.specs.Split.{SplitLent, split_checks}
use Rattle.host.specs.Exports.{held_checks}

abbrev pub InOrder : List Check → Type 0
InOrder checks = in_order check_order checks ≡ true

-- all calls, over everything that they can be handed
pub record Orders : Type 0 where
  pub lookup : (l : ListLent) → InOrder (lookup_checks l)
  pub half : (l : ListLent) → InOrder (half_checks l)
  pub imports : (feed : List ℕ) (l : ImportLent) → InOrder (import_checks feed l)
  pub write : (l : ListLent) (buffer : List ℕ) → InOrder (write_checks l buffer)
  pub why : (l : ListLent) (a : ℕ) (places : List ℕ) → InOrder (why_checks l a places)
  pub why_text : (l : ListLent) (a : ℕ) (buffer : List ℕ) → InOrder (why_text_checks l a buffer)
  pub build : (half : Bool) (l : ListLent) (s : SlotsLent) → InOrder (build_checks half l s)
  pub pair : (p : Pair) → InOrder (pair_checks p)
  pub run : (t : RunsLent) → InOrder (run_checks t)
  pub in_bytes : (bytes : List ℕ) → InOrder (bytes_checks bytes)
  pub held : (bytes last : List ℕ) → InOrder (held_checks bytes last)
  pub pack : (q : ℕ) (p : Pair) (l : PackLent) → InOrder (pack_checks q p l)
  pub packed : (s : SegmentLent) (a : ℕ) → InOrder (packed_checks s a)
  pub announce : (net len hop : ℕ) (p : Pair) → InOrder (announce_checks net len hop p)
  pub withdraw : (net len : ℕ) (p : Pair) → InOrder (withdraw_checks net len p)
  pub split : (k : ℕ) (l : ListLent) (out : SplitLent) → InOrder (split_checks k l out)

pub orders : Orders
unfolding past in_order lookup_checks half_checks import_checks write_checks why_checks why_text_checks build_checks pair_checks run_checks bytes_checks held_checks pack_checks packed_checks announce_checks withdraw_checks split_checks
orders = record {
  lookup = λ l. refl;
  half = λ l. refl;
  imports = λ feed l. refl;
  write = λ l buffer. refl;
  why = λ l a places. refl;
  why_text = λ l a buffer. refl;
  build = λ half l s. refl;
  pair = λ p. refl;
  run = λ t. refl;
  in_bytes = λ bytes. refl;
  held = λ bytes last. refl;
  pack = λ q p l. refl;
  packed = λ s a. refl;
  announce = λ net len hop p. refl;
  withdraw = λ net len p. refl;
  split = λ k l out. refl;
}
