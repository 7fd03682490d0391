-- What is packed of a pair that agrees: its keys give the segment's width, and the run table's answer at each block is the plain one, so
-- packing the table's blocks is packing the segment.
-- Assumes nothing.
use mathlib.Core.Path.{◌≡◌, sym, ap, ◌∙◌}
use mathlib.Core.Bool.{true}
use Prim.Native.Nat.{ℕ, ◌+◌, ◌-◌, ◌*◌, ◌^◌, ◌≤◌, ◌<◌}
use native.Mathlib.Nat.{mul-le-mul_right}
use native.Mathlib.Omega.{arith}
use lib.ListN.{length, take}
use lib.Pow.{pow_pos}
use Rattle.ground.specs.Numbers.{done}
use Rattle.std.proofs.Common.{Result, Ok}
use Rattle.ground.specs.declared.Refusal.{Refusal}
use Rattle.ground.specs.Column.{ascends}
use Rattle.runs.specs.Pair.{Pair, list_of, pair_check, pair_gave}
use Rattle.runs.proofs.WholeList.{keys_taken, starts_taken, rhops_taken}
use Rattle.runs.proofs.Agreed.{agreed_half, agreed_room, agreed_table, agreed_keys, agreed_prefixes, agreed_ascends}
use Rattle.segment.specs.Packed.{width, block_hop}
use Rattle.segment.specs.Pack.{PackLent, PackOutcome, pack}
use Rattle.segment.specs.Inside.Blocks.{Runs, hop_in, pack_blocks}
use Rattle.segment.specs.Inside.Width.{width_in}
use Rattle.segment.proofs.BlockHop.{width_most}
use Rattle.segment.proofs.WidthOf.{width_keys}
use Rattle.segment.proofs.SameBlocks.{same_packed, table_runs, table_hop}
use Rattle.segment.proofs.PackLaws.{powers, pack_agreed}

-- a block of a segment begins inside it
pub block_inside : (w b : ℕ) → w ≤ 16 → b < 2 ^ w → b * 2 ^ (16 - w) < 65536
block_inside w b l below =
    let most : (b + 1) * 2 ^ (16 - w) ≤ 2 ^ w * 2 ^ (16 - w) = mul-le-mul_right (2 ^ (16 - w)) (omega arith) in
    omega (arith, powers w l, pow_pos (16 - w))

module _ (q : ℕ) (p : Pair) (agreed : pair_check p ≡ done) where
  pub agreed_runs : Runs (take p.table.count p.table.starts) (take p.table.count p.table.hops)
  agreed_runs = table_runs (agreed_table p agreed)

  pub agreed_width : width_in q (take p.list.count p.list.keys) ≡ width q (list_of p)
  agreed_width = sym (width_keys q (list_of p) ∙ ap (width_in q) (agreed_keys p agreed))

  pub agreed_narrow : width_in q (take p.list.count p.list.keys) ≤ 16
  agreed_narrow = rw agreed_width (width_most q (list_of p) (agreed_prefixes p agreed))

  pub segment_packed : q < 65536 → (l : PackLent)
      → let w = width_in q (take p.list.count p.list.keys) in
      pack_blocks w
      (hop_in (take p.table.count p.table.starts) (take p.table.count p.table.hops) (q * 65536) (2 ^ (16 - w))) l
      ≡ pack q p l
  unfolding hop_in block_hop
  segment_packed small l = rw agreed_width
      (same_packed (width q (list_of p)) _ _
      (λ b below. table_hop (agreed_table p agreed) _
      (omega (arith, block_inside (width q (list_of p)) b (width_most q (list_of p) (agreed_prefixes p agreed)) below)))
      l
      ∙ sym (pack_agreed q p l agreed))

-- the same where the pair check answered Ok
module _ (p : Pair) {r : Result (Unit {0}) Refusal} {u : Unit {0}} (is : pair_gave r ≡ pair_check p) (ok : r ≡ Ok u) where
  agreed : pair_check p ≡ done
  agreed = sym is ∙ ap pair_gave ok

  pub pair_keys : p.list.count ≡ length (take p.list.count p.list.keys)
  pair_keys = keys_taken p.list.count p.list.keys p.list.hops (agreed_half p agreed)

  pub pair_starts : p.table.count ≡ length (take p.table.count p.table.starts)
  pair_starts = starts_taken p.table.count p.table.starts p.table.hops (agreed_room p agreed)

  pub pair_rhops : p.table.count ≡ length (take p.table.count p.table.hops)
  pair_rhops = rhops_taken p.table.count p.table.starts p.table.hops (agreed_room p agreed)

  module _ (q q' : ℕ) (e : q' ≡ q) (small : q < 65536) where
    pub pair_ready : (q' < 65536) × (ascends (take p.list.count p.list.keys) ≡ true) × (width_in q' (take p.list.count p.list.keys) ≤ 16)
        × Runs (take p.table.count p.table.starts) (take p.table.count p.table.hops)
    pair_ready = rw e (small, agreed_ascends p agreed, agreed_narrow q p agreed, agreed_runs q p agreed)

    pub pair_packed : (l : PackLent) {o : PackOutcome} → let w = width_in q' (take p.list.count p.list.keys) in
        o ≡ pack_blocks w (hop_in (take p.table.count p.table.starts) (take p.table.count p.table.hops) (q' * 65536) (2 ^ (16 - w))) l → o ≡ pack q p l
    pair_packed l is = rw e at is ∙ segment_packed q p agreed small l
