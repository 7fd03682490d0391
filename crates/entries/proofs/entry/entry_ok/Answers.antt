use Rattle.std.proofs.Common.{arith, sym, ap, ◌∙◌, ne_eqb}
use Rattle.entries.specs.Clue.{hop_around}
use Rattle.entries.specs.Entries.{mark}
use Rattle.entries.proofs.KeyOrder.{key_is_clue, key_short, key_network}
use Rattle.entries.proofs.Rows.{all_rows}
use Rattle.entries.proofs.EntryTest.{another_hop, mark_decides}
use Rattle.entries.proofs.entry.entry_ok.Goals as goal

pub hop_around-around-requires-clause-clue_in_range : goal.hop_around-around-requires-clause-clue_in_range
hop_around-around-requires-clause-clue_in_range c =
    let p = sym c.is_prefix.ensures ∙ c.if-not-is_prefix.false in
    (omega (arith, key_short c.args.key p), omega (arith, key_network c.args.key p, c.network.ensures))

pub returns-then-hop-around : goal.returns-then-hop-around
returns-then-hop-around c =
    let p = sym c.is_prefix.ensures ∙ c.if-not-is_prefix.false in
    let around = c.hop_around-around.ensures ∙ ap (hop_around (all_rows c.args.keys.now c.args.hops.now)) (rw c.network.ensures (key_is_clue c.args.key p)) in
    mark_decides _ _ _ _ p around c.if-hop-around.true (c.mark.ensures ∙ ap mark c.extended.ensures)

pub returns-else-hop-around : goal.returns-else-hop-around
returns-else-hop-around c =
    let p = sym c.is_prefix.ensures ∙ c.if-not-is_prefix.false in
    let around = c.hop_around-around.ensures ∙ ap (hop_around (all_rows c.args.keys.now c.args.hops.now)) (rw c.network.ensures (key_is_clue c.args.key p)) in
    ne_eqb c.args.hop _ c.if-hop-around.false ∙ another_hop _ _ _ c.args.marked p around c.if-hop-around.false
