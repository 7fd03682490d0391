-- The first key behind the clue tells whether some row extends it (`Extension`).
use Rattle.std.proofs.Common.{arith, ◌∙◌, le-ltb}
use Rattle.entries.proofs.KeyOrder.{key_small}
use Rattle.entries.proofs.Rows.{keys_ascend}
use Rattle.entries.proofs.Extension.{none_behind, first_decides_it}
use Rattle.entries.proofs.entry.extended.Goals as goal

pub overflow_add-key : goal.overflow_add-key
overflow_add-key c = omega (arith, key_small c.args.key c.requires.key_is_prefix)

pub returns-then-next-keys : goal.returns-then-next-keys
returns-then-next-keys c =
    let w = c.requires.well_formed_list in
    rw (c.network.ensures, c.end_of.ensures)
    (first_decides_it _ _ w _ c.requires.key_is_prefix _ (c.lower-next.ensures (keys_ascend _ _ w)) c.if-next-keys.true)

pub returns-else-next-keys : goal.returns-else-next-keys
returns-else-next-keys c =
    let w = c.requires.well_formed_list in
    le-ltb c.lower-next.result _ c.if-next-keys.false
    ∙ none_behind _ _ w _ c.requires.key_is_prefix _ (c.lower-next.ensures (keys_ascend _ _ w)) c.if-next-keys.false
