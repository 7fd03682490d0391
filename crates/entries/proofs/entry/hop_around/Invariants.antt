-- The rows shorter than the lengths left to try have the say.
use Rattle.std.proofs.Common.{◌≡◌, ◌≤◌}
use Rattle.entries.specs.Clue.{clue_of, hop_around}
use Rattle.entries.proofs.Rows.{all_rows}
use Rattle.entries.proofs.Around.{hop_shorter}
use Rattle.entries.proofs.entry.hop_around.Given as goal

abbrev pub invariant-loop-shorter : goal.invariant-loop-shorter
invariant-loop-shorter l =
    (l.shorter ≤ 33) × (hop_around (all_rows l.keys l.hops) (clue_of l.len l.a) ≡ hop_shorter (all_rows l.keys l.hops) l.a l.shorter)
