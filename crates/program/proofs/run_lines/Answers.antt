-- `program::run_lines` meets its contract.
-- Assumes nothing.
use Rattle.std.proofs.Common.{length}
use Rattle.std.proofs.lemmas.List.{length_push}
use Rattle.std.proofs.lemmas.Slice.Zip.{zip_turn}
use Rattle.program.specs.Program.{run_lines}
use Rattle.digits.proofs.Putting.{put_none}
use Rattle.program.proofs.ProgramLines.{Turn, at_turn, run_fits, put_run}
use Rattle.program.proofs.run_lines.Goals as goal
use Rattle.program.proofs.run_lines.Goals.{In-Some}

turn : (c : In-Some) → Turn c.args.starts.now c.args.hops.now (length c.loop-start.yielded) c.in-Some.start.now c.in-Some.hop.now
turn c =
    at_turn
    (zip_turn c.args.starts.now c.args.hops.now c.loop-start.yielded c.into_iter-start-iterator.result _ c.next.new.self _ (cc) (cc)
    c.loop-start.yielded_by _ c.in-Some.is c.next.ensures.steps)

pub loop-start-init : goal.loop-start-init
unfolding run_lines
loop-start-init c = put_none _ _

pub run-at-requires : goal.run-at-requires
run-at-requires c = run_fits _ _ c.requires.fits (turn (goal.at.run-at-requires c).In-Some) c.loop-start.invariant

pub loop-start-preserved : goal.loop-start-preserved
loop-start-preserved c =
    rw length_push (put_run _ _ c.requires.fits (turn (goal.at.loop-start-preserved c).In-Some) c.loop-start.invariant c.run-at.ensures)
