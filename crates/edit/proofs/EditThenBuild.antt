-- Rule 17.2, demand 3, from the contracts alone: where an edit was accepted, a fresh build of the edited list into slices with room for its
-- runs is accepted too, and gives what the edit left, number for number. Both have the run table of the edited rows at the front.
-- Assumes nothing.
use mathlib.Core.Path.{◌≡◌, sym, ap, ◌∙◌}
use mathlib.Core.Bool.{false}
use mathlib.Core.List.{List}
use Prim.Native.Nat.{ℕ, ◌≤◌}
use lib.ListN.{length, take}
use borrow.Author.Tests.{le-ltb}
use Rattle.ground.specs.Numbers.{done}
use Rattle.ground.specs.Slots.{written}
use Rattle.ground.proofs.Slots.{take_written}
use Rattle.routes.specs.Row.{Row}
use Rattle.routes.specs.WellFormed.{formed}
use Rattle.runs.specs.Table.{run_starts, run_hops}
use Rattle.runs.specs.Build.{SlotsLent, BuildOutcome, built, build, run_room}
use Rattle.runs.specs.Pair.{Pair}
use Rattle.runs.specs.Inside.Rows.{build_rows}
use Rattle.runs.proofs.Table.{same_count}
use Rattle.runs.proofs.TableOutcomes.{build_well}
use Rattle.edit.specs.Edit.{Edited, announce, withdraw}
use Rattle.edit.proofs.Accepted.{Accepted, announce_accepted, withdraw_accepted}
use Rattle.edit.proofs.EditKeepsPair.{edited, left_rows, left_well, left_runs, left_starts, left_hops}

-- a build gave what an edit left
pub record Rebuilt (o : Edited) (b : BuildOutcome) : Type 0 where
  pub accepted : b.number ≡ done
  pub runs : b.runs ≡ o.runs
  pub starts : take b.runs b.starts ≡ take o.runs o.starts
  pub hops : take b.runs b.hops ≡ take o.runs o.rhops

module _ {k : ℕ} {after : List Row} {p : Pair} {o : Edited} (a : Accepted k after p o)
    (s : SlotsLent) (room : o.runs ≤ run_room s.starts s.hops) where
  build_is : build (edited o).list s
      ≡ built done (length (run_starts after)) (written (run_starts after) s.starts) (written (run_hops after) s.hops)
  unfolding formed build_rows
  build_is =
      build_well false (edited o).list s (left_well a)
      ∙ rw (left_rows a, le-ltb (run_room s.starts s.hops) (length (run_starts after)) (rw (left_runs a) at room))

  pub edit_then_build : (b : BuildOutcome) → b ≡ build (edited o).list s → Rebuilt o b
  edit_then_build b e = record {
    accepted = ap (λ (x : BuildOutcome). x.number) is;
    runs = count ∙ sym (left_runs a);
    starts =
        ap (λ (x : BuildOutcome). take b.runs x.starts) is
        ∙ take_written (run_starts after) s.starts b.runs count
        ∙ sym (left_starts a);
    hops =
        ap (λ (x : BuildOutcome). take b.runs x.hops) is
        ∙ take_written (run_hops after) s.hops b.runs (count ∙ sym (same_count after))
        ∙ sym (left_hops a);
  }
    where
      is : b ≡ built done (length (run_starts after)) (written (run_starts after) s.starts) (written (run_hops after) s.hops)
      is = e ∙ build_is

      count : b.runs ≡ length (run_starts after)
      count = ap (λ (x : BuildOutcome). x.runs) is

module _ (p : Pair) (o : Edited) (s : SlotsLent) (b : BuildOutcome) where
  pub announce_then_build : (net len hop : ℕ) → o ≡ announce net len hop p → o.number ≡ done
      → o.runs ≤ run_room s.starts s.hops → b ≡ build (edited o).list s → Rebuilt o b
  announce_then_build net len hop e d room = edit_then_build (announce_accepted net len hop p o e d) s room b

  pub withdraw_then_build : (net len : ℕ) → o ≡ withdraw net len p → o.number ≡ done
      → o.runs ≤ run_room s.starts s.hops → b ≡ build (edited o).list s → Rebuilt o b
  withdraw_then_build net len e d room = edit_then_build (withdraw_accepted net len p o e d) s room b
