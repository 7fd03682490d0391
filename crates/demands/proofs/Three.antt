-- Demand 3: given a list and its run table that agree, one accepted edit leaves the edited list and the run table that a fresh build of it
-- gives, number for number, and says how many of all addresses now have another hop. Here `o` is what the edit's answer and the four slices
-- at exit say (`edit_gave`), or what C gets and they say (`host_edit_gave`); the fresh build is any whose answer keeps the contract of `build`.
-- Its definitions: `announce`, `withdraw`, `edit_gave` (edit, `Edit`); `announced`, `withdrawn` (routes, `Change`); `build`, `build_gave`
-- (runs, `Build`); `pair_check` (runs, `Pair`); `plain_lookup` (routes, `Lookup`); `holds`, `key_of` (cidr, `Prefix`); `counted` (ground,
-- `Stretch`); `host_edit_gave` (c_structs, `Structs`).
-- Assumes nothing.
use mathlib.Core.Path.{◌≡◌, ◌∙◌}
use mathlib.Core.List.{List}
use Prim.Native.Nat.{ℕ, ◌≤◌}
use Rattle.std.specs.Prelude.{Result, Ok, Err}
use Rattle.ground.specs.declared.Refusal.{Refusal}
use Rattle.ground.specs.Numbers.{done}
use Rattle.cidr.specs.Prefix.{key_of}
use Rattle.routes.specs.Row.{Row, row}
use Rattle.routes.specs.Change.{announced, withdrawn}
use Rattle.routes.proofs.Row.{Has}
use Rattle.runs.specs.Build.{SlotsLent, build_gave, build, run_room}
use Rattle.runs.specs.Pair.{Pair, list_of, pair_check}
use Rattle.edit.specs.Edit.{Edited, announce, after_announce, withdraw, after_withdraw}
use Rattle.edit.proofs.Accepted.{announce_accepted, withdraw_accepted}
use Rattle.edit.proofs.EditKeepsPair.{edited, left_rows, announce_keeps_pair, withdraw_keeps_pair}
use Rattle.edit.proofs.EditThenBuild.{Rebuilt, announce_then_build, withdraw_then_build}
use Rattle.edit.proofs.ChangedIsTrue.{TrueChange, announce_changed_is_true, withdraw_changed_is_true}
use Rattle.edit.proofs.OwnHopAgain.{unchanged, own_hop_again}

-- what an accepted edit of prefix k did to a pair, where the list afterwards is to be `after`
pub record Three (k : ℕ) (after : List Row) (p : Pair) (o : Edited) : Type 0 where
  -- the list that it left is the edited one
  pub list : list_of (edited o) ≡ after
  -- a fresh build of that list, into slices with room, is accepted and gives the count, the starts and the hops that it left
  pub fresh_build : (s : SlotsLent) → o.runs ≤ run_room s.starts s.hops → (b : Result ℕ Refusal) (starts hops : List ℕ)
      → build_gave b starts hops ≡ build (edited o).list s → Rebuilt o (build_gave b starts hops)
  -- list and run table agree again
  pub agrees : pair_check (edited o) ≡ done
  -- the changed number counts the addresses at which plain lookup differs; none is outside the prefix or in a longer listed one
  pub changed : TrueChange k p o

module _ (p : Pair) (o : Edited) where
  pub announce_three : (net len hop : ℕ) → o ≡ announce net len hop p → o.number ≡ done
      → Three (key_of net len) (announced (key_of net len) hop (list_of p)) p o
  unfolding after_announce
  announce_three net len hop e d = record {
    list = left_rows (announce_accepted net len hop p o e d);
    fresh_build = λ s room b st hs. announce_then_build p o s (build_gave b st hs) net len hop e d room;
    agrees = announce_keeps_pair p o net len hop e d;
    changed = announce_changed_is_true p o net len hop e d;
  }

  pub withdraw_three : (net len : ℕ) → o ≡ withdraw net len p → o.number ≡ done
      → Three (key_of net len) (withdrawn (key_of net len) (list_of p)) p o
  unfolding after_withdraw
  withdraw_three net len e d = record {
    list = left_rows (withdraw_accepted net len p o e d);
    fresh_build = λ s room b st hs. withdraw_then_build p o s (build_gave b st hs) net len e d room;
    agrees = withdraw_keeps_pair p o net len e d;
    changed = withdraw_changed_is_true p o net len e d;
  }

  -- announcing a listed route with its own hop is done, 0 changed, never 13, and leaves every slot
  pub own_hop_three : (net len hop : ℕ) → pair_check p ≡ done → len ≤ 32 → Has (row (key_of net len) hop) (list_of p)
      → o ≡ announce net len hop p → o ≡ unchanged p
  own_hop_three net len hop agreed short there e = e ∙ own_hop_again p agreed net len hop short there
