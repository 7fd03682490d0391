-- Rule 10.1: an edit is handed a pair and names a prefix, by a network of 32 bits and a length. Announce has a hop as well.
-- Rules 10.2 to 10.9: this is what the two edits check, return and leave.
-- Assumes nothing.
use Rattle.std.specs.Prelude.{Bool, not, ◌||◌, List, [], ◌∷◌, ◌++◌, ℕ, length, ltb, eqb, Result, Ok, Err}
use Rattle.ground.specs.Numbers.{number_of, Check, check, outcome, done, no_room, bad_edit, not_listed}
use Rattle.ground.specs.Slots.{rewritten}
use Rattle.cidr.specs.Prefix.{key_of, is_prefix}
use Rattle.routes.specs.Row.{Row, list_room, keys_of, hops_of}
use Rattle.routes.specs.Change.{listed, announced, withdrawn, changed_between}
use Rattle.runs.specs.Table.{run_starts, run_hops}
use Rattle.runs.specs.Build.{run_room}
use Rattle.runs.specs.Pair.{Pair, list_of, pair_checks}
use Rattle.edit.specs.declared.Edit.{Edit}
use Rattle.ground.specs.declared.Refusal.{Refusal}

-- Rule 10.2: an edit names no prefix if the length is above 32 or the network has a host bit that is 1.
unfoldable pub bad_prefix : ℕ → ℕ → Bool
bad_prefix net len = ltb 32 len || not (is_prefix (key_of net len))

-- Rule 10.5: the list after the edit has more rows than the list's room, or the run table after it more runs than that table's room.
unfoldable pub exceeds : List Row → Pair → Bool
exceeds after p =
    ltb (list_room p.list.keys p.list.hops) (length after)
    || ltb (run_room p.table.starts p.table.hops) (length (run_starts after))

-- Rule 10.9: an edit returns its number, the changed number and the two new counts. It leaves the four slices of the pair.
pub record Edited : Type 0 where
  pub number : ℕ
  pub changed : ℕ
  pub count : ℕ
  pub runs : ℕ
  pub keys : List ℕ
  pub hops : List ℕ
  pub starts : List ℕ
  pub rhops : List ℕ

abbrev pub edit_outcome : ℕ → ℕ → ℕ → ℕ → List ℕ → List ℕ → List ℕ → List ℕ → Edited
edit_outcome n changed count runs keys hops starts rhops =
    record { number = n; changed = changed; count = count; runs = runs; keys = keys; hops = hops; starts = starts; rhops = rhops }

-- Rule 5.4: a refusal returns its number and 0 for the rest, and leaves the slices as they were.
abbrev pub edit_refused : Pair → ℕ → Edited
edit_refused p n = edit_outcome n 0 0 0 p.list.keys p.list.hops p.table.starts p.table.hops

-- Rule 10.7: the slices have the edited list and its run table at the front. Rule 10.8: slots that only an old count reached hold 0.
abbrev pub edit_done : List Row → Pair → Edited
edit_done after p = record {
  number = done;
  changed = changed_between (list_of p) after;
  count = length after;
  runs = length (run_starts after);
  keys = rewritten (keys_of after) p.list.count p.list.keys;
  hops = rewritten (hops_of after) p.list.count p.list.hops;
  starts = rewritten (run_starts after) p.table.count p.table.starts;
  rhops = rewritten (run_hops after) p.table.count p.table.hops;
}

-- Rule 10.1: the list after an announcement.
unfoldable pub after_announce : ℕ → ℕ → ℕ → Pair → List Row
after_announce net len hop p = announced (key_of net len) hop (list_of p)

-- Rules 10.2, 10.3 and 10.5: the checks of an announcement, for 15, 11, 14 and 13.
unfoldable pub announce_checks : ℕ → ℕ → ℕ → Pair → List Check
announce_checks net len hop p =
    check (bad_prefix net len || eqb hop 0) bad_edit
    ∷ pair_checks p
    ++ check (exceeds (after_announce net len hop p) p) no_room
    ∷ []

unfoldable pub announce : ℕ → ℕ → ℕ → Pair → Edited
announce net len hop p = outcome (announce_checks net len hop p) (edit_refused p) (edit_done (after_announce net len hop p) p)

-- Rule 10.1: the list after a withdrawal.
unfoldable pub after_withdraw : ℕ → ℕ → Pair → List Row
after_withdraw net len p = withdrawn (key_of net len) (list_of p)

-- Rules 10.2 to 10.5: the checks of a withdrawal, for 15, 11, 14, 16 and 13.
unfoldable pub withdraw_checks : ℕ → ℕ → Pair → List Check
withdraw_checks net len p =
    check (bad_prefix net len) bad_edit
    ∷ pair_checks p
    ++ check (not (listed (key_of net len) (list_of p))) not_listed
    ∷ check (exceeds (after_withdraw net len p) p) no_room
    ∷ []

unfoldable pub withdraw : ℕ → ℕ → Pair → Edited
withdraw net len p = outcome (withdraw_checks net len p) (edit_refused p) (edit_done (after_withdraw net len p) p)

-- what the code's answer and the four slices at exit say
abbrev pub edit_gave : Result Edit Refusal → List ℕ → List ℕ → List ℕ → List ℕ → Edited
edit_gave (Ok e) keys hops starts rhops = edit_outcome done e.changed e.count e.runs keys hops starts rhops
edit_gave (Err e) keys hops starts rhops = edit_outcome (number_of e) 0 0 0 keys hops starts rhops
