-- Rules 19.5 and 19.6: lookup with a hint. It returns 15 for a length above 32, 11 for a list that isn't well-formed, 14 for entries that
-- aren't the list's for their clues, and else 0 and the hop: the stored one if the clue has an entry that nothing extends, and else what a
-- search finds.
-- Assumes nothing.
use Rattle.std.specs.Prelude.{Bool, true, false, not, cond, ◌&&◌, List, [], ◌∷◌, ℕ, get_or, ltb, eqb, Result, Ok, Err}
use Rattle.ground.specs.Numbers.{Check, check, outcome, done, ill_formed}
use Rattle.ground.specs.Column.{is_in, lower}
use Rattle.routes.specs.Row.{ListLent, rows_lent}
use Rattle.routes.specs.WellFormed.{well_formed}
use Rattle.routes.specs.Plain.{plain}
use Rattle.entries.specs.Clue.{clue_of}
use Rattle.entries.specs.Entries.{EntriesLent, its_entries}
use Rattle.clue.specs.declared.Refusal.{Refusal}
use Rattle.clue.specs.Refusal.{number_of, bad_length, not_its_entries}
use Rattle.clue.specs.declared.Hinted.{Hinted}
use Rattle.clue.specs.declared.Hinted.TheVariants as H

-- what lookup with a hint returns: its number, the hop, and whether the stored hop was final
pub record HintOutcome : Type 0 where
  pub number : ℕ
  pub hop : ℕ
  pub final : Bool

abbrev pub hinted : ℕ → ℕ → Bool → HintOutcome
hinted n h final = record { number = n; hop = h; final = final }

-- the same, read from the code's answer
abbrev pub hint_gave : Result Hinted Refusal → HintOutcome
hint_gave (Ok (H.Final h)) = hinted done h true
hint_gave (Ok (H.Searched h)) = hinted done h false
hint_gave (Err e) = hinted (number_of e) 0 false

-- Rule 19.6: the clue has an entry, and nothing extends it.
unfoldable pub is_final : EntriesLent → ℕ → Bool
is_final e k = is_in k e.keys && eqb (get_or e.marks (lower k e.keys) 0) 0

-- Rule 19.6: the hop that is stored for a clue that has an entry.
unfoldable pub stored_hop : EntriesLent → ℕ → ℕ
stored_hop e k = get_or e.hops (lower k e.keys) 0

-- Rule 19.5: the checks of lookup with a hint.
unfoldable pub hint_checks : ListLent → EntriesLent → ℕ → List Check
hint_checks l e len =
    check (ltb 32 len) bad_length
    ∷ check (not (well_formed l.count l.keys l.hops)) ill_formed
    ∷ check (not (its_entries (rows_lent l) e)) not_its_entries
    ∷ []

-- Rules 19.5 and 19.6: lookup with a hint.
unfoldable pub hint_lookup : ListLent → EntriesLent → ℕ → ℕ → HintOutcome
hint_lookup l e len a = outcome (hint_checks l e len) (λ n. hinted n 0 false)
    (cond (is_final e (clue_of len a)) (hinted done (stored_hop e (clue_of len a)) true) (hinted done (plain (rows_lent l) a) false))
