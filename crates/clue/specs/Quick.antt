-- Rule 19.7: the quick form looks for the clue among the entries by halving (rule 7.3), and checks nothing of them but where the slices end.
-- It says that a hop is final, or that a search has to follow, as for a length above 32.
-- Assumes nothing.
use Rattle.std.specs.Prelude.{Bool, true, false, cond, ◌&&◌, ℕ, get_or, ltb, leb, eqb, Option, None, Some}
use Rattle.halving.specs.Halving.{halving}
use Rattle.entries.specs.Clue.{clue_of}
use Rattle.entries.specs.Entries.{EntriesLent, entry_room}

-- what the quick form says: whether a hop is final, and the hop, or 0
pub record QuickOutcome : Type 0 where
  pub final : Bool
  pub hop : ℕ

abbrev pub said : Bool → ℕ → QuickOutcome
said final h = record { final = final; hop = h }

-- the same, read from the code's answer
abbrev pub quick_gave : Option ℕ → QuickOutcome
quick_gave (Some h) = said true h
quick_gave None = said false 0

-- Rule 19.7: the place where halving over the first n keys ends.
unfoldable pub quick_place : EntriesLent → ℕ → ℕ
quick_place e k = (halving (λ i. get_or e.keys i 0) (entry_room e) k).low

-- Rule 19.7: a hop is final if there are entries, the length is at most 32, and at that place the clue's own key stands with mark 0.
unfoldable pub quick_final : EntriesLent → ℕ → ℕ → Bool
quick_final e len k =
    (ltb 0 (entry_room e) && leb len 32)
    && (eqb (get_or e.keys (quick_place e k) 0) k && eqb (get_or e.marks (quick_place e k) 0) 0)

-- Rule 19.7: the quick form.
unfoldable pub quick_lookup : EntriesLent → ℕ → ℕ → QuickOutcome
quick_lookup e len a =
    cond (quick_final e len (clue_of len a)) (said true (get_or e.hops (quick_place e (clue_of len a)) 0)) (said false 0)
