-- Rule 18.5: the rows that hold an address as text, each as the list writer writes it (rule 12.2), shortest prefix first. If no row holds
-- it the text is empty. It returns 11 for a list that isn't well-formed and 13 for a buffer that is too short.
-- Assumes nothing.
use Rattle.std.specs.Prelude.{not, List, [], ◌∷◌, ℕ, length, ltb}
use Rattle.ground.specs.Numbers.{Check, check, outcome, done, ill_formed, no_room}
use Rattle.ground.specs.Slots.{written}
use Rattle.routes.specs.Row.{Row, ListLent, rows_lent}
use Rattle.routes.specs.WellFormed.{well_formed}
use Rattle.routes.specs.Plain.{matching}
use Rattle.text.specs.Text.{text_of, WriteOutcome, wrote}

-- Rule 18.5: the text of the rows that hold the address.
unfoldable pub why_text_of : ℕ → List Row → List ℕ
why_text_of a rows = text_of (matching a rows)

-- Rule 18.5: 11 for a list that isn't well-formed, 13 for a buffer of fewer bytes than the text.
unfoldable pub why_text_checks : ListLent → ℕ → List ℕ → List Check
why_text_checks l a buffer =
    check (not (well_formed l.count l.keys l.hops)) ill_formed
    ∷ check (ltb (length buffer) (length (why_text_of a (rows_lent l)))) no_room
    ∷ []

-- Rule 18.5: what it returns and leaves is what the list writer returns and leaves of a list, the number, the length and the buffer.
unfoldable pub why_text : ListLent → ℕ → List ℕ → WriteOutcome
why_text l a buffer = outcome (why_text_checks l a buffer) (λ n. wrote n 0 buffer)
    (wrote done (length (why_text_of a (rows_lent l))) (written (why_text_of a (rows_lent l)) buffer))
