-- Rule 12.2: a list's text has a line `a.b.c.d/len hop` for each row, in the order of the list. Rule 12.3: the writer puts the text at the
-- front of a buffer and returns its length. It returns 11 for a list that isn't well-formed, and 13 for a buffer that is too short.
-- Assumes nothing.
use Rattle.std.specs.Prelude.{not, List, [], ◌∷◌, ◌++◌, ℕ, length, ltb, Result, Ok, Err}
use Rattle.ground.specs.declared.Refusal.{Refusal}
use Rattle.ground.specs.Numbers.{Check, check, outcome, done, ill_formed, no_room, number_of}
use Rattle.ground.specs.Slots.{written}
use Rattle.routes.specs.Row.{Row, ListLent, rows_lent}
use Rattle.routes.specs.WellFormed.{well_formed}
use Rattle.digits.specs.Digits.{row_text}

-- Rule 12.2: the text of a list, a line a row.
unfoldable pub text_of : List Row → List ℕ
text_of [] = []
text_of (r ∷ rs) = row_text r ++ text_of rs

-- Rule 12.3: what the list writer returns and leaves, its number, the length of the text, and the buffer.
pub record WriteOutcome : Type 0 where
  pub number : ℕ
  pub length : ℕ
  pub buffer : List ℕ

abbrev pub wrote : ℕ → ℕ → List ℕ → WriteOutcome
wrote n len buffer = record { number = n; length = len; buffer = buffer }

-- the same, read from the code's answer and the buffer at exit
abbrev pub write_gave : Result ℕ Refusal → List ℕ → WriteOutcome
write_gave (Ok n) buffer = wrote done n buffer
write_gave (Err e) buffer = wrote (number_of e) 0 buffer

-- Rule 12.1: 11 for a list that isn't well-formed. Rule 12.3: 13 for a buffer of fewer bytes than the text.
unfoldable pub write_checks : ListLent → List ℕ → List Check
write_checks l buffer =
    check (not (well_formed l.count l.keys l.hops)) ill_formed
    ∷ check (ltb (length buffer) (length (text_of (rows_lent l)))) no_room
    ∷ []

-- Rule 12.3: the list writer.
unfoldable pub write : ListLent → List ℕ → WriteOutcome
write l buffer = outcome (write_checks l buffer) (λ n. wrote n 0 buffer)
    (wrote done (length (text_of (rows_lent l))) (written (text_of (rows_lent l)) buffer))
