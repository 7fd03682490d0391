-- Rules 18.1 to 18.4: why an address gets its hop. The listing gives the places of all rows that hold the address, shortest prefix first,
-- and the reason: no listed row holds it, or one row does and none that is longer. It returns 11 for a list that isn't well-formed and 13 for
-- more places than room.
-- Assumes nothing.
use Rattle.std.specs.Prelude.{not, List, [], ◌∷◌, ℕ, length, get_or, ltb, Result, Ok, Err, Some, None}
use Rattle.std.specs.Prelude as code
use Rattle.std.proofs.Math.Option.{Option, none, some}
use Rattle.ground.specs.declared.Refusal.{Refusal}
use Rattle.ground.specs.Numbers.{Check, check, outcome, done, ill_formed, no_room, number_of}
use Rattle.ground.specs.Slots.{written}
use Rattle.ground.specs.Column.{lower}
use Rattle.ground.specs.Stretch.{among, stretch}
use Rattle.cidr.specs.Prefix.{holds}
use Rattle.routes.specs.Row.{Row, ListLent, rows_lent, keys_of}
use Rattle.routes.specs.WellFormed.{well_formed}
use Rattle.routes.specs.Plain.{matching, longest}
use Rattle.why.specs.declared.Reason.{Reason}

-- Rule 18.1: the places of the rows that hold the address, in the order of the list. A place is counted from 0.
unfoldable pub places_of : ℕ → List Row → List ℕ
places_of a rows = among (λ i. holds (get_or (keys_of rows) i 0) a) (stretch 0 (length rows))

-- Rule 2.14: the place of a row, if there is one
unfoldable pub place_of : List Row → Option Row → Option ℕ
place_of rows none = none
place_of rows (some r) = some (lower r.key (keys_of rows))

-- Rule 18.2: the reason is the place of the longest row that holds the address, or that there is none.
unfoldable pub reason_for : ℕ → List Row → Option ℕ
reason_for a rows = place_of rows (longest (matching a rows))

-- Rule 18.3: what the listing returns and leaves: its number, how many places it listed, the reason, and the lent places.
pub record WhyOutcome : Type 0 where
  pub number : ℕ
  pub listed : ℕ
  pub reason : Option ℕ
  pub places : List ℕ

abbrev pub told : ℕ → ℕ → Option ℕ → List ℕ → WhyOutcome
told n listed reason places = record { number = n; listed = listed; reason = reason; places = places }

-- the same, read from the code's answer and the places at exit
abbrev pub why_gave : Result (code.Option Reason) Refusal → List ℕ → WhyOutcome
why_gave (Ok (Some r)) places = told done r.listed (some r.place) places
why_gave (Ok None) places = told done 0 none places
why_gave (Err e) places = told (number_of e) 0 none places

-- Rule 18.4: 11 for a list that isn't well-formed, 13 for fewer lent places than rows that hold the address.
unfoldable pub why_checks : ListLent → ℕ → List ℕ → List Check
why_checks l a places =
    check (not (well_formed l.count l.keys l.hops)) ill_formed
    ∷ check (ltb (length places) (length (places_of a (rows_lent l)))) no_room
    ∷ []

-- Rules 18.1 to 18.4: the listing.
unfoldable pub why : ListLent → ℕ → List ℕ → WhyOutcome
why l a places = outcome (why_checks l a places) (λ n. told n 0 none places)
    (told done (length (places_of a (rows_lent l))) (reason_for a (rows_lent l)) (written (places_of a (rows_lent l)) places))
