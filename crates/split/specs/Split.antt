-- Rule 11.4: the first half of a list is its first k rows, which stay where they are. Rule 11.5: the second half is 0.0.0.0/0 with label 0
-- and then the list's other rows, each with a label. Rule 11.7: a split writes the second half and returns its count.
-- Assumes nothing.
use Rattle.std.specs.Prelude.{not, ◌||◌, Result, Ok, Err, List, [], ◌∷◌, map, ℕ, length, take, drop, ltb, eqb}
use Rattle.std.specs.Int.Bits.{bit_xor}
use Rattle.ground.specs.declared.Refusal.{Refusal}
use Rattle.ground.specs.Numbers.{Check, check, outcome, number_of, done, ill_formed, bad_size, no_default, no_room}
use Rattle.ground.specs.Slots.{written}
use Rattle.cidr.specs.Prefix.{key_of, covers}
use Rattle.routes.specs.Row.{Row, row, ListLent, rows_lent, those, list_room, keys_of, hops_of}
use Rattle.routes.specs.WellFormed.{well_formed}
use Rattle.routes.specs.Plain.{longest, hop_of}
use Rattle.routes.specs.Change.{listed}

-- 0.0.0.0/0
abbrev pub default_key : ℕ
default_key = key_of 0 0

-- Rule 2.5: the rows whose prefix holds the prefix k.
unfoldable pub covering : ℕ → List Row → List Row
covering k rows = those (λ r. covers r.key k) rows

-- Rule 11.5: a row's label is the XOR of its own hop and that of the longest among the first half's prefixes which hold the row's prefix.
unfoldable pub relabelled : List Row → Row → Row
relabelled first r = row r.key (bit_xor r.hop (hop_of (longest (covering r.key first))))

-- Rules 11.4 and 11.5: the two halves.
unfoldable pub first_half : ℕ → List Row → List Row
first_half k rows = take k rows

unfoldable pub second_half : ℕ → List Row → List Row
second_half k rows = row default_key 0 ∷ map (relabelled (first_half k rows)) (drop k rows)

-- the two slices that a split is lent for the keys and the labels of the second half
pub record SplitLent : Type 0 where
  pub keys : List ℕ
  pub labels : List ℕ

abbrev pub split_lent : List ℕ → List ℕ → SplitLent
split_lent keys labels = record { keys = keys; labels = labels }

-- what a split returns and leaves: its number, the second half's count, and the two slices
pub record SplitOutcome : Type 0 where
  pub number : ℕ
  pub count : ℕ
  pub keys : List ℕ
  pub labels : List ℕ

abbrev pub split_into : ℕ → ℕ → List ℕ → List ℕ → SplitOutcome
split_into n count keys labels = record { number = n; count = count; keys = keys; labels = labels }

-- the same, read from the code's answer and the slices at exit
abbrev pub split_gave : Result ℕ Refusal → List ℕ → List ℕ → SplitOutcome
split_gave (Ok n) keys labels = split_into done n keys labels
split_gave (Err e) keys labels = split_into (number_of e) 0 keys labels

-- Rules 11.1, 11.2, 11.3 and 11.7: the checks of a split, for 11, 17, 18 and 13.
unfoldable pub split_checks : ℕ → ListLent → SplitLent → List Check
split_checks k l out =
    check (not (well_formed l.count l.keys l.hops)) ill_formed
    ∷ check (eqb k 0 || ltb l.count k) bad_size
    ∷ check (not (listed default_key (rows_lent l))) no_default
    ∷ check (ltb (list_room out.keys out.labels) (length (second_half k (rows_lent l)))) no_room
    ∷ []

-- Rule 11.7: the split of a list with size k. Rule 5.4: a refusal leaves the slices.
unfoldable pub split : ℕ → ListLent → SplitLent → SplitOutcome
split k l out = outcome (split_checks k l out) (λ n. split_into n 0 out.keys out.labels)
    (split_into done (length (second_half k (rows_lent l)))
    (written (keys_of (second_half k (rows_lent l))) out.keys)
    (written (hops_of (second_half k (rows_lent l))) out.labels))
