-- Rules 4.9, 7.9 and 7.10: what two calls return to C and leave, for which the library has no outcome of that form: an import with a lent
-- tally, and the lookup over run bytes with lent bytes for the last address. What C gets of the others is in `c_answers` and
-- `c_structs`.
-- Assumes nothing.
use Rattle.std.specs.Prelude.{◌≡◌, List, [], ◌∷◌, ◌++◌, ℕ, length, ltb}
use Rattle.ground.specs.Numbers.{Check, check, outcome, done, no_room}
use Rattle.ground.specs.Slots.{written}
use Rattle.routes.specs.Lookup.{looked_up}
use Rattle.feed.specs.declared.Counts.{Counts}
use Rattle.feed.specs.Import.{ImportLent, import, import_tally}
use Rattle.lookup.specs.Lookup.{bytes_checks, bytes_lookup}
use Rattle.c_answers.specs.Exports.{lookup_for_c, address_bytes}

-- Rules 4.9 and 7.10: what C gets from an import with a lent tally, and what that leaves. Its number and the three slices are those of
-- `import`.
pub record HostTallyGave (feed : List ℕ) (l : ImportLent) (tally : Counts) (r : ℕ) (keys hops report : List ℕ) (tally' : Counts)
    : Type 0 where
  pub number : r ≡ (import feed l).number
  pub keys_left : keys ≡ (import feed l).keys
  pub hops_left : hops ≡ (import feed l).hops
  pub report_left : report ≡ (import feed l).report
  pub tally_left : tally' ≡ import_tally feed l tally

-- Rule 7.9: the lookup over run bytes is lent bytes for the last address. After its own checks it gives 13 for fewer than four.
unfoldable pub held_checks : List ℕ → List ℕ → List Check
held_checks bytes last = bytes_checks bytes ++ (check (ltb (length last) 4) no_room ∷ [])

-- what it returns to C and leaves: the one number, and the lent bytes
pub record HeldForC : Type 0 where
  pub answer : ℕ
  pub last : List ℕ

abbrev pub held_gave_c : ℕ → List ℕ → HeldForC
held_gave_c answer last = record { answer = answer; last = last }

-- Rule 7.9: hop + 65,536 × number, and the last address in the first four bytes. Rule 5.4: a refusal leaves the bytes.
unfoldable pub held_for_c : List ℕ → ℕ → List ℕ → HeldForC
held_for_c bytes a last = outcome (held_checks bytes last) (λ n. held_gave_c (lookup_for_c (looked_up n 0)) last)
    (held_gave_c (lookup_for_c (looked_up done (bytes_lookup bytes a).hop)) (written (address_bytes (bytes_lookup bytes a).last) last))
