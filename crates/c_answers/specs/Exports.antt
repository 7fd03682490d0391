-- Rules 7.9 and 7.10: the one number that C gets of a lookup, a build, a list writer and a split, and what such a call leaves. A run lookup
-- leaves the last address in lent memory.
-- Assumes nothing.
use Rattle.std.specs.Prelude.{cond, List, [], ◌∷◌, ℕ, ◌+◌, ◌*◌, ◌/◌, ◌%◌, eqb, Result, Ok, Err}
use Rattle.ground.specs.Numbers.{done, number_of}
use Rattle.ground.specs.declared.Refusal.{Refusal}
use Rattle.routes.specs.Lookup.{LookupOutcome}
use Rattle.runs.specs.Build.{BuildOutcome}
use Rattle.lookup.specs.Lookup.{RunLookupOutcome}
use Rattle.split.specs.Split.{SplitOutcome}
use Rattle.text.specs.Text.{WriteOutcome}

-- Rules 7.9 and 7.10: a lookup gives C hop + 65,536 × number.
unfoldable pub lookup_for_c : LookupOutcome → ℕ
lookup_for_c o = 65536 * o.number + o.hop

-- Rule 7.10: a run lookup over slices gives C hop + 65,536 × number + 4,294,967,296 × probes.
unfoldable pub run_lookup_for_c : RunLookupOutcome → ℕ
run_lookup_for_c o = 4294967296 * o.probes + (65536 * o.number + o.hop)

-- what a run lookup over slices returns to C and leaves: the one number, and the number lent for the last address
pub record ProbedForC : Type 0 where
  pub answer : ℕ
  pub last : ℕ

abbrev pub probed_gave_c : ℕ → ℕ → ProbedForC
probed_gave_c answer last = record { answer = answer; last = last }

-- Rule 5.4: a refusal leaves the lent number.
unfoldable pub probed_for_c : RunLookupOutcome → ℕ → ProbedForC
probed_for_c o last = probed_gave_c (run_lookup_for_c o) (cond (eqb o.number done) o.last last)

-- an address in four bytes, the highest in front
abbrev pub address_bytes : ℕ → List ℕ
address_bytes a = a / 16777216 ∷ a / 65536 % 256 ∷ a / 256 % 256 ∷ a % 256 ∷ []

-- Rule 7.10: what answers a count gives C count + 4,294,967,296 × number.
abbrev pub count_for_c : Result ℕ Refusal → ℕ
count_for_c (Ok n) = n
count_for_c (Err e) = 4294967296 * number_of e

-- Rule 7.10: a build gives C count + 4,294,967,296 × number.
unfoldable pub built_for_c : BuildOutcome → ℕ
built_for_c o = 4294967296 * o.number + o.runs

-- what a build returns to C and leaves: the one number, and the two slices
pub record BuildForC : Type 0 where
  pub answer : ℕ
  pub starts : List ℕ
  pub hops : List ℕ

abbrev pub build_gave_c : ℕ → List ℕ → List ℕ → BuildForC
build_gave_c answer starts hops = record { answer = answer; starts = starts; hops = hops }

unfoldable pub build_for_c : BuildOutcome → BuildForC
build_for_c o = build_gave_c (built_for_c o) o.starts o.hops

-- Rule 7.10: a list writer gives C length + 4,294,967,296 × number.
unfoldable pub written_for_c : WriteOutcome → ℕ
written_for_c o = 4294967296 * o.number + o.length

-- what a list writer returns to C and leaves: the one number, and the buffer
pub record WriteForC : Type 0 where
  pub answer : ℕ
  pub buffer : List ℕ

abbrev pub write_gave_c : ℕ → List ℕ → WriteForC
write_gave_c answer buffer = record { answer = answer; buffer = buffer }

unfoldable pub write_for_c : WriteOutcome → WriteForC
write_for_c o = write_gave_c (written_for_c o) o.buffer

-- Rule 7.10: a split gives C count + 4,294,967,296 × number.
unfoldable pub parted_for_c : SplitOutcome → ℕ
parted_for_c o = 4294967296 * o.number + o.count

-- what a split returns to C and leaves: the one number, and the two slices
pub record SplitForC : Type 0 where
  pub answer : ℕ
  pub keys : List ℕ
  pub labels : List ℕ

abbrev pub split_gave_c : ℕ → List ℕ → List ℕ → SplitForC
split_gave_c answer keys labels = record { answer = answer; keys = keys; labels = labels }

unfoldable pub split_for_c : SplitOutcome → SplitForC
split_for_c o = split_gave_c (parted_for_c o) o.keys o.labels
