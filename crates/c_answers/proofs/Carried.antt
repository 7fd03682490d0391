-- What answers a count and what it leaves is carried over to C, case by case.
-- Assumes nothing.
use Rattle.std.proofs.Common.{◌≡◌, ap, ℕ, List, Result, Ok, Err, arith}
use Rattle.ground.specs.declared.Refusal.{Refusal}
use Rattle.runs.specs.Build.{BuildOutcome, build_gave}
use Rattle.split.specs.Split.{SplitOutcome, split_gave}
use Rattle.text.specs.Text.{WriteOutcome, write_gave}
use Rattle.c_answers.specs.Exports.{count_for_c, built_for_c, build_gave_c, build_for_c, written_for_c, write_gave_c, write_for_c}
use Rattle.c_answers.specs.Exports.{parted_for_c, split_gave_c, split_for_c}

-- what a build returns to C and leaves goes by its answer and its slices
pub build_carried : (r : Result ℕ Refusal) {n : ℕ} {starts hops : List ℕ} {o : BuildOutcome} → n ≡ count_for_c r
    → build_gave r starts hops ≡ o → build_gave_c n starts hops ≡ build_for_c o
unfolding built_for_c build_for_c
build_carried (Ok m) {starts = starts} {hops = hops} e b =
    let same : count_for_c (Ok m) ≡ built_for_c (build_gave (Ok m) starts hops) = omega arith in
    rw (← b, e) (ap (λ k. build_gave_c k starts hops) same)
build_carried (Err q) {starts = starts} {hops = hops} e b =
    let same : count_for_c (Err q) ≡ built_for_c (build_gave (Err q) starts hops) = omega arith in
    rw (← b, e) (ap (λ k. build_gave_c k starts hops) same)

-- what a list writer returns to C and leaves goes by its answer and its buffer
pub write_carried : (r : Result ℕ Refusal) {n : ℕ} {buffer : List ℕ} {o : WriteOutcome} → n ≡ count_for_c r
    → write_gave r buffer ≡ o → write_gave_c n buffer ≡ write_for_c o
unfolding written_for_c write_for_c
write_carried (Ok m) {buffer = buffer} e b =
    let same : count_for_c (Ok m) ≡ written_for_c (write_gave (Ok m) buffer) = omega arith in
    rw (← b, e) (ap (λ k. write_gave_c k buffer) same)
write_carried (Err q) {buffer = buffer} e b =
    let same : count_for_c (Err q) ≡ written_for_c (write_gave (Err q) buffer) = omega arith in
    rw (← b, e) (ap (λ k. write_gave_c k buffer) same)

-- what a split returns to C and leaves goes by its answer and its slices
pub split_carried : (r : Result ℕ Refusal) {n : ℕ} {keys labels : List ℕ} {o : SplitOutcome} → n ≡ count_for_c r
    → split_gave r keys labels ≡ o → split_gave_c n keys labels ≡ split_for_c o
unfolding parted_for_c split_for_c
split_carried (Ok m) {keys = keys} {labels = labels} e b =
    let same : count_for_c (Ok m) ≡ parted_for_c (split_gave (Ok m) keys labels) = omega arith in
    rw (← b, e) (ap (λ k. split_gave_c k keys labels) same)
split_carried (Err q) {keys = keys} {labels = labels} e b =
    let same : count_for_c (Err q) ≡ parted_for_c (split_gave (Err q) keys labels) = omega arith in
    rw (← b, e) (ap (λ k. split_gave_c k keys labels) same)
