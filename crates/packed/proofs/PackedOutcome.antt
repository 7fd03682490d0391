-- What a packed lookup's outcome is, check by check: 19 for a width above 16, for a block without word or base, and for a place before
-- the first hop or past the last one; else the hop at the place. And an outcome is one answer's.
-- Assumes nothing.
use mathlib.Core.Path.{◌≡◌, refl, ◌∙◌}
use mathlib.Core.Bool.{◌||◌}
use mathlib.Core.List.{[], ◌∷◌}
use Prim.Native.Nat.{ℕ, ◌+◌, ◌-◌, ◌/◌, ◌%◌, ◌^◌, ◌≤◌, ◌<◌}
use native.Mathlib.Nat.{div-le_self, lt_of_le_of_lt}
use native.Mathlib.Omega.{arith}
use lib.ListN.{length, get_or}
use lib.Dec.{leb, ltb, eqb}
use lib.Count.{ones-le}
use borrow.Author.Tests.{lt-ltb, le-ltb, le-leb, lt-leb, eq-eqb, ne_eqb}
use Rattle.ground.specs.Numbers.{check, outcome, done, outside_packed}
use Rattle.ground.proofs.Truth.{or_left, or_right}
use Rattle.ground.proofs.Numbers.{outcome_here, outcome_later, outcome_last}
use Rattle.std.proofs.Common.{Result}
use Rattle.ground.specs.declared.Refusal.{Refusal}
use Rattle.routes.specs.Lookup.{looked_up}
use Rattle.routes.proofs.LookupOutcome.{lookup_settled}
use Rattle.packed.specs.Lookup.{SegmentLent, block_of, ones_to, past_place, packed_checks, packed_lookup, packed_gave}

-- a word has at most 16 ones
pub few_ones : (word b : ℕ) → word < 65536 → ones_to word b ≤ 16
unfolding ones_to
few_ones word b l = ones-le 16 (word / 2 ^ (15 - b % 16)) (lt_of_le_of_lt (div-le_self word (2 ^ (15 - b % 16))) l)

module _ (s : SegmentLent) (a : ℕ) where
  abbrev word_at : ℕ
  word_at = block_of s.width a / 16

  pub past_is : past_place s a ≡ get_or s.bases word_at 0 + ones_to (get_or s.words word_at 0) (block_of s.width a)
  unfolding past_place
  past_is = refl

  pub too_wide : 16 < s.width → packed_lookup s a ≡ looked_up outside_packed 0
  unfolding packed_lookup packed_checks
  too_wide l = outcome_here 18 _ _ _ (lt-ltb 16 s.width l)

  pub no_word : s.width ≤ 16 → length s.words ≤ word_at → packed_lookup s a ≡ looked_up outside_packed 0
  unfolding packed_lookup packed_checks
  no_word narrow l =
      outcome_later outside_packed _ _ _ (le-ltb 16 s.width narrow)
      ∙ outcome_here 18 _ _ _ (or_left _ (le-leb _ _ l))

  pub no_base : s.width ≤ 16 → length s.bases ≤ word_at → packed_lookup s a ≡ looked_up outside_packed 0
  unfolding packed_lookup packed_checks
  no_base narrow l =
      outcome_later outside_packed _ _ _ (le-ltb 16 s.width narrow)
      ∙ outcome_here 18 _ _ _ (or_right (leb (length s.words) word_at) (le-leb _ _ l))

  -- the first two checks are passed, and the third decides
  third : s.width ≤ 16 → word_at < length s.words → word_at < length s.bases → packed_lookup s a
      ≡ outcome (check (eqb (past_place s a) 0 || ltb (length s.hops) (past_place s a)) outside_packed ∷ []) (λ n. looked_up n 0)
      (looked_up done (get_or s.hops (past_place s a - 1) 0))
  unfolding packed_lookup packed_checks
  third narrow word base =
      outcome_later outside_packed _ _ _ (le-ltb 16 s.width narrow)
      ∙ outcome_later outside_packed _ _ _ (rw (lt-leb _ _ word, lt-leb _ _ base))

  pub no_place : s.width ≤ 16 → word_at < length s.words → word_at < length s.bases → past_place s a ≡ 0
      → packed_lookup s a ≡ looked_up outside_packed 0
  no_place narrow word base e = third narrow word base ∙ outcome_here 18 _ _ _ (or_left _ (eq-eqb (past_place s a) 0 e))

  pub past_hops : s.width ≤ 16 → word_at < length s.words → word_at < length s.bases → length s.hops < past_place s a
      → packed_lookup s a ≡ looked_up outside_packed 0
  past_hops narrow word base l = third narrow word base ∙ outcome_here 18 _ _ _ (or_right (eqb (past_place s a) 0) (lt-ltb _ _ l))

  pub hop_there : s.width ≤ 16 → word_at < length s.words → word_at < length s.bases → 0 < past_place s a → past_place s a ≤ length s.hops
      → packed_lookup s a ≡ looked_up done (get_or s.hops (past_place s a - 1) 0)
  hop_there narrow word base some l =
      third narrow word base ∙ outcome_last _ 18 _ _
      ∙ rw (ne_eqb (past_place s a) 0 (λ z. omega arith), le-ltb _ _ l)

-- what a packed lookup goes by
pub ruleset packed_tests = (past_is, too_wide, no_word, no_base, no_place, past_hops, hop_there)

pub packed_lookup_settled : (s : SegmentLent) (a : ℕ) (r r' : Result ℕ Refusal) → packed_gave r ≡ packed_lookup s a
    → packed_gave r' ≡ packed_lookup s a
    → r ≡ r'
packed_lookup_settled s a = lookup_settled (packed_lookup s a)
