-- The two outcomes of an import, by its one check: a report that is too short is refused with 12, any other feed is accepted. A lent tally
-- is then as it was, or has the feed's counts.
-- Assumes nothing.
use mathlib.Core.Path.{◌≡◌, sym, ap, ◌∙◌}
use mathlib.Core.Logic.{◌⊎◌, inl, inr}
use mathlib.Core.Bool.{true, false}
use mathlib.Core.List.{List, []}
use Prim.Native.Nat.{ℕ, ◌≤◌, ◌<◌}
use native.Mathlib.Omega.{arith}
use lib.Dec.{ltb}
use lib.ListN.{length}
use borrow.Author.Tests.{lt-ltb, le-ltb, ltb-true, ltb-false}
use Rattle.ground.specs.Numbers.{first_fault, done, report_short}
use Rattle.ground.proofs.Numbers.{fault_here, fault_later, outcome_done, outcome_refused}
use Rattle.ground.proofs.Truth.{decided}
use Rattle.routes.specs.Row.{list_room}
use Rattle.rows.specs.Rows.{rows_in}
use Rattle.feed.specs.declared.Counts.{Counts}
use Rattle.feed.specs.Import.{ImportLent, ImportOutcome, import_checks, import_refused, import_accepted, import, import_tally}

module _ (feed : List ℕ) (l : ImportLent) where
  abbrev accepted : ImportOutcome
  accepted = import_accepted (list_room l.keys l.hops) feed l

  module _ (h : length l.report < length (rows_in feed)) where
    short : first_fault (import_checks feed l) ≡ report_short
    unfolding import_checks
    short = fault_here report_short [] (lt-ltb _ _ h)

    pub import_short : import feed l ≡ import_refused l report_short
    unfolding import
    import_short = outcome_refused (import_checks feed l) (import_refused l) accepted report_short short (λ z. absurd (omega arith))

    pub tally_short : (tally : Counts) → import_tally feed l tally ≡ tally
    unfolding import_tally
    tally_short tally = outcome_refused (import_checks feed l) (λ n. tally) _ report_short short (λ z. absurd (omega arith))

  module _ (h : length (rows_in feed) ≤ length l.report) where
    long : first_fault (import_checks feed l) ≡ done
    unfolding import_checks first_fault
    long = fault_later report_short [] (le-ltb _ _ h)

    pub import_long : import feed l ≡ import_accepted (list_room l.keys l.hops) feed l
    unfolding import
    import_long = outcome_done (import_checks feed l) (import_refused l) accepted long

    pub tally_long : (tally : Counts) → import_tally feed l tally ≡ (import feed l).counts
    unfolding import_tally
    tally_long tally = outcome_done (import_checks feed l) (λ n. tally) _ long ∙ sym (ap (λ o. o.counts) import_long)

  -- the number says which of the two it was
  pub done_is_long : (import feed l).number ≡ done → length (rows_in feed) ≤ length l.report
  done_is_long e = go (decided (ltb (length l.report) (length (rows_in feed))))
    where
      go : (ltb (length l.report) (length (rows_in feed)) ≡ true) ⊎ (ltb (length l.report) (length (rows_in feed)) ≡ false)
          → length (rows_in feed) ≤ length l.report
      go (inl t) = absurd (omega (arith, ap (λ o. o.number) (import_short (ltb-true _ _ t))))
      go (inr t) = ltb-false _ _ t

  pub done_is_accepted : (import feed l).number ≡ done → import feed l ≡ import_accepted (list_room l.keys l.hops) feed l
  done_is_accepted e = import_long (done_is_long e)

  pub refused_is_short : (import feed l).number ≡ report_short → length l.report < length (rows_in feed)
  refused_is_short e = go (decided (ltb (length l.report) (length (rows_in feed))))
    where
      go : (ltb (length l.report) (length (rows_in feed)) ≡ true) ⊎ (ltb (length l.report) (length (rows_in feed)) ≡ false)
          → length l.report < length (rows_in feed)
      go (inl t) = ltb-true _ _ t
      go (inr t) = absurd (omega (arith, ap (λ o. o.number) (import_long (ltb-false _ _ t))))

  pub not_done_is_refused : ((import feed l).number ≡ done → ⊥) → import feed l ≡ import_refused l report_short
  not_done_is_refused fault = go (decided (ltb (length l.report) (length (rows_in feed))))
    where
      go : (ltb (length l.report) (length (rows_in feed)) ≡ true) ⊎ (ltb (length l.report) (length (rows_in feed)) ≡ false)
          → import feed l ≡ import_refused l report_short
      go (inl t) = import_short (ltb-true _ _ t)
      go (inr t) = absurd (fault (ap (λ o. o.number) (import_long (ltb-false _ _ t))))
