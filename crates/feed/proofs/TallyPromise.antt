-- What an import with a lent tally promises its callers, from its contract alone. It ends as `import` does on the same input and leaves the
-- same slices. Where it is done the tally has the counts that `import` returns, whatever it held before; on 12 it holds what it held.
-- Assumes nothing.
use mathlib.Core.Path.{◌≡◌, refl, sym, ap, ◌∙◌}
use mathlib.Core.List.{List}
use Prim.Native.Nat.{ℕ}
use Rattle.std.specs.Prelude.{Result, Ok, Err}
use Rattle.ground.specs.declared.Refusal.{Refusal}
use Rattle.ground.specs.declared.Refusal.TheVariants.{ReportShort}
use Rattle.ground.specs.Numbers.{number_of, done}
use Rattle.feed.specs.declared.Counts.{Counts}
use Rattle.feed.specs.Counts.{no_counts}
use Rattle.feed.specs.Import.{ImportLent, import, end_number, ended, import_gave, TallyGave}
use Rattle.feed.proofs.Outcome.{tally_short, tally_long, done_is_long, refused_is_short, not_done_is_refused}
use Rattle.feed.proofs.Settled.{not_done, same_end, gave_one}

same_number : (i : Result Counts Refusal) → end_number i ≡ end_number (ended i)
same_number (Ok c) = refl
same_number (Err e) = refl

module _ (feed : List ℕ) (l : ImportLent) (tally : Counts) {r : Result (Unit {0}) Refusal} {keys hops report : List ℕ} {tally' : Counts}
    (g : TallyGave feed l tally r keys hops report tally') where
  -- `import` on the same input ends the same way and leaves the same slices
  pub as_import : (i : Result Counts Refusal) {keys' hops' report' : List ℕ} → import_gave i keys' hops' report' ≡ import feed l
      → (r ≡ ended i) × (keys ≡ keys') × (hops ≡ hops') × (report ≡ report')
  as_import i e = (
    same_end r (ended i) (g.number ∙ (sym (ap (λ o. o.number) e) ∙ same_number i)),
    g.keys_left ∙ sym (ap (λ o. o.keys) e),
    g.hops_left ∙ sym (ap (λ o. o.hops) e),
    g.report_left ∙ sym (ap (λ o. o.report) e),
  )

  -- so its answer with the tally is that of `import`
  pub done_as_import : r ≡ Ok tt → import_gave (Ok tally') keys hops report ≡ import feed l
  done_as_import done_with =
      let long = done_is_long feed l (sym g.number ∙ ap end_number done_with) in
      let counted : tally' ≡ (import feed l).counts = g.tally_left ∙ tally_long feed l long tally in
      let number : done ≡ (import feed l).number = sym (ap end_number done_with) ∙ g.number in
      rw (number, counted, g.keys_left, g.hops_left, g.report_left) refl

  pub refused_as_import : {e : Refusal} → r ≡ Err e → import_gave (Err e) keys hops report ≡ import feed l
  refused_as_import {e} refused_with =
      let number : number_of e ≡ (import feed l).number = sym (ap end_number refused_with) ∙ g.number in
      let refused = not_done_is_refused feed l (λ z. not_done e (sym (number ∙ z))) in
      let none : no_counts ≡ (import feed l).counts = sym (ap (λ o. o.counts) refused) in
      rw (number, none, g.keys_left, g.hops_left, g.report_left) refl

  -- done: the tally has the counts that `import` returns
  pub tally_is_counts : r ≡ Ok tt → (i : Result Counts Refusal) {keys' hops' report' : List ℕ}
      → import_gave i keys' hops' report' ≡ import feed l → i ≡ Ok tally'
  tally_is_counts done_with i e = (gave_one (e ∙ sym (done_as_import done_with))).0

  -- on 12 it is as at entry
  pub tally_untouched : r ≡ Err ReportShort → tally' ≡ tally
  tally_untouched short = g.tally_left ∙ tally_short feed l (refused_is_short feed l (sym g.number ∙ ap end_number short)) tally
