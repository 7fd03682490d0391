-- What an import answers is carried over to what C gets. An import has one count for each row number, and C gets each of them, so nothing
-- is lost on the way.
-- Assumes nothing.
use mathlib.Core.Path.{◌≡◌, refl, ap}
use mathlib.Core.Logic.{◌⊎◌, inl, inr}
use mathlib.Core.Bool.{true, false}
use mathlib.Core.List.{List}
use Prim.Native.Nat.{ℕ}
use lib.Dec.{ltb}
use lib.ListN.{length}
use borrow.Author.Tests.{ltb-true, ltb-false}
use Rattle.ground.specs.Stretch.{stretch}
use Rattle.ground.proofs.Truth.{decided}
use Rattle.rows.specs.Rows.{rows_in}
use Rattle.std.specs.Prelude.{Result}
use Rattle.ground.specs.declared.Refusal.{Refusal}
use Rattle.feed.specs.declared.Counts.{Counts}
use Rattle.feed.specs.Counts.{counts_of}
use Rattle.feed.specs.Import.{ImportLent, import, end_number, counts_gave, import_gave}
use Rattle.feed.proofs.Outcome.{import_short, import_long}
use Rattle.c_structs.specs.declared.WhelkCounts.{WhelkCounts}
use Rattle.c_structs.specs.Structs.{counts_in, counts_for_c, host_import_gave}

-- C gets every count of an import
every_count : (n : ℕ) (feed : List ℕ) (l : ImportLent) → counts_in (counts_for_c n (import feed l).counts) ≡ (import feed l).counts
every_count n feed l = go (decided (ltb (length l.report) (length (rows_in feed))))
  where
    go : (ltb (length l.report) (length (rows_in feed)) ≡ true) ⊎ (ltb (length l.report) (length (rows_in feed)) ≡ false)
        → counts_in (counts_for_c n (import feed l).counts) ≡ (import feed l).counts
    go (inl t) = rw (import_short feed l (ltb-true _ _ t))
    go (inr t) = rw (import_long feed l (ltb-false _ _ t)) (unfold counts_of stretch in refl)

pub import_carried : (feed : List ℕ) (l : ImportLent) (r : Result Counts Refusal) {w : WhelkCounts} {keys hops report : List ℕ}
    → w ≡ counts_for_c (end_number r) (counts_gave r) → import_gave r keys hops report ≡ import feed l
    → host_import_gave w keys hops report ≡ import feed l
import_carried feed l r e g =
    let n = end_number r in
    let same : counts_in (counts_for_c n (counts_gave r)) ≡ counts_gave r = rw (ap (λ o. o.counts) g) (every_count n feed l) in
    rw (e, same) g
