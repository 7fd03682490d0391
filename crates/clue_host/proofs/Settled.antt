-- What C gets from a build of entries is settled: two outcomes that keep the promise for one input are the same, in what is returned and in
-- all lent memory. The two lookups promise an equation.
-- Assumes nothing.
use mathlib.Core.Path.{◌≡◌, sym, ap, ◌∙◌}
use mathlib.Core.List.{List}
use Prim.Native.Nat.{ℕ}
use Rattle.clue.specs.Build.{EntriesOutcome}
use Rattle.clue_host.specs.declared.WhelkEntries.{WhelkEntries}
use Rattle.clue_host.specs.Exports.{host_entries_gave}

-- what C gets from a build's outcome
abbrev entries_of : EntriesOutcome → WhelkEntries
entries_of o = record { number = o.number; count = o.count }

pub host_entries_settled : (o : EntriesOutcome) (r r' : WhelkEntries) (k k' h h' m m' : List ℕ)
    → host_entries_gave r k h m ≡ o → host_entries_gave r' k' h' m' ≡ o → (r ≡ r') × (k ≡ k') × (h ≡ h') × (m ≡ m')
host_entries_settled o r r' k k' h h' m m' e e' =
    let same = e ∙ sym e' in
    (ap entries_of same, ap (λ x. x.left.keys) same, ap (λ x. x.left.hops) same, ap (λ x. x.left.marks) same)
