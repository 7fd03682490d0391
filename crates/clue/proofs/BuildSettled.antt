-- Rule 17.1: a build of entries is settled. Two outcomes that keep the promise for one input are the same, in the answer and in each lent
-- slot. An outcome tells its answer and its slices.
-- Assumes nothing.
use mathlib.Core.Path.{◌≡◌, refl, sym, ap, ◌∙◌}
use mathlib.Core.Bool.{cond}
use mathlib.Core.List.{List}
use Prim.Native.Nat.{ℕ}
use lib.Dec.{eqb}
use Rattle.ground.specs.Numbers.{done}
use Rattle.routes.specs.Row.{ListLent}
use Rattle.std.specs.Prelude.{Result, Ok, Err}
use Rattle.clue.specs.declared.Refusal.{Refusal}
use Rattle.clue.proofs.Numbers.{refusal_by, number_tells, number_not_done}
use Rattle.entries.specs.Entries.{EntriesLent}
use Rattle.clue.specs.Build.{EntriesOutcome, entries_gave, build_entries}

abbrev entered_by : EntriesOutcome → Result ℕ Refusal
entered_by o = cond (eqb o.number done) (Ok o.count) (Err (refusal_by o.number))

tells : (r : Result ℕ Refusal) (keys hops marks : List ℕ)
    → let o = entries_gave r keys hops marks in
    (entered_by o ≡ r) × (o.left.keys ≡ keys) × (o.left.hops ≡ hops) × (o.left.marks ≡ marks)
tells (Ok n) keys hops marks = (refl, refl, refl, refl)
tells (Err e) keys hops marks = (rw number_not_done (ap Err (number_tells e)), refl, refl, refl)

module _ (l : ListLent) (lengths addresses : List ℕ) (e : EntriesLent) (r r' : Result ℕ Refusal) (k k' h h' m m' : List ℕ) where
  pub entries_settled : entries_gave r k h m ≡ build_entries l lengths addresses e
      → entries_gave r' k' h' m' ≡ build_entries l lengths addresses e → (r ≡ r') × (k ≡ k') × (h ≡ h') × (m ≡ m')
  entries_settled b b' =
      let same = b ∙ sym b' in
      let one = tells r k h m in
      let other = tells r' k' h' m' in (
        sym one.0 ∙ ap entered_by same ∙ other.0,
        sym one.1 ∙ ap (λ (o : EntriesOutcome). o.left.keys) same ∙ other.1,
        sym one.2 ∙ ap (λ (o : EntriesOutcome). o.left.hops) same ∙ other.2,
        sym one.3 ∙ ap (λ (o : EntriesOutcome). o.left.marks) same ∙ other.3,
      )
