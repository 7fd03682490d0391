-- Rules 19.3 to 19.7, from the contracts alone: over the entries that an accepted build left, as many of each slice as it returned, lookup with
-- a hint gives 0 and what plain lookup gives, for every address and every length from 0 to 32, whether the clue has an entry or not. A hop
-- that the quick form says is final there is that hop too, whatever the length.
-- Assumes nothing.
use mathlib.Core.Path.{◌≡◌, sym, ap, ◌∙◌}
use mathlib.Core.Bool.{true}
use mathlib.Core.List.{List}
use Prim.Native.Nat.{ℕ, ◌≤◌, ◌<◌}
use lib.ListN.{get_or, take}
use Rattle.ground.specs.Numbers.{done}
use Rattle.cidr.specs.Prefix.{addresses}
use Rattle.routes.specs.Row.{ListLent, rows_lent}
use Rattle.std.specs.Prelude.{Result, Option, Ok}
use Rattle.ground.specs.declared.Refusal as g
use Rattle.routes.specs.Lookup.{LookupOutcome, lookup_gave, plain_lookup}
use Rattle.clue.specs.declared.Refusal.{Refusal}
use Rattle.clue.specs.declared.Hinted.{Hinted}
use Rattle.entries.specs.Entries.{EntriesLent, entries_lent, its_entries}
use Rattle.clue.specs.Build.{entries_gave, build_entries}
use Rattle.clue.specs.Lookup.{hint_gave, hint_lookup}
use Rattle.clue.specs.Quick.{quick_gave, quick_lookup}
use Rattle.clue.proofs.BuiltEntries.{built_well, built_are_its}
use Rattle.clue.proofs.HintThenLookup.{plain_accepted, hint_then_lookup, hint_refused}
use Rattle.clue.proofs.QuickThenLookup.{quick_final_lem}

module _ (l : ListLent) (lengths addrs : List ℕ) (e : EntriesLent) {n : ℕ} {ekeys ehops marks : List ℕ}
    (b : entries_gave (Ok n) ekeys ehops marks ≡ build_entries l lengths addrs e) (small : (i : ℕ) → get_or addrs i 0 < addresses) where
  -- the entries that were built
  abbrev built : EntriesLent
  built = entries_lent (take n ekeys) (take n ehops) (take n marks)

  its : its_entries (rows_lent l) built ≡ true
  its = built_are_its l lengths addrs e b small

  module _ (len a : ℕ) (q : Result ℕ g.Refusal) (found : lookup_gave q ≡ plain_lookup l a) where
    pub build_then_hint : len ≤ 32 → (r : Result Hinted Refusal) → hint_gave r ≡ hint_lookup l built len a
        → ((hint_gave r).number ≡ done) × ((lookup_gave q).number ≡ done) × ((hint_gave r).hop ≡ (lookup_gave q).hop)
    build_then_hint short r gave =
        let none = (hint_refused l built len a r gave).accepted short (built_well l lengths addrs e b) its in
        let same = hint_then_lookup l built len a r gave q found none in
        (none, same.0, same.1)

    pub build_then_quick : (t : Option ℕ) → quick_gave t ≡ quick_lookup built len a → (quick_gave t).final ≡ true
        → ((lookup_gave q).number ≡ done) × ((quick_gave t).hop ≡ (lookup_gave q).hop)
    build_then_quick t gave final =
        let is = found ∙ plain_accepted l a (built_well l lengths addrs e b) in (
          ap (λ (o : LookupOutcome). o.number) is,
          quick_final_lem (rows_lent l) built its len a t gave final ∙ sym (ap (λ (o : LookupOutcome). o.hop) is),
        )
