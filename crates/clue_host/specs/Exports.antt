-- Rule 19.8: what the exports of the hints return to C: a build a struct, and the two lookups one number each.
-- Assumes nothing.
use Rattle.std.specs.Prelude.{List, ℕ, ◌+◌, ◌*◌}
use Rattle.entries.specs.Entries.{mark, entries_lent}
use Rattle.clue.specs.Build.{EntriesOutcome, made}
use Rattle.clue.specs.Lookup.{HintOutcome}
use Rattle.clue.specs.Quick.{QuickOutcome}
use Rattle.clue_host.specs.declared.WhelkEntries.{WhelkEntries}

-- Rule 19.8: what C gets from a build and the three slices at exit, as a build's outcome.
abbrev pub host_entries_gave : WhelkEntries → List ℕ → List ℕ → List ℕ → EntriesOutcome
host_entries_gave w keys hops marks = made w.number w.count (entries_lent keys hops marks)

-- Rule 19.8: a lookup with a hint gives C hop + 65,536 × number, and 4,294,967,296 more where the hop was stored.
unfoldable pub hint_for_c : HintOutcome → ℕ
hint_for_c o = 4294967296 * mark o.final + (65536 * o.number + o.hop)

-- Rule 19.8: the quick form gives C 65,536 + hop where the hop is final, and 0 where a search has to follow.
unfoldable pub quick_for_c : QuickOutcome → ℕ
quick_for_c o = 65536 * mark o.final + o.hop
