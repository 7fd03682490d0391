-- What a build of entries returns and leaves, check by check: 15, 11, 13, and else the entries at the front of the slices.
-- Assumes nothing.
use mathlib.Core.Path.{◌≡◌}
use mathlib.Core.Bool.{true, false}
use mathlib.Core.List.{List}
use Prim.Native.Nat.{ℕ, ◌≤◌, ◌<◌}
use lib.ListN.{length}
use borrow.Author.Tests.{lt-ltb, le-ltb}
use Rattle.ground.specs.Numbers.{first_fault, outcome, done, ill_formed, no_room}
use Rattle.routes.specs.Row.{Row, ListLent, rows_lent}
use Rattle.routes.specs.WellFormed.{well_formed}
use Rattle.entries.specs.Entries.{clues, in_key_order, EntriesLent, too_long, entry_room, entries_in}
use Rattle.clue.specs.Refusal.{bad_length}
use Rattle.clue.specs.Build.{made, entries_checks, build_entries}

module _ (l : ListLent) (lengths addresses : List ℕ) (e : EntriesLent) where
  pub build_long : too_long lengths addresses ≡ true → made bad_length 0 e ≡ build_entries l lengths addresses e
  unfolding build_entries entries_checks first_fault outcome
  build_long t = rw t

  module _ (short : too_long lengths addresses ≡ false) where
    pub build_ill : well_formed l.count l.keys l.hops ≡ false → made ill_formed 0 e ≡ build_entries l lengths addresses e
    unfolding build_entries entries_checks first_fault outcome
    build_ill t = rw (short, t)

    module _ (well : well_formed l.count l.keys l.hops ≡ true) {ks : List ℕ} (is : ks ≡ clues lengths addresses) where
      pub build_full : entry_room e < length (in_key_order ks) → made no_room 0 e ≡ build_entries l lengths addresses e
      unfolding build_entries entries_checks first_fault outcome
      build_full t = rw (short, well, ← is, lt-ltb (entry_room e) (length (in_key_order ks)) t)

      pub build_done : {n : ℕ} {left : EntriesLent} (rows : List Row) → length (in_key_order ks) ≤ entry_room e
          → rows ≡ rows_lent l → n ≡ length (in_key_order ks)
          → left ≡ entries_in rows (in_key_order ks) e → made done n left ≡ build_entries l lengths addresses e
      unfolding build_entries entries_checks first_fault outcome
      build_done rows t same many left_is =
          rw (short, well, ← is, le-ltb (entry_room e) (length (in_key_order ks)) t, many, left_is, same)
