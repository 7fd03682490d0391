-- What a pull finds, by its place: at or past the feed's end no row and the same place, before it the row from there on and the place
-- behind it.
-- Assumes nothing.
use mathlib.Core.Path.{◌≡◌, sym}
use mathlib.Core.List.{List}
use mathlib.Core.Option.{none, some}
use Prim.Native.Nat.{ℕ, ◌+◌, ◌-◌, ◌≤◌, ◌<◌, min}
use native.Mathlib.Omega.{arith}
use lib.ListN.{length, take, drop, length-take, length-drop}
use Rattle.rows.specs.Rows.{row_length}
use Rattle.rows.specs.Reading.{Reading, read_row}
use Rattle.rows.specs.Pull.{pull, pull_of}
use Rattle.rows.proofs.Splitting.{rows_from, no_rows_at_end, row_ends_within}

module _ (feed : List ℕ) (at : ℕ) where
  pub pull_at_end : length feed ≤ at → pull feed at ≡ record { reading = none; next = at }
  unfolding pull pull_of
  pull_at_end h = rw (no_rows_at_end feed at h)

  module _ (end : ℕ) (h : at < length feed) (e : end ≡ at + row_length (drop at feed)) where
    within : end ≤ length feed
    within = omega (arith, row_ends_within feed at (omega arith))

    row_length_lem : at + length (take (end - at) (drop at feed)) + 1 ≡ end + 1
    row_length_lem = simp (length-take, length-drop) (omega (arith, within))

    pub pull_row : pull feed at
        ≡ record { reading = some (read_row (take (end - at) (drop at feed))); next = min (end + 1) (length feed) }
    unfolding pull pull_of
    pull_row = rw (rows_from feed at end h e, row_length_lem)

    -- the same of a row that is read up to `stop`
    pub row_pulled : {stop next : ℕ} {r : Reading} → r ≡ read_row (take (stop - at) (drop at feed)) → next ≡ min (end + 1) (length feed)
        → stop ≡ end → record { reading = some r; next = next } ≡ pull feed at
    row_pulled read_is next_is stop_is = rw (read_is, next_is, stop_is) (sym pull_row)
