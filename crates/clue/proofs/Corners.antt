-- Corners of the definitions of section 19, reckoned by hand and computed. The list is 0.0.0.0/0 hop 1, 10.0.0.0/8 hop 7, 10.64.0.0/10 hop 9
-- and 255.255.255.255/32 hop 3.
-- Assumes nothing.
use mathlib.Core.Path.{◌≡◌, refl}
use mathlib.Core.Bool.{true, false}
use mathlib.Core.List.{List, [], ◌∷◌}
use Prim.Native.Nat.{ℕ}
use Rattle.ground.specs.Numbers.{first_fault, outcome}
use Rattle.ground.specs.Slots.{same, written}
use Rattle.ground.specs.Column.{ascends, is_in, lower}
use Rattle.ground.specs.Stretch.{among}
use Rattle.cidr.specs.Prefix.{dotted, key_of, size, host_bits, is_prefix, holds, covers}
use Rattle.routes.specs.Row.{Row, row, rows_of, keys_of, hops_of, every, those, ListLent, list_lent, list_room}
use Rattle.routes.specs.WellFormed.{prefixes, hops_given, ascending, half_rows, good_rows, well_formed}
use Rattle.routes.specs.Plain.{matching, longer, longest, plain}
use Rattle.halving.specs.Halving.{halves, halving}
use Rattle.entries.specs.Clue.{clue_of, around, hop_around, extends, any, extended}
use Rattle.entries.specs.Entries.{clues, entered, in_key_order, mark, entry_hops, entry_marks, EntriesLent, entries_lent, all_keys, its_entries, too_long, entry_room, entries_in}
use Rattle.clue.specs.Build.{EntriesOutcome, made, entries_checks, build_entries}
use Rattle.clue.specs.Lookup.{is_final, stored_hop, hint_checks, hint_lookup}
use Rattle.clue.specs.Quick.{quick_place, quick_final, quick_lookup}

abbrev rows : List Row
rows =
    row 0 1
    ∷ row (key_of (dotted 10 0 0 0) 8) 7
    ∷ row (key_of (dotted 10 64 0 0) 10) 9
    ∷ row (key_of (dotted 255 255 255 255) 32) 3
    ∷ []

abbrev lent : ListLent
lent = list_lent 4 (keys_of rows) (hops_of rows)

-- the hop and the mark of a clue
abbrev says : ℕ → ℕ → List ℕ
says len a = hop_around rows (clue_of len a) ∷ mark (extended rows (clue_of len a)) ∷ []

-- Rule 19.2: of 10.0.0.0/7 the longest match is 0.0.0.0/0, though 10.0.0.0 itself has hop 7. A row on the clue's own length is its match and no
-- extension. Lengths 0 and 32, and the last address.
pub of_clues : (says 7 (dotted 10 0 0 0) ≡ 1 ∷ 1 ∷ [])
    × (says 8 (dotted 10 1 2 3) ≡ 7 ∷ 1 ∷ [])
    × (says 10 (dotted 10 127 255 255) ≡ 9 ∷ 0 ∷ [])
    × (says 10 (dotted 10 128 0 0) ≡ 7 ∷ 0 ∷ [])
    × (says 0 4294967295 ≡ 1 ∷ 1 ∷ [])
    × (says 32 4294967295 ≡ 3 ∷ 0 ∷ [])
    × (says 31 4294967295 ≡ 1 ∷ 1 ∷ [])
    × (says 32 0 ≡ 1 ∷ 0 ∷ [])
unfolding clue_of hop_around extended mark any extends around those longest longer covers holds host_bits size
of_clues = (refl, refl, refl, refl, refl, refl, refl, refl)

-- Rule 19.3: equal clues, of other addresses too, make one entry, and entries stand in key order. The shorter slice counts.
pub in_order : in_key_order (clues (32 ∷ 8 ∷ 0 ∷ 8 ∷ 33 ∷ []) (5 ∷ dotted 10 9 9 9 ∷ 7 ∷ dotted 10 0 0 1 ∷ []))
    ≡ 0 ∷ key_of 5 32 ∷ key_of (dotted 10 0 0 0) 8 ∷ []
unfolding in_key_order entered clues clue_of host_bits size
in_order = refl

-- Rule 19.4: 33 is refused where it counts, and a length without an address doesn't count.
pub counted_lengths : (too_long (8 ∷ 33 ∷ []) (1 ∷ []) ≡ false) × (too_long (8 ∷ 33 ∷ []) (1 ∷ 2 ∷ []) ≡ true) × (too_long (32 ∷ []) (1 ∷ []) ≡ false)
unfolding too_long
counted_lengths = (refl, refl, refl)

-- two clues that are equal, 10.0.0.0/8, with two slots for entries, with one and with none
abbrev twice : EntriesLent → EntriesOutcome
twice e = build_entries lent (8 ∷ 8 ∷ []) (dotted 10 0 0 1 ∷ dotted 10 9 9 9 ∷ []) e

abbrev ill : ListLent
ill = list_lent 1 (0 ∷ []) (0 ∷ [])

-- Rules 19.3 and 19.4: one entry, and the slot behind it stays; just enough room; then 13 and the slices as they were; 15 before 11 before 13.
pub of_builds : (twice (entries_lent (5 ∷ 6 ∷ []) (7 ∷ 8 ∷ []) (9 ∷ 4 ∷ []))
    ≡ made 0 1 (entries_lent (key_of (dotted 10 0 0 0) 8 ∷ 6 ∷ []) (7 ∷ 8 ∷ []) (1 ∷ 4 ∷ [])))
    × ((twice (entries_lent (5 ∷ []) (2 ∷ []) (9 ∷ []))).number ≡ 0)
    × (twice (entries_lent (5 ∷ []) [] (9 ∷ [])) ≡ made 13 0 (entries_lent (5 ∷ []) [] (9 ∷ [])))
    × ((build_entries ill (33 ∷ []) (0 ∷ []) (entries_lent [] [] [])).number ≡ 15)
    × ((build_entries ill (32 ∷ []) (0 ∷ []) (entries_lent [] [] [])).number ≡ 11)
    × (build_entries lent [] (0 ∷ []) (entries_lent [] [] []) ≡ made 0 0 (entries_lent [] [] []))
unfolding build_entries outcome first_fault entries_checks entries_in entry_room too_long in_key_order entered clues written entry_hops entry_marks well_formed good_rows hops_given half_rows prefixes ascending ascends list_room every rows_of is_prefix clue_of hop_around extended mark any extends around those longest longer covers holds host_bits size
of_builds = (refl, refl, refl, refl, refl, refl)

-- entries for the clues 0.0.0.0/0, 10.0.0.0/8 and 10.64.0.0/10
abbrev entries : EntriesLent
entries = entries_lent (0 ∷ key_of (dotted 10 0 0 0) 8 ∷ key_of (dotted 10 64 0 0) 10 ∷ []) (1 ∷ 7 ∷ 9 ∷ []) (1 ∷ 1 ∷ 0 ∷ [])

-- Rules 19.5 and 19.6: final, extended, and no entry; then 15, and 14 for a mark, for a hop, for unequal lengths, for equal keys and for a
-- host bit; 11 before 14; and no entries at all.
pub of_lookups : ((hint_lookup lent entries 10 (dotted 10 64 0 1)).hop ≡ 9)
    × ((hint_lookup lent entries 10 (dotted 10 64 0 1)).final ≡ true)
    × ((hint_lookup lent entries 8 (dotted 10 0 0 1)).hop ≡ 7)
    × ((hint_lookup lent entries 8 (dotted 10 0 0 1)).final ≡ false)
    × ((hint_lookup lent entries 32 4294967295).hop ≡ 3)
    × ((hint_lookup lent entries 33 0).number ≡ 15)
    × ((hint_lookup lent (entries_lent (0 ∷ []) (1 ∷ []) (2 ∷ [])) 0 0).number ≡ 14)
    × ((hint_lookup lent (entries_lent (0 ∷ []) (7 ∷ []) (1 ∷ [])) 0 0).number ≡ 14)
    × ((hint_lookup lent (entries_lent (0 ∷ []) (1 ∷ []) []) 0 0).number ≡ 14)
    × ((hint_lookup lent (entries_lent (0 ∷ 0 ∷ []) (1 ∷ 1 ∷ []) (1 ∷ 1 ∷ [])) 0 0).number ≡ 14)
    × ((hint_lookup lent (entries_lent (key_of (dotted 10 0 0 1) 8 ∷ []) (7 ∷ []) (1 ∷ [])) 0 0).number ≡ 14)
    × ((hint_lookup ill (entries_lent (0 ∷ []) (9 ∷ []) (9 ∷ [])) 0 0).number ≡ 11)
    × ((hint_lookup lent (entries_lent [] [] []) 5 0).hop ≡ 1)
unfolding hint_lookup outcome first_fault hint_checks is_final stored_hop its_entries all_keys ascends same entry_hops entry_marks is_in lower among well_formed good_rows hops_given half_rows prefixes ascending list_room every rows_of is_prefix plain matching clue_of hop_around extended mark any extends around those longest longer covers holds host_bits size
of_lookups = (refl, refl, refl, refl, refl, refl, refl, refl, refl, refl, refl, refl, refl)

-- Rule 19.7: the quick form says the same of these, and of no entries, of a length above 32 and of slices that end earlier that a search follows.
pub of_quick : ((quick_lookup entries 10 (dotted 10 64 0 1)).hop ≡ 9)
    × ((quick_lookup entries 10 (dotted 10 64 0 1)).final ≡ true)
    × ((quick_lookup entries 8 (dotted 10 0 0 1)).final ≡ false)
    × ((quick_lookup entries 32 4294967295).final ≡ false)
    × ((quick_lookup (entries_lent [] [] []) 0 0).final ≡ false)
    × ((quick_lookup (entries_lent (0 ∷ []) (1 ∷ []) (0 ∷ [])) 33 0).final ≡ false)
    × ((quick_lookup (entries_lent (0 ∷ []) (1 ∷ []) (0 ∷ [])) 0 7).hop ≡ 1)
    × ((quick_lookup (entries_lent (0 ∷ []) (1 ∷ []) []) 0 7).final ≡ false)
unfolding quick_lookup quick_final quick_place entry_room halving halves clue_of host_bits size
of_quick = (refl, refl, refl, refl, refl, refl, refl, refl)
