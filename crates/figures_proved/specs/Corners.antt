-- Corners beside the worked figures of rule 14.1, reckoned by hand. Each names the rule that it tries.
-- Assumes nothing.
use Rattle.std.specs.Prelude.{List, [], ◌∷◌, ◌++◌, ℕ, ◌+◌, ◌*◌, ◌^◌, length, replicate}
use Rattle.std.proofs.Math.Option.{Option, none, some}
use Rattle.ground.specs.Slots.{rewritten}
use Rattle.ground.specs.Column.{is_in, inserted_at, removed_at, lower}
use Rattle.halving.specs.Halving.{halving}
use Rattle.ground.specs.Stretch.{turns_from}
use Rattle.cidr.specs.Prefix.{dotted, size, end_of, is_prefix, holds, covers, key_of}
use Rattle.routes.specs.Row.{Row, ListLent, list_lent, keys_of, hops_of, list_room}
use Rattle.routes.specs.WellFormed.{well_formed}
use Rattle.routes.specs.Plain.{plain}
use Rattle.routes.specs.Change.{announced, withdrawn}
use Rattle.routes.specs.Lookup.{plain_lookup, half_lookup}
use Rattle.rows.specs.Rows.{rows_in, row_length}
use Rattle.rows.specs.Reading.{Reading, good, bad}
use Rattle.rows.specs.Pull.{pull, pulls}
use Rattle.feed.specs.declared.Counts.{Counts}
use Rattle.feed.specs.Counts.{counts_of}
use Rattle.feed.specs.Import.{row_numbers, imported_list, ImportLent, import, import_tally}
use Rattle.feed.specs.LastRow.{last_hop, hop_listed}
use Rattle.runs.specs.Table.{runs_lent}
use Rattle.runs.specs.Build.{slots_lent, build, build_half}
use Rattle.runs.specs.Pair.{Pair, pair}
use Rattle.lookup.specs.Bytes.{run_bytes}
use Rattle.edit.specs.Edit.{announce, withdraw}
use Rattle.lookup.specs.Lookup.{run_lookup, bytes_lookup}
use Rattle.c_structs.specs.Structs.{why_for_c}
use Rattle.c_answers.specs.Exports.{lookup_for_c, run_lookup_for_c, probed_for_c, written_for_c}
use Rattle.host.specs.Exports.{held_for_c}
use Rattle.segment.specs.Packed.{width, words_of, bases_of, packed_hops_of}
use Rattle.packed.specs.Lookup.{segment_lent, packed_lookup}
use Rattle.split.specs.Split.{second_half, split_lent, SplitOutcome, split}
use Rattle.text.specs.Text.{text_of, WriteOutcome, write}
use Rattle.program.specs.Program.{bytes, count_lines, run_lines}
use Rattle.why.specs.Why.{places_of, reason_for, WhyOutcome, why}
use Rattle.why.specs.Text.{why_text_of, why_text}
use Rattle.figures_proved.specs.Figure.{Figure, figure, one, as_number, passes, fails, prefix, route}
use Rattle.figures_proved.specs.Marked.{list_a, q, five_rows}

-- 0.0.0.0/0, 128.0.0.0/1 and 255.255.255.255/32, as a list
abbrev pub ends : List Row
ends = route 0 0 0 0 0 9 ∷ route 128 0 0 0 1 8 ∷ route 255 255 255 255 32 7 ∷ []

-- the numbers that the rows of a text get in a roomy import
abbrev pub numbered : List ℕ → List ℕ
numbered feed = row_numbers 1024 feed

-- a good row with these bytes after it, a row of its own
abbrev pub tailed : List ℕ → List ℕ
tailed tail = bytes "10.0.0.0/8 7" ++ (tail ++ bytes "\n")

-- what a pull read, as a row number, a key and a hop; nothing where there was no row
abbrev pub pulled : Option Reading → List ℕ
pulled none = []
pulled (some (good k h)) = 0 ∷ k ∷ h ∷ []
pulled (some (bad n)) = n ∷ 0 ∷ 0 ∷ []

-- a hop as a list, empty where there is none
abbrev pub as_list : Option ℕ → List ℕ
as_list none = []
as_list (some h) = h ∷ []

-- all counts: the rows, and then by row number
abbrev pub counts : Counts → List ℕ
counts c = c.rows ∷ c.of

-- lent keys, hops and report
abbrev pub lent : List ℕ → List ℕ → List ℕ → ImportLent
lent keys hops report = record { keys = keys; hops = hops; report = report }

-- 10.0.0.0/8 hop 1 with 10.64.0.0/10 hop 2 in it
abbrev pub nested : List Row
nested = route 10 0 0 0 8 1 ∷ route 10 64 0 0 10 2 ∷ []

-- what the listing for 10.64.0.1 does with it and some places, and the listing's text with a buffer
abbrev pub why_nested : List ℕ → WhyOutcome
why_nested places = why (list_lent 2 (keys_of nested) (hops_of nested)) (dotted 10 64 0 1) places

abbrev pub why_text_nested : List ℕ → WriteOutcome
why_text_nested buffer = why_text (list_lent 2 (keys_of nested) (hops_of nested)) (dotted 10 64 0 1) buffer

-- the numbers of C's struct for a listing, and then the places
abbrev pub reason_in_c : WhyOutcome → List ℕ
reason_in_c o =
    (why_for_c o).answer.number ∷ (why_for_c o).answer.listed ∷ (why_for_c o).answer.place ∷ (why_for_c o).places

-- the number of a split with room for two rows
abbrev pub split_of : ℕ → ℕ → List ℕ → List ℕ → ℕ
split_of k count keys hops = (split k (list_lent count keys hops) (split_lent (0 ∷ 0 ∷ []) (0 ∷ 0 ∷ []))).number

-- what the split of 0.0.0.0/0 hop 4 with size 1 does with two slices
abbrev pub part_of : List ℕ → List ℕ → SplitOutcome
part_of keys labels = split 1 (list_lent 1 (0 ∷ []) (4 ∷ [])) (split_lent keys labels)

-- a half of one row, 10.0.0.0/8 with label 0, and one of a row without a key
abbrev pub label0 : ListLent
label0 = list_lent 1 (prefix 10 0 0 0 8 ∷ []) (0 ∷ [])

abbrev pub ill_half : ListLent
ill_half = list_lent 1 (2 ^ 38 ∷ []) (0 ∷ [])

-- the number of a packed lookup of the address 0
abbrev pub packed_number : ℕ → List ℕ → List ℕ → List ℕ → ℕ
packed_number w words bases hops = (packed_lookup (segment_lent w words bases hops) 0).number

-- what the list writer does with 0.0.0.0/0 hop 5 and a buffer
abbrev pub wrote5 : List ℕ → WriteOutcome
wrote5 buffer = write (list_lent 1 (0 ∷ []) (5 ∷ [])) buffer

-- the empty list with a count of runs beyond one of their slices
abbrev pub ill_pair : Pair
ill_pair = pair (list_lent 0 [] []) (runs_lent 1 (5 ∷ []) [])

abbrev pub corners : List Figure
corners =
    -- Rule 2.7: the key of 10.0.0.0/8.
    one (prefix 10 0 0 0 8) 10737418248
    -- Rules 2.2 and 2.3: 0.0.0.0/0, 128.0.0.0/1 and 255.255.255.255/32 are prefixes, and hold what they hold.
    ∷ passes (is_prefix (prefix 0 0 0 0 0))
    ∷ passes (is_prefix (prefix 128 0 0 0 1))
    ∷ passes (is_prefix (prefix 255 255 255 255 32))
    ∷ fails (is_prefix (prefix 128 0 0 0 0))
    ∷ passes (holds (prefix 0 0 0 0 0) (dotted 255 255 255 255))
    ∷ fails (holds (prefix 128 0 0 0 1) (dotted 127 255 255 255))
    ∷ passes (holds (prefix 128 0 0 0 1) (dotted 128 0 0 0))
    ∷ passes (holds (prefix 128 0 0 0 1) (dotted 255 255 255 255))
    ∷ fails (holds (prefix 255 255 255 255 32) (dotted 255 255 255 254))
    ∷ figure (plain ends 0 ∷ plain ends (dotted 127 255 255 255) ∷ plain ends (dotted 128 0 0 0) ∷ []) (9 ∷ 9 ∷ 8 ∷ [])
    ∷ figure (plain ends (dotted 255 255 255 254) ∷ plain ends (dotted 255 255 255 255) ∷ []) (8 ∷ 7 ∷ [])
    -- Rules 2.11, 2.12 and 9.2: the empty list is well-formed, answers 0, and packs to one block. Rule 12.2: its text is empty.
    ∷ passes (well_formed 0 [] [])
    ∷ one (plain [] (dotted 10 0 0 0)) 0
    ∷ one (width q []) 0
    ∷ figure (words_of q [] ++ (bases_of q [] ++ packed_hops_of q [])) (32768 ∷ 0 ∷ 0 ∷ [])
    ∷ figure (text_of []) []
    -- Rule 2.7: 2^38 is no key, nor is a number whose remainder by 64 is 33 or 63.
    ∷ fails (is_prefix (2 ^ 38))
    ∷ fails (is_prefix (key_of 0 33))
    ∷ fails (is_prefix (key_of 0 63))
    ∷ one (plain_lookup (list_lent 1 (2 ^ 38 ∷ []) (1 ∷ [])) 0).number 11
    -- Rule 2.11: 11 for a count beyond one slice, hop 0, equal keys, and keys that fall. Rule 11.8: label 0 is no fault in a half.
    -- Rule 2.8: slots from the count on aren't looked at.
    ∷ one (plain_lookup (list_lent 1 (prefix 10 0 0 0 8 ∷ []) []) 0).number 11
    ∷ one (plain_lookup (list_lent 1 (prefix 10 0 0 0 8 ∷ []) (0 ∷ [])) 0).number 11
    ∷ one (half_lookup (list_lent 1 (prefix 10 0 0 0 8 ∷ []) (0 ∷ [])) 0).number 0
    ∷ one (plain_lookup (list_lent 2 (prefix 10 0 0 0 8 ∷ prefix 10 0 0 0 8 ∷ []) (1 ∷ 1 ∷ [])) 0).number 11
    ∷ one (plain_lookup (list_lent 2 (prefix 11 0 0 0 8 ∷ prefix 10 0 0 0 8 ∷ []) (1 ∷ 1 ∷ [])) 0).number 11
    ∷ one (plain_lookup (list_lent 1 (prefix 10 0 0 0 8 ∷ 0 ∷ []) (1 ∷ 0 ∷ [])) 0).number 0
    ∷ one (plain_lookup (list_lent 1 (prefix 10 0 0 0 8 ∷ 0 ∷ []) (1 ∷ 0 ∷ [])) (dotted 10 9 9 9)).hop 1
    -- Rules 3.1 and 3.2: the empty feed, a single LF, no last LF, a last LF, two LFs side by side.
    ∷ one (length (rows_in [])) 0
    ∷ figure (numbered (bytes "\n")) (1 ∷ [])
    ∷ figure (numbered (bytes "10.0.0.0/8 7")) (0 ∷ [])
    ∷ figure (numbered (bytes "10.0.0.0/8 7\n")) (0 ∷ [])
    ∷ figure (numbered (bytes "10.0.0.0/8 7\n\n")) (0 ∷ 1 ∷ [])
    -- Rules 3.3 and 3.7: octets of 999 and 1000, hops of 0, 65535, 70000 and six digits, lengths of 33 and 032.
    ∷ figure (numbered (bytes "10.0.0.999/8 7\n10.0.0.1000/8 7\n")) (2 ∷ 1 ∷ [])
    ∷ figure (numbered (bytes "10.0.0.0/8 0\n10.0.0.0/8 65535\n11.0.0.0/8 70000\n12.0.0.0/8 000007\n")) (2 ∷ 0 ∷ 2 ∷ 1 ∷ [])
    ∷ figure (numbered (bytes "10.0.0.0/33 7\n10.0.0.0/032 7\n")) (2 ∷ 1 ∷ [])
    -- Rules 3.4 and 3.7: a zero in front of an octet, the length and the hop is 6. It comes after shape and before range and host bits.
    -- A lone 0 has no zero in front: hop 0 is 2, and as an octet or length it is good. A zero may stand behind another digit.
    ∷ figure (numbered (bytes "010.0.0.0/8 7\n10.00.0.0/8 7\n10.0.000.0/8 7\n10.0.0.01/8 7\n")) (6 ∷ 6 ∷ 6 ∷ 6 ∷ [])
    ∷ figure (numbered (bytes "10.0.0.0/08 7\n10.0.0.0/8 07\n10.0.0.0/8 00\n10.0.0.0/8 0\n")) (6 ∷ 6 ∷ 6 ∷ 2 ∷ [])
    ∷ figure (numbered (bytes "0.0.0.0/00 7\n0.0.0.0/0 00000\n")) (6 ∷ 6 ∷ [])
    ∷ figure (numbered (bytes "010.0.0.256/8 7\n010.0.0.0/8 7x\n10.0.0.1/08 70000\n")) (6 ∷ 1 ∷ 6 ∷ [])
    ∷ figure (numbered (bytes "0.0.0.0/0 7\n100.0.0.0/10 100\n0.0.0.1/8 7\n")) (0 ∷ 0 ∷ 3 ∷ [])
    -- Rules 3.6 and 3.7: the whole row's form comes before any value, and range before host bits.
    ∷ figure (numbered (bytes "999.2.3.4/5 6x\n10.0.0.1/8 70000\n10.0.0.1/8 7\n")) (1 ∷ 2 ∷ 3 ∷ [])
    -- Rule 3.5: a zero byte, 255, CR, tab and a space behind a good row, and a second space in it.
    ∷ figure (numbered (tailed (0 ∷ []))) (1 ∷ [])
    ∷ figure (numbered (tailed (255 ∷ []))) (1 ∷ [])
    ∷ figure (numbered (tailed (13 ∷ []))) (1 ∷ [])
    ∷ figure (numbered (tailed (9 ∷ []))) (1 ∷ [])
    ∷ figure (numbered (tailed (32 ∷ []))) (1 ∷ [])
    ∷ figure (numbered (bytes "10.0.0.0/8  7\n 10.0.0.0/8 7\n10.0.0.0/8\n10.0.0/8 7\n")) (1 ∷ 1 ∷ 1 ∷ 1 ∷ [])
    -- Rule 3.8: room 0 and room 1. A prefix that got 5 gets 5 again, and one that was taken gets 4 in a full list as well.
    ∷ one (list_room [] (1 ∷ [])) 0
    ∷ figure (row_numbers 0 (bytes "10.0.0.0/8 7\n10.0.0.0/8 7\n")) (5 ∷ 5 ∷ [])
    ∷ figure (row_numbers 1 (bytes "10.0.0.0/8 7\n11.0.0.0/8 7\n10.0.0.0/8 9\n11.0.0.0/8 7\n")) (0 ∷ 5 ∷ 4 ∷ 5 ∷ [])
    -- Rules 4.2 and 4.3: the list stands in key order, and slots behind it stay.
    ∷ figure (keys_of (imported_list 9 (bytes "10.0.0.0/8 7\n9.0.0.0/8 5\n10.0.0.0/16 6\n")))
    (prefix 9 0 0 0 8 ∷ prefix 10 0 0 0 8 ∷ prefix 10 0 0 0 16 ∷ [])
    ∷ figure (hops_of (imported_list 9 (bytes "10.0.0.0/8 7\n9.0.0.0/8 5\n10.0.0.0/16 6\n"))) (5 ∷ 7 ∷ 6 ∷ [])
    -- Rules 4.2 and 4.3: a later row of a taken prefix gives it its hop, the last one wins, in a full list as well; a refused row gives none, and
    -- other rows keep theirs.
    ∷ figure (hops_of (imported_list 1024 five_rows)) (9 ∷ [])
    ∷ figure (hops_of (imported_list 9 (bytes "10.0.0.0/8 7\n9.0.0.0/8 5\n10.0.0.0/8 6\n10.0.0.0/8 8\n10.0.0.0/8 0\n10.0.0.0/8 04\n"))) (5 ∷ 8 ∷ [])
    ∷ figure (hops_of (imported_list 1 (bytes "10.0.0.0/8 7\n11.0.0.0/8 6\n10.0.0.0/8 9\n11.0.0.0/8 5\n"))) (9 ∷ [])
    ∷ figure (import (bytes "10.0.0.0/8 7\n10.0.0.0/8 9") (lent (77 ∷ 78 ∷ []) (79 ∷ 80 ∷ []) (81 ∷ 82 ∷ []))).hops (9 ∷ 80 ∷ [])
    ∷ figure (as_list (last_hop (prefix 10 0 0 0 8) (0 ∷ 5 ∷ 4 ∷ 2 ∷ []) (rows_in (bytes "10.0.0.0/8 7\n11.0.0.0/8 6\n10.0.0.0/8 9\n10.0.0.0/8 0\n"))))
    (9 ∷ [])
    ∷ figure (as_list (last_hop (prefix 11 0 0 0 8) (0 ∷ 5 ∷ []) (rows_in (bytes "10.0.0.0/8 7\n11.0.0.0/8 6\n")))) []
    ∷ figure (as_list (hop_listed (prefix 11 0 0 0 8) nested) ++ as_list (hop_listed (prefix 10 64 0 0 10) nested)) (2 ∷ [])
    ∷ figure (import (bytes "0.0.0.0/0 1") (lent (77 ∷ 78 ∷ []) (79 ∷ 80 ∷ []) (81 ∷ []))).keys (0 ∷ 78 ∷ [])
    -- Rules 4.4 and 4.7: a report one byte short is 12, and stays. Bytes behind the last row stay.
    ∷ one (import (bytes "\n\n") (lent [] [] (9 ∷ []))).number 12
    ∷ figure (import (bytes "\n\n") (lent [] [] (9 ∷ []))).report (9 ∷ [])
    ∷ figure (import (bytes "\n\n") (lent [] [] (9 ∷ 9 ∷ 9 ∷ []))).report (1 ∷ 1 ∷ 9 ∷ [])
    -- Rules 4.11 to 4.14: pulls past an LF, to the end, at the end, past the end, and in mid-row, where what is left of the row is read.
    ∷ one (pull (bytes "10.0.0.0/8 7\nx") 0).next 13
    ∷ one (pull (bytes "10.0.0.0/8 7\nx") 13).next 14
    ∷ one (pull (bytes "10.0.0.0/8 7\nx") 14).next 14
    ∷ one (pull (bytes "10.0.0.0/8 7\nx") 20).next 20
    ∷ figure (pulled (pull (bytes "110.0.0.0/8 7\nx") 1).reading) (0 ∷ prefix 10 0 0 0 8 ∷ 7 ∷ [])
    ∷ figure (pulled (pull (bytes "10.0.0.1/8 7\nx") 0).reading) (3 ∷ 0 ∷ 0 ∷ [])
    ∷ figure (pulled (pull (bytes "010.0.0.256/8 7\nx") 0).reading) (6 ∷ 0 ∷ 0 ∷ [])
    ∷ figure (pulled (pull (bytes "\n") 1).reading) []
    -- Rules 4.12 to 4.14: a feed of no bytes, a row at the end without LF, and the pulls of a whole feed.
    ∷ figure (pulled (pull [] 0).reading) []
    ∷ figure ((pull [] 0).next ∷ (pull [] 3).next ∷ length (pulls []) ∷ []) (0 ∷ 3 ∷ 0 ∷ [])
    ∷ figure (pulled (pull (bytes "255.255.255.255/32 7") 0).reading) (0 ∷ prefix 255 255 255 255 32 ∷ 7 ∷ [])
    ∷ figure ((pull (bytes "0.0.0.0/0 7") 0).next ∷ (pull (bytes "0.0.0.0/0 7\n") 0).next ∷ []) (11 ∷ 12 ∷ [])
    ∷ figure (length (pulls (bytes "\n\nx")) ∷ length (pulls (bytes "x\n")) ∷ []) (3 ∷ 1 ∷ [])
    -- Rules 7.3 and 7.5: one run takes no probe, and five runs at most three. High is one above low.
    ∷ figure ((halving (λ i. i) 1 9).low ∷ (halving (λ i. i) 1 9).high ∷ (halving (λ i. i) 1 9).probes ∷ []) (0 ∷ 1 ∷ 0 ∷ [])
    ∷ figure ((halving (λ i. i) 5 9).low ∷ (halving (λ i. i) 5 9).high ∷ (halving (λ i. i) 5 9).probes ∷ []) (4 ∷ 5 ∷ 3 ∷ [])
    ∷ figure ((halving (λ i. i) 5 1).low ∷ (halving (λ i. i) 5 1).high ∷ (halving (λ i. i) 5 1).probes ∷ []) (1 ∷ 2 ∷ 2 ∷ [])
    -- Rules 7.2 and 7.8: no runs, a count beyond one slice, and a wrong number of run bytes are 11. Rules 7.9 and 7.10: for C too.
    ∷ figure ((run_lookup (runs_lent 0 [] []) 0).number ∷ (run_lookup (runs_lent 2 (0 ∷ 5 ∷ []) (1 ∷ [])) 0).number ∷ []) (11 ∷ 11 ∷ [])
    ∷ figure ((run_lookup (runs_lent 2 (0 ∷ 5 ∷ []) (1 ∷ 2 ∷ [])) 4).hop ∷ (run_lookup (runs_lent 2 (0 ∷ 5 ∷ []) (1 ∷ 2 ∷ [])) 5).hop ∷ [])
    (1 ∷ 2 ∷ [])
    ∷ one (run_lookup (runs_lent 2 (0 ∷ 5 ∷ []) (1 ∷ 2 ∷ [])) 5).probes 1
    -- Rule 7.4: the last address of a run before another, of the last run, of a refusal, and in tables that are in no order.
    ∷ figure ((run_lookup (runs_lent 2 (0 ∷ 5 ∷ []) (1 ∷ 2 ∷ [])) 4).last ∷ (run_lookup (runs_lent 2 (0 ∷ 5 ∷ []) (1 ∷ 2 ∷ [])) 5).last ∷ [])
    (4 ∷ dotted 255 255 255 255 ∷ [])
    ∷ figure ((run_lookup (runs_lent 1 (9 ∷ []) (1 ∷ [])) 0).last ∷ (run_lookup (runs_lent 2 (0 ∷ 5 ∷ []) (1 ∷ [])) 0).last ∷ [])
    (dotted 255 255 255 255 ∷ 0 ∷ [])
    ∷ one (run_lookup (runs_lent 3 (9 ∷ 7 ∷ 3 ∷ []) (1 ∷ 2 ∷ 3 ∷ [])) 5).last 6
    ∷ one (run_lookup (runs_lent 3 (9 ∷ 3 ∷ 7 ∷ []) (1 ∷ 2 ∷ 3 ∷ [])) 5).last 6
    ∷ figure (run_lookup_for_c (run_lookup (runs_lent 0 [] []) 0) ∷ run_lookup_for_c (run_lookup (runs_lent 2 (0 ∷ 5 ∷ []) (1 ∷ [])) 5) ∷ [])
    (720896 ∷ 720896 ∷ [])
    ∷ one (run_lookup_for_c (run_lookup (runs_lent 1 (0 ∷ []) (7 ∷ [])) 4294967295)) 7
    ∷ one (run_lookup_for_c (run_lookup (runs_lent 2 (0 ∷ 4294967295 ∷ []) (1 ∷ 65535 ∷ [])) 4294967295)) (4294967296 + 65535)
    ∷ figure (run_bytes (0 ∷ dotted 1 2 3 4 ∷ []) (5 ∷ 1542 ∷ [])) (0 ∷ 0 ∷ 0 ∷ 0 ∷ 0 ∷ 5 ∷ 1 ∷ 2 ∷ 3 ∷ 4 ∷ 6 ∷ 6 ∷ [])
    ∷ figure ((bytes_lookup [] 0).number ∷ (bytes_lookup (0 ∷ []) 0).number ∷ (bytes_lookup (0 ∷ []) 0).last ∷ []) (11 ∷ 11 ∷ 0 ∷ [])
    ∷ figure ((held_for_c [] 0 (9 ∷ [])).answer ∷ (held_for_c (0 ∷ []) 0 (9 ∷ 9 ∷ 9 ∷ 9 ∷ [])).answer ∷ []) (720896 ∷ 720896 ∷ [])
    ∷ figure (held_for_c (0 ∷ []) 0 (9 ∷ 9 ∷ 9 ∷ 9 ∷ [])).last (9 ∷ 9 ∷ 9 ∷ 9 ∷ [])
    ∷ one (held_for_c (run_bytes (0 ∷ dotted 1 2 3 4 ∷ []) (5 ∷ 1542 ∷ [])) (dotted 1 2 3 3) (9 ∷ 9 ∷ 9 ∷ 9 ∷ [])).answer 5
    ∷ one (held_for_c (run_bytes (0 ∷ dotted 1 2 3 4 ∷ []) (5 ∷ 1542 ∷ [])) (dotted 1 2 3 4) (9 ∷ 9 ∷ 9 ∷ 9 ∷ [])).answer 1542
    -- Rule 7.9: the last address in the first of the lent bytes, those of the last run's end, and 13 for three, which stay.
    ∷ figure (held_for_c (run_bytes (0 ∷ dotted 1 2 3 4 ∷ []) (5 ∷ 1542 ∷ [])) (dotted 1 2 3 3) (9 ∷ 9 ∷ 9 ∷ 9 ∷ 9 ∷ [])).last
    (1 ∷ 2 ∷ 3 ∷ 3 ∷ 9 ∷ [])
    ∷ figure (held_for_c (run_bytes (0 ∷ dotted 1 2 3 4 ∷ []) (5 ∷ 1542 ∷ [])) (dotted 1 2 3 4) (9 ∷ 9 ∷ 9 ∷ 9 ∷ [])).last
    (255 ∷ 255 ∷ 255 ∷ 255 ∷ [])
    ∷ one (held_for_c (run_bytes (0 ∷ []) (5 ∷ [])) 0 (9 ∷ 9 ∷ 9 ∷ [])).answer 851968
    ∷ figure (held_for_c (run_bytes (0 ∷ []) (5 ∷ [])) 0 (9 ∷ 9 ∷ 9 ∷ [])).last (9 ∷ 9 ∷ 9 ∷ [])
    -- Rule 7.10: over slices the last address is in a lent number, which a refusal leaves.
    ∷ one (probed_for_c (run_lookup (runs_lent 2 (0 ∷ 5 ∷ []) (1 ∷ 2 ∷ [])) 4) 9).last 4
    ∷ one (probed_for_c (run_lookup (runs_lent 0 [] []) 4) 9).last 9
    -- Rules 9.11 to 9.13: A's segment at 200.27.112.170 and at its ends; too wide, no words, no bases, no hops, a first bit of 0, hop 0.
    ∷ one (packed_lookup (segment_lent 4 (35265 ∷ []) (0 ∷ []) (3 ∷ 1 ∷ 2 ∷ 1 ∷ 3 ∷ 2 ∷ [])) (dotted 200 27 112 170)).hop 2
    ∷ one (packed_lookup (segment_lent 4 (35265 ∷ []) (0 ∷ []) (3 ∷ 1 ∷ 2 ∷ 1 ∷ 3 ∷ 2 ∷ [])) (dotted 200 27 0 0)).hop 3
    ∷ one (packed_lookup (segment_lent 4 (35265 ∷ []) (0 ∷ []) (3 ∷ 1 ∷ 2 ∷ 1 ∷ 3 ∷ 2 ∷ [])) (dotted 200 27 255 255)).hop 2
    ∷ figure (packed_number 17 (1 ∷ []) (1 ∷ []) (1 ∷ []) ∷ packed_number 0 [] (0 ∷ []) (1 ∷ []) ∷ []) (19 ∷ 19 ∷ [])
    ∷ figure (packed_number 0 (32768 ∷ []) [] (1 ∷ []) ∷ packed_number 0 (32768 ∷ []) (0 ∷ []) [] ∷ []) (19 ∷ 19 ∷ [])
    ∷ figure (packed_number 0 (0 ∷ []) (0 ∷ []) (1 ∷ []) ∷ packed_number 0 (32768 ∷ []) (0 ∷ []) (0 ∷ []) ∷ []) (19 ∷ 0 ∷ [])
    -- Rule 7.10: a packed lookup for C, with the greatest hop, and outside.
    ∷ one (lookup_for_c (packed_lookup (segment_lent 0 (32768 ∷ []) (0 ∷ []) (65535 ∷ [])) 1)) 65535
    ∷ one (lookup_for_c (packed_lookup (segment_lent 17 [] [] []) 0)) 1245184
    -- Rules 11.5 and 11.6: a list of one row has 0.0.0.0/0 with label 0 as its second half, and the count is n - k + 1.
    ∷ figure (hops_of (second_half 1 (route 0 0 0 0 0 4 ∷ []))) (0 ∷ [])
    ∷ one (length (second_half 4 (announced (prefix 0 0 0 0 0) 4 list_a))) 5
    -- Rule 12.2: rows as text, of 0, of 255 and of every digit's place.
    ∷ figure (text_of ends) (bytes "0.0.0.0/0 9\n128.0.0.0/1 8\n255.255.255.255/32 7\n")
    ∷ figure (text_of (route 10 0 100 64 30 65535 ∷ [])) (bytes "10.0.100.64/30 65535\n")
    -- Rule 10.1: announcing a listed prefix keeps the count, and withdrawing takes one row out.
    ∷ figure (hops_of (announced (prefix 128 0 0 0 1) 6 ends)) (9 ∷ 6 ∷ 7 ∷ [])
    ∷ figure (hops_of (withdrawn (prefix 128 0 0 0 1) ends)) (9 ∷ 7 ∷ [])
    -- Rules 4.5 and 4.7: the counts of the five rows, with a report long enough and one too short.
    -- Rule 4.9: a lent tally is set, and stays on 12.
    ∷ figure (counts (import five_rows (lent (0 ∷ []) (0 ∷ []) (9 ∷ 9 ∷ 9 ∷ 9 ∷ 9 ∷ []))).counts) (5 ∷ 1 ∷ 1 ∷ 1 ∷ 1 ∷ 1 ∷ 0 ∷ 0 ∷ [])
    ∷ figure (counts (import five_rows (lent (0 ∷ []) (0 ∷ []) (9 ∷ []))).counts) (0 ∷ 0 ∷ 0 ∷ 0 ∷ 0 ∷ 0 ∷ 0 ∷ 0 ∷ [])
    ∷ figure (counts (import_tally five_rows (lent [] [] (9 ∷ 9 ∷ 9 ∷ 9 ∷ 9 ∷ [])) (counts_of (1 ∷ 1 ∷ [])))) (5 ∷ 0 ∷ 1 ∷ 1 ∷ 1 ∷ 0 ∷ 2 ∷ 0 ∷ [])
    ∷ one (import_tally five_rows (lent [] [] (9 ∷ [])) (counts_of (7 ∷ []))).rows 1
    ∷ figure (counts (import_tally [] (lent [] [] []) (counts_of (0 ∷ 1 ∷ [])))) (0 ∷ 0 ∷ 0 ∷ 0 ∷ 0 ∷ 0 ∷ 0 ∷ 0 ∷ [])
    ∷ figure (counts (import_tally (bytes "0.0.0.0/0 7") (lent [] [] (9 ∷ [])) (counts_of (0 ∷ 1 ∷ [])))) (1 ∷ 0 ∷ 0 ∷ 0 ∷ 0 ∷ 0 ∷ 1 ∷ 0 ∷ [])
    ∷ figure (counts (import (bytes "00.0.0.0/0 7\n0.0.0.0/0 7") (lent (0 ∷ []) (0 ∷ []) (9 ∷ 9 ∷ []))).counts)
    (2 ∷ 1 ∷ 0 ∷ 0 ∷ 0 ∷ 0 ∷ 0 ∷ 1 ∷ [])
    -- Rules 13.3 and 13.4: the lines that the program writes for them.
    ∷ figure (count_lines (counts_of (row_numbers 1024 five_rows)))
    (bytes "rows 5\ntaken 1\nshape 1\nzeros 0\nrange 1\nhostbits 1\nreplaced 1\nnoroom 0\n")
    ∷ figure (run_lines (0 ∷ dotted 10 0 0 0 ∷ dotted 11 0 0 0 ∷ []) (0 ∷ 9 ∷ 0 ∷ []))
    (bytes "0.0.0.0 0\n10.0.0.0 9\n11.0.0.0 0\n")
    -- Rule 10.8: a smaller count leaves zeros up to the old one, and a larger one keeps what is beyond it.
    ∷ figure (rewritten (1 ∷ []) 3 (7 ∷ 7 ∷ 7 ∷ 7 ∷ [])) (1 ∷ 0 ∷ 0 ∷ 7 ∷ [])
    ∷ figure (rewritten (1 ∷ 2 ∷ []) 1 (7 ∷ 7 ∷ 7 ∷ 7 ∷ [])) (1 ∷ 2 ∷ 7 ∷ 7 ∷ [])
    ∷ figure (inserted_at 2 1 5 (1 ∷ 2 ∷ 9 ∷ 9 ∷ []) ++ inserted_at 2 1 5 (1 ∷ 2 ∷ [])) (1 ∷ 5 ∷ 2 ∷ 9 ∷ 1 ∷ 2 ∷ [])
    ∷ figure (removed_at 3 0 (1 ∷ 2 ∷ 3 ∷ 9 ∷ []) ++ removed_at 1 1 (1 ∷ [])) (2 ∷ 3 ∷ 0 ∷ 9 ∷ 1 ∷ [])
    -- Rules 11.1 to 11.3 and 11.7: a split's 11, 17, 18 and 13, each alone but for 11 with 17; k = n is accepted.
    ∷ figure (split_of 0 1 (0 ∷ []) (0 ∷ []) ∷ split_of 0 1 (0 ∷ []) (4 ∷ []) ∷ split_of 2 1 (0 ∷ []) (4 ∷ []) ∷ []) (11 ∷ 17 ∷ 17 ∷ [])
    ∷ figure (split_of 1 1 (prefix 10 0 0 0 8 ∷ []) (4 ∷ []) ∷ (split 1 (list_lent 1 (0 ∷ []) (4 ∷ [])) (split_lent [] (0 ∷ []))).number ∷ [])
    (18 ∷ 13 ∷ [])
    ∷ one (split_of 1 1 (0 ∷ []) (4 ∷ [])) 0
    -- Rules 11.1 to 11.3 and 11.7, two at a time: 11 before 13, 17 before 18, 18 before 13. The empty list has no size, so it is 17.
    ∷ figure ((split 1 ill_half (split_lent [] [])).number ∷ split_of 0 1 (prefix 10 0 0 0 8 ∷ []) (4 ∷ []) ∷ []) (11 ∷ 17 ∷ [])
    ∷ one (split 1 (list_lent 1 (prefix 10 0 0 0 8 ∷ []) (4 ∷ [])) (split_lent [] [])).number 18
    ∷ figure (split_of 0 0 [] [] ∷ split_of 1 0 [] [] ∷ []) (17 ∷ 17 ∷ [])
    -- Rule 11.7: a slot behind the second half stays. Rule 5.4: with room in one slice alone, that one stays too.
    ∷ figure ((part_of (9 ∷ 9 ∷ []) (7 ∷ 7 ∷ [])).keys ++ (part_of (9 ∷ 9 ∷ []) (7 ∷ 7 ∷ [])).labels) (0 ∷ 9 ∷ 0 ∷ 7 ∷ [])
    ∷ figure ((part_of (9 ∷ []) []).number ∷ (part_of (9 ∷ []) []).count ∷ (part_of (9 ∷ []) []).keys) (13 ∷ 0 ∷ 9 ∷ [])
    -- Rule 11.5: labels under 0.0.0.0/0 and under 128.0.0.0/1, up to the last address; a label of 0, whose row stays.
    ∷ figure (hops_of (second_half 1 ends) ++ hops_of (second_half 2 ends)) (0 ∷ 1 ∷ 14 ∷ 0 ∷ 15 ∷ [])
    ∷ figure (hops_of (second_half 1 (route 0 0 0 0 0 1 ∷ nested))) (0 ∷ 0 ∷ 3 ∷ [])
    -- Rule 2.5: a prefix holds a longer one inside it and itself, and no shorter one.
    ∷ passes (covers (prefix 10 0 0 0 8) (prefix 10 64 0 0 10))
    ∷ passes (covers (prefix 10 0 0 0 8) (prefix 10 0 0 0 8))
    ∷ fails (covers (prefix 10 0 0 0 10) (prefix 10 0 0 0 8))
    -- Rule 12.3: a buffer as long as the text, one byte longer, and one byte short.
    ∷ figure ((wrote5 (bytes "____________")).buffer ++ (wrote5 (bytes "_____________")).buffer) (bytes "0.0.0.0/0 5\n0.0.0.0/0 5\n_")
    ∷ one (wrote5 (bytes "___________")).number 13
    -- Rules 12.1 and 12.3: the empty list fits an empty buffer; an ill-formed list is 11 without any room too.
    ∷ figure ((write (list_lent 0 [] []) []).number ∷ (write (list_lent 0 [] []) []).length ∷ (write ill_half []).number ∷ []) (0 ∷ 0 ∷ 11 ∷ [])
    -- Rule 9.2: a /8 and a /10 around a segment give width 0, a /17 in it 1, a /32 in it 16.
    ∷ figure (width 2560 nested ∷ width 2624 (announced (prefix 10 64 128 0 17) 3 nested) ∷ []) (0 ∷ 1 ∷ [])
    ∷ one (width 65535 (announced (prefix 255 255 255 255 32) 3 nested)) 16
    ∷ figure (words_of 2624 (announced (prefix 10 64 128 0 17) 3 nested)) (49152 ∷ [])
    ∷ figure (packed_hops_of 2624 (announced (prefix 10 64 128 0 17) 3 nested)) (2 ∷ 3 ∷ [])
    -- Rule 11.8: a row with label 0 hides the shorter prefix around it.
    ∷ one (half_lookup (list_lent 2 (prefix 10 0 0 0 8 ∷ prefix 10 64 0 0 10 ∷ []) (1 ∷ 0 ∷ [])) (dotted 10 64 0 1)).hop 0
    -- Rule 2.14: the place of a key in an empty list, before all, at the last, after all.
    ∷ figure (lower 5 [] ∷ lower 5 (6 ∷ 8 ∷ []) ∷ lower 8 (6 ∷ 8 ∷ []) ∷ lower 9 (6 ∷ 8 ∷ []) ∷ []) (0 ∷ 0 ∷ 1 ∷ 2 ∷ [])
    ∷ figure (as_number (is_in 5 []) ∷ as_number (is_in 8 (6 ∷ 8 ∷ [])) ∷ as_number (is_in 7 (6 ∷ 8 ∷ [])) ∷ []) (0 ∷ 1 ∷ 0 ∷ [])
    -- Rule 3.1: the first row's length in no bytes, with an LF first, with an LF later, with none.
    ∷ figure (row_length [] ∷ row_length (bytes "\nab") ∷ row_length (bytes "ab\nc") ∷ row_length (bytes "ab") ∷ []) (0 ∷ 0 ∷ 2 ∷ 2 ∷ [])
    -- Rule 2.4: the end of a prefix that reaches the last address is 2^32. Rule 2.3: a prefix of length 0 holds all addresses.
    ∷ figure (end_of (prefix 255 255 255 255 32) ∷ end_of (prefix 128 0 0 0 1) ∷ end_of (prefix 0 0 0 0 0) ∷ [])
    (4294967296 ∷ 4294967296 ∷ 4294967296 ∷ [])
    ∷ figure (end_of (prefix 0 0 0 0 32) ∷ size 0 ∷ []) (1 ∷ 4294967296 ∷ [])
    -- Rule 6.4: a run begins at the first address, whatever was before it, and later only where the answer differs.
    ∷ passes (turns_from 0 (λ a. 0) 0)
    ∷ passes (turns_from 10 (λ a. 0) 10)
    ∷ fails (turns_from 10 (λ a. 0) 11)
    ∷ passes (turns_from 10 (λ a. a) 11)
    ∷ passes (turns_from 4294967295 (λ a. 0) 4294967295)
    -- Rules 5.2 and 5.4: a build of an ill-formed list is 11 without any room too, and its slices stay.
    ∷ one (build (list_lent 1 (2 ^ 38 ∷ []) (1 ∷ [])) (slots_lent [] [])).number 11
    ∷ figure (build (list_lent 1 (2 ^ 38 ∷ []) (1 ∷ [])) (slots_lent (7 ∷ []) (8 ∷ []))).starts (7 ∷ [])
    -- Rule 11.10: label 0 is 11 for a build; that a build over a half takes it is `label_0_built`. An ill-formed half is 11 without any room
    -- too, and the slices stay.
    ∷ one (build label0 (slots_lent (7 ∷ 7 ∷ 7 ∷ []) (8 ∷ 8 ∷ 8 ∷ []))).number 11
    ∷ one (build_half ill_half (slots_lent [] [])).number 11
    ∷ figure ((build_half ill_half (slots_lent (7 ∷ []) (8 ∷ []))).starts ++ (build_half ill_half (slots_lent (7 ∷ []) (8 ∷ []))).hops) (7 ∷ 8 ∷ [])
    -- Rules 10.2 and 10.3: an edit's 15 comes before the pair's 11. Rule 8.1: a count of runs beyond one slice is 11.
    -- Rule 5.4: a refusal returns 0 for the counts, and the slices stay.
    ∷ figure ((announce 0 33 1 ill_pair).number ∷ (announce 1 8 1 ill_pair).number ∷ (announce 0 8 0 ill_pair).number ∷ []) (15 ∷ 15 ∷ 15 ∷ [])
    ∷ one (withdraw 0 33 ill_pair).number 15
    -- Rule 10.2: lengths of 64 and more are no shorter ones, and 255.255.255.255 is a network of length 32 alone.
    ∷ figure ((announce 0 64 1 ill_pair).number ∷ (announce 0 72 1 ill_pair).number ∷ (withdraw 0 64 ill_pair).number ∷ []) (15 ∷ 15 ∷ 15 ∷ [])
    ∷ figure ((announce 4294967295 31 1 ill_pair).number ∷ (announce 4294967295 32 1 ill_pair).number ∷ []) (15 ∷ 11 ∷ [])
    ∷ figure ((withdraw 1 0 ill_pair).number ∷ (withdraw 0 0 ill_pair).number ∷ []) (15 ∷ 11 ∷ [])
    ∷ figure ((announce 0 8 1 ill_pair).number ∷ (withdraw 0 8 ill_pair).number ∷ []) (11 ∷ 11 ∷ [])
    ∷ figure ((announce 0 8 1 ill_pair).count ∷ (announce 0 8 1 ill_pair).changed ∷ []) (0 ∷ 0 ∷ [])
    ∷ figure (announce 0 8 1 ill_pair).starts (5 ∷ [])
    -- Rules 18.1 and 18.2: places count from 0, shortest first, and the reason is the last; at both ends of the address space too.
    ∷ figure (places_of (dotted 200 27 112 170) list_a) (0 ∷ 1 ∷ 2 ∷ 3 ∷ 4 ∷ [])
    ∷ figure (as_list (reason_for (dotted 200 27 112 170) list_a)) (4 ∷ [])
    ∷ figure (places_of (dotted 200 28 0 0) list_a ++ as_list (reason_for (dotted 200 28 0 0) list_a)) []
    ∷ figure (places_of 4294967295 ends ++ as_list (reason_for 4294967295 ends)) (0 ∷ 1 ∷ 2 ∷ 2 ∷ [])
    ∷ figure (places_of 0 ends ++ as_list (reason_for 0 ends)) (0 ∷ 0 ∷ [])
    -- Rules 18.3 and 18.4: two places in one slot are 13, and it stays; two slots are enough, and a slot behind them stays.
    ∷ figure ((why_nested (7 ∷ [])).number ∷ (why_nested (7 ∷ [])).listed ∷ (why_nested (7 ∷ [])).places) (13 ∷ 0 ∷ 7 ∷ [])
    ∷ figure ((why_nested (7 ∷ 8 ∷ [])).number ∷ (why_nested (7 ∷ 8 ∷ [])).listed ∷ (why_nested (7 ∷ 8 ∷ [])).places) (0 ∷ 2 ∷ 0 ∷ 1 ∷ [])
    ∷ figure ((why_nested (7 ∷ 8 ∷ 9 ∷ [])).number ∷ (why_nested (7 ∷ 8 ∷ 9 ∷ [])).listed ∷ (why_nested (7 ∷ 8 ∷ 9 ∷ [])).places) (0 ∷ 2 ∷ 0 ∷ 1 ∷ 9 ∷ [])
    -- Rules 5.2, 18.4 and 18.5: a row with hop 0 that holds the address, and no room for it: 11 comes before 13.
    ∷ one (length (places_of (dotted 10 0 0 0) (route 10 0 0 0 8 0 ∷ []))) 1
    ∷ figure ((why label0 (dotted 10 0 0 0) []).number ∷ (why_text label0 (dotted 10 0 0 0) []).number ∷ []) (11 ∷ 11 ∷ [])
    -- Rules 18.2 to 18.5: the empty list needs no room, and lent memory stays.
    ∷ figure ((why (list_lent 0 [] []) 0 []).number ∷ (why_text (list_lent 0 [] []) 0 []).number ∷ (why_text (list_lent 0 [] []) 0 []).length ∷ []) (0 ∷ 0 ∷ 0 ∷ [])
    ∷ figure ((why (list_lent 0 [] []) 0 (7 ∷ [])).listed ∷ as_list (why (list_lent 0 [] []) 0 (7 ∷ [])).reason ++ (why (list_lent 0 [] []) 0 (7 ∷ [])).places) (0 ∷ 7 ∷ [])
    -- Rule 18.5: the text of the rows that hold an address, and of none.
    ∷ figure (why_text_of (dotted 10 64 0 1) nested) (bytes "10.0.0.0/8 1\n10.64.0.0/10 2\n")
    ∷ figure (why_text_of (dotted 11 0 0 0) nested) []
    -- Rule 18.5: 27 bytes for a text of 28 are 13, and they stay; 28 are enough, and a byte behind them stays.
    ∷ figure ((why_text_nested (replicate 27 9)).number ∷ (why_text_nested (replicate 27 9)).length ∷ []) (13 ∷ 0 ∷ [])
    ∷ figure (why_text_nested (replicate 27 9)).buffer (replicate 27 9)
    ∷ figure ((why_text_nested (replicate 28 9)).number ∷ (why_text_nested (replicate 28 9)).length ∷ []) (0 ∷ 28 ∷ [])
    ∷ figure (why_text_nested (replicate 29 9)).buffer (bytes "10.0.0.0/8 1\n10.64.0.0/10 2\n" ++ 9 ∷ [])
    -- Rule 18.6: C gets the number, how many places there are and the place that decides, 0 where no row does and on a refusal.
    ∷ figure (reason_in_c (why_nested (7 ∷ 8 ∷ []))) (0 ∷ 2 ∷ 1 ∷ 0 ∷ 1 ∷ [])
    ∷ figure (reason_in_c (why (list_lent 0 [] []) 0 (7 ∷ []))) (0 ∷ 0 ∷ 0 ∷ 7 ∷ [])
    ∷ figure (reason_in_c (why_nested (7 ∷ []))) (13 ∷ 0 ∷ 0 ∷ 7 ∷ [])
    ∷ figure (reason_in_c (why label0 (dotted 10 0 0 0) [])) (11 ∷ 0 ∷ 0 ∷ [])
    ∷ one (written_for_c (why_text_nested (replicate 28 9))) 28
    ∷ one (written_for_c (why_text_nested (replicate 27 9))) (13 * 4294967296)
    ∷ []
