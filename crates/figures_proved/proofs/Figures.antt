-- Every figure that rules 14.3 to 14.10 mark *, and every corner beside them, is what the definitions compute.
-- Assumes nothing.
use mathlib.Core.Path.{◌≡◌, refl}
use mathlib.Core.Bool.{true}
use mathlib.Core.List.{[], ◌∷◌}
use mathlib.Core.Option.{or_else}
use native.Mathlib.Omega.{arith}
use lib.Dec.{T}
use lib.Count.{ones, ones_in}
use Rattle.ground.specs.Numbers.{first_fault, outcome}
use Rattle.ground.specs.Slots.{same, written, rewritten}
use Rattle.ground.specs.Column.{ascends, is_in, inserted_at, removed_at, taken_out, lower}
use Rattle.ground.specs.Stretch.{stretch, among, turns_from}
use Rattle.halving.specs.Halving.{halves, halving}
use Rattle.cidr.specs.Prefix.{size, host_bits, is_prefix, holds, covers}
use Rattle.routes.specs.Row.{every, those, rows_of, list_room}
use Rattle.routes.specs.WellFormed.{prefixes, hops_given, ascending, half_rows, good_rows, well_formed, half_formed, formed}
use Rattle.routes.specs.Plain.{matching, longer, longest, plain}
use Rattle.routes.specs.Change.{announced, withdrawn}
use Rattle.routes.specs.Lookup.{lookup_checks, plain_lookup, half_checks, half_lookup}
use Rattle.rows.specs.Rows.{rows_in, row_length}
use Rattle.rows.specs.Reading.{digits, after_digits, fields_of, has_zero_in_front, value_from, in_places, values_of, out_of_range, has_host_bits, numbers_fault, judged_numbers, judged, read_row}
use Rattle.rows.specs.Pull.{pull_of, pull, pulls_from, pulls}
use Rattle.feed.specs.Counts.{how_many, counts_of}
use Rattle.feed.specs.Import.{row_number, list_after, row_numbers_from, row_numbers, list_from, imported_list, import_checks, import, import_tally}
use Rattle.feed.specs.LastRow.{hop_for, last_hop, hop_listed}
use Rattle.runs.specs.Build.{slots_lent, run_room, build_checks, build_of, build_half}
use Rattle.runs.specs.Pair.{pair_ill, pair_checks}
use Rattle.runs.proofs.TableOutcomes.{build_fits}
use Rattle.why.specs.Why.{places_of, place_of, reason_for, why_checks, why}
use Rattle.why.specs.Text.{why_text_of, why_text_checks, why_text}
use Rattle.edit.specs.Edit.{bad_prefix, announce_checks, announce, withdraw_checks, withdraw}
use Rattle.lookup.specs.Bytes.{run_bytes, start_at, hop_at}
use Rattle.lookup.specs.Lookup.{last_of, in_slices, run_checks, run_lookup, in_bytes, bytes_checks, bytes_lookup}
use Rattle.c_answers.specs.Exports.{lookup_for_c, run_lookup_for_c, probed_for_c, written_for_c}
use Rattle.host.specs.Exports.{held_checks, held_for_c}
use Rattle.segment.specs.Packed.{width, block_hop, bit, word_from, words_for, code_words, words_of, bases_from, bases_of, kept_hops, packed_hops_of}
use Rattle.packed.specs.Lookup.{block_of, ones_to, past_place, packed_checks, packed_lookup}
use Rattle.split.specs.Split.{covering, relabelled, first_half, second_half, split_checks, split}
use Rattle.digits.specs.Digits.{decimal_by, decimal, dotted_text, row_text}
use Rattle.text.specs.Text.{text_of, write_checks, write}
use Rattle.program.specs.Program.{line_of, name_lines, count_lines, run_lines}
use Rattle.figures_proved.specs.Figure.{all_hold}
use Rattle.figures_proved.specs.Marked.{marked}
use Rattle.figures_proved.specs.Corners.{corners, label0}

pub marked_hold : T (all_hold marked)
unfolding all_hold same first_fault stretch among turns_from size host_bits holds covers those matching longer longest plain announced withdrawn rows_in digits after_digits fields_of has_zero_in_front value_from in_places values_of out_of_range has_host_bits numbers_fault judged_numbers judged read_row row_number list_after row_numbers_from row_numbers width block_hop bit word_from words_for code_words kept_hops words_of bases_from bases_of packed_hops_of covering relabelled first_half second_half ones ones_in is_in
marked_hold = tt

pub corners_hold : T (all_hold corners)
unfolding places_of place_of reason_for why_checks why why_text_of why_text_checks why_text lower row_length run_room build_checks pair_ill pair_checks bad_prefix announce_checks announce withdraw_checks withdraw all_hold same written rewritten inserted_at taken_out first_fault outcome stretch among turns_from halves halving size host_bits is_prefix holds covers every those rows_of list_room prefixes hops_given ascends ascending half_rows good_rows well_formed half_formed formed matching longer longest plain announced withdrawn lookup_checks half_checks rows_in digits after_digits fields_of has_zero_in_front value_from in_places values_of out_of_range has_host_bits numbers_fault judged_numbers judged read_row row_number list_after row_numbers_from row_numbers list_from imported_list or_else hop_for last_hop hop_listed how_many counts_of import_checks import import_tally pull_of pull pulls_from pulls run_bytes start_at hop_at in_slices run_checks in_bytes width block_hop bit word_from words_for code_words kept_hops words_of bases_from bases_of packed_hops_of block_of ones_to past_place packed_checks covering relabelled first_half second_half split_checks decimal_by decimal dotted_text row_text text_of write_checks line_of name_lines count_lines run_lines ones ones_in is_in build_of plain_lookup half_lookup run_lookup bytes_checks bytes_lookup packed_lookup split write lookup_for_c run_lookup_for_c last_of probed_for_c written_for_c held_checks held_for_c
corners_hold = tt

-- Rule 11.10: a half with label 0 is built. Its run table is over all addresses and so isn't computed; three run slots are enough for it.
pub label_0_built : (build_half label0 (slots_lent (7 ∷ 7 ∷ 7 ∷ []) (8 ∷ 8 ∷ 8 ∷ []))).number ≡ 0
unfolding run_room size host_bits is_prefix every rows_of list_room prefixes ascends ascending half_rows half_formed formed
label_0_built = build_fits true label0 _ refl (omega arith)
