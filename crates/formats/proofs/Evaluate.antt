-- For cases that are computed: to open `evaluated` is to open every definition that a code's reading goes through.
-- Assumes nothing.
use Prim.Native.Nat.{ℕ}
use mathlib.Core.List.{List, flatten}
use Rattle.values.specs.declared.Ask.{Ask}
use Rattle.formats.specs.Reading.{Reading, section_exponent, exponent_context, section_text, fixed_in, fraction_for, is_parted, section_fraction, whole_context, spare_places, spaceless, denominator_units, below_units, blanked, fraction_units, places_nought}
use Rattle.lists.specs.Lists.{every, any, count, first_failing, is_empty, overlay, is_some}
use Rattle.figures.specs.Digits.{digit, figures, digit_units, width_up_to, width, numeral}
use Rattle.figures.specs.Rounding.{scaled, nearest, rounded, rounds_exactly}
use Rattle.figures.specs.General.{general_decimals, general_rounded, general_exactly, general_too_wide, without_end_zeros, pointed, general_units}
use Rattle.calendar.specs.Year.{gregorian_leap, leap, year_days, first_day, year_day_from, year_day_of}
use Rattle.calendar.specs.Date.{month_days, month_day_from, date_of}
use Rattle.calendar.specs.Clock.{clock_of, twelve_hour, afternoon, since_day_zero, elapsed_hours, elapsed_minutes, elapsed_seconds}
use Rattle.calendar.specs.Names.{units, month_names, weekday_names, month_name, weekday_name, short_name, first_letter}
use Rattle.formats.specs.Tokens.{before, leading, starts_with, same, quoted, marked, general_word, half_day_word, run_allowed, run_step, is_digit, digit_of, number_from, colour_names, named_from, no_leading_zero, colour_digits, numbered, elapsed_inside, decimals_of, whole_of, signed_of, condition_inside, first_form, inside_of, closed, bracketed, first_rows, first_in, bare_literals, step_by, step_at, onto, after_step, lex_from, lex, exponent_word, is_place_unit, fixed_number, over_step, place_step}
use Rattle.formats.specs.Items.{kind_from, item_makes, items_kind, kind_of, item_in_range, item_allowed, no_plain, items_fit, integer_places, decimal_places, run_of_elapsed, run_of, nearer, first_run, means_minutes, month_or_minute, settled_item, settled_from, settled, before_cut, from_cut, places_behind, exponent_fits, end_places, before_end, start_places, behind_start, numerator_items, whole_items, main_items, literal_follows, denominator_fits, fraction_fits}
use Rattle.formats.specs.Kinds.{colour_in, condition_in, after_colour, parts_of, token_makes, body_kind, integer_place_in, use_of, uses_from, comma_uses, commas_fit, is_seconds_token, is_zero, leading_zeros, part_zeros, pieces_from, run_item, token_items, piece_items, plain_items, date_items, body_items, last_fill, millionths_of, condition_of, section_of, no_bracket, fits}
use Rattle.formats.specs.Where.{stands_at}
use Rattle.formats.specs.Limits.{elapsed_short, fixed_small, section_within, written_within, within_limits}
use Rattle.formats.specs.Accept.{placed_of, tokens_of, semicolons, joined, split, parts_in, sections_in, or_else, length_verdict, token_verdict, count_verdict, section_verdict, kind_verdict, where_verdict, limit_verdict, verdict, accepted_by, accept, span_from, span_by, section_span, section_part}
use Rattle.formats.specs.WellFormed.{condition_in_range, one_fill, is_seconds, parts_from, parts_follow, settled_test, is_settled, grouping_fits, dividing_fits, section_fits, section_formed, items_in_all, all_stand, well_formed}
use Rattle.formats.specs.Choice.{number_exact, instant_exact, condition_exact, smaller, less_than, compared, counted_from, counted, fallback, reason_for, condition_holds, reason_holds, choose_from, choose_first, choose, fourth_from, text_from, choose_text}
use Rattle.formats.specs.Minus.{first_has_condition, exception_a, sign_for, sign_units}
use Rattle.formats.specs.Text.{insignificant, idle_units, ends_group, with_separator, figure_units, extra_units, place_units, point_units, year_units, named_units, hour_shown, part_units, elapsed_count, half_units, item_units, digit_after, items_units, section_units, along, exponent_units}
use Rattle.formats.specs.Reading.{within, takes_number, takes_instant, shows_general, section_rounded, standing_rounded, number_context, instant_context, text_context, shows_nought, number_sign, number_units, number_exactly, item_span, finest_span, instant_exactly, read_number, read_instant, read_text, read_value, reading, read_accepted, code_reading}
use Rattle.fractions.specs.Fractions as fractions
use Rattle.fractions.specs.Fractions.{apart, nearest_up_to, nearest_fraction, behind_point, carried, unparted, fraction_of, mixed_exactly}
use Rattle.exponents.specs.Exponent.{under, over, divided_by, mantissa_at, leaves, multiple, exponent_from, exponent_of, mantissa_of, mantissa_exactly}

unfoldable pub evaluated : List ℕ → Ask → List ℕ → ℕ → Reading
unfolding every any count first_failing is_empty overlay is_some digit figures digit_units width_up_to width numeral scaled nearest rounded general_decimals general_rounded general_too_wide without_end_zeros pointed general_units gregorian_leap leap year_days first_day year_day_from year_day_of month_days month_day_from date_of clock_of twelve_hour afternoon since_day_zero elapsed_hours elapsed_minutes elapsed_seconds units month_names weekday_names month_name weekday_name short_name first_letter before leading starts_with same quoted marked general_word half_day_word exponent_word run_allowed run_step is_digit digit_of number_from colour_names named_from no_leading_zero colour_digits numbered elapsed_inside decimals_of whole_of signed_of condition_inside first_form inside_of closed bracketed first_rows first_in bare_literals step_by step_at onto after_step lex_from lex kind_from item_makes items_kind kind_of item_allowed no_plain items_fit before_cut from_cut integer_places decimal_places places_behind exponent_fits run_of_elapsed run_of nearer first_run means_minutes month_or_minute settled_item settled_from settled colour_in condition_in after_colour parts_of token_makes body_kind integer_place_in use_of uses_from comma_uses commas_fit is_seconds_token is_zero leading_zeros part_zeros pieces_from run_item token_items piece_items plain_items date_items body_items last_fill millionths_of condition_of section_of no_bracket fits stands_at elapsed_short section_within written_within within_limits placed_of tokens_of semicolons joined split parts_in sections_in or_else length_verdict token_verdict count_verdict section_verdict kind_verdict where_verdict limit_verdict verdict accepted_by accept span_from span_by section_span section_part item_in_range condition_in_range one_fill is_seconds parts_from parts_follow settled_test is_settled grouping_fits dividing_fits section_fits section_formed items_in_all all_stand well_formed number_exact instant_exact condition_exact smaller less_than compared counted_from counted fallback reason_for condition_holds reason_holds choose_from choose_first choose fourth_from text_from choose_text first_has_condition exception_a sign_for sign_units insignificant idle_units ends_group with_separator figure_units extra_units place_units point_units year_units named_units hour_shown part_units elapsed_count half_units exponent_units item_units digit_after items_units section_units within takes_number takes_instant shows_general under over divided_by mantissa_at leaves multiple exponent_from exponent_of mantissa_of section_exponent section_rounded standing_rounded number_context exponent_context section_text instant_context text_context shows_nought number_sign number_units read_number read_instant read_text read_value reading read_accepted code_reading along flatten is_place_unit fixed_number over_step place_step end_places before_end start_places behind_start numerator_items whole_items main_items literal_follows denominator_fits fraction_fits fixed_small fixed_in fraction_for is_parted section_fraction whole_context spare_places spaceless denominator_units below_units blanked fraction_units places_nought apart nearest_up_to nearest_fraction behind_point carried unparted fraction_of fractions.over fractions.nearer rounds_exactly general_exactly mantissa_exactly mixed_exactly number_exactly item_span finest_span instant_exactly
evaluated code ask text room = code_reading code ask text room
