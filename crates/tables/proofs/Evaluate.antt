-- For cases that are computed: to open `evaluated_table` is to open every definition that a reading through a code's table goes through.
-- Assumes nothing.
use Prim.Native.Nat.{ℕ}
use mathlib.Core.List.{List}
use Rattle.values.specs.declared.Ask.{Ask}
use Rattle.formats.specs.Reading.{Reading}
use Rattle.formats.proofs.Evaluate.{evaluated}
use Rattle.tables.specs.Words.{head_words, heads_words, entries_words, bodies_words, table_words, head_at, heads_at, entries_at, rows_at, heads_in, rows_in, items_said, exact_words}
use Rattle.tables.specs.Encode.{kind_word, comparison_word, operator_word, bit, negative_word, whole_part, millionths_part, low_word, high_word, shift_word, flags_word, no_minus, has_half, decimals_word, head_of, entry_of, run_entries, entries_of, row_of, rows_from, rows_of, encode}
use Rattle.tables.specs.Decode.{comparison_at, two_words, whole_at, millionths_at, condition_at, half_at, item_at, items_at, grouped_at, thousands_at, section_at, decode}
use Rattle.tables.specs.Rules.{head_in_range, entry_in_range, row_in_range, condition_fits, powers_from, run_powers, powers_run_down, shift_tells, shift_fits, kind_fits, decimals_fit, flags_fit, flags_from, row_fits, passes, all_of}
use Rattle.tables.specs.Calls.{words_of, table_of, prepared_as, prepared, written, table_after, table_reading, shown_as, text_as, showing, room_after}
use Rattle.formats.specs.Text.{along}

unfoldable pub evaluated_table : List ℕ → Ask → List ℕ → ℕ → Reading
unfolding evaluated head_words heads_words entries_words bodies_words table_words head_at heads_at entries_at rows_at heads_in rows_in items_said exact_words kind_word comparison_word operator_word bit negative_word whole_part millionths_part low_word high_word shift_word flags_word no_minus has_half decimals_word head_of entry_of run_entries entries_of row_of rows_from rows_of encode comparison_at two_words whole_at millionths_at condition_at half_at item_at items_at grouped_at thousands_at section_at decode head_in_range entry_in_range row_in_range condition_fits powers_from run_powers powers_run_down shift_tells shift_fits kind_fits decimals_fit flags_fit flags_from row_fits passes words_of table_of prepared_as prepared written table_after table_reading shown_as text_as showing room_after along all_of
evaluated_table code ask text room = table_reading (table_of code) ask text room
