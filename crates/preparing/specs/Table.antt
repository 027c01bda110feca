-- The words of a table, from the drafts of a code's sections.
-- Assumes nothing.
use Rattle.std.specs.Prelude.{ℕ, ◌+◌, Bool, false, List, [], ◌∷◌, ◌++◌, map, length}
use Rattle.formats.specs.Minus.{exception_a}
use Rattle.tables.specs.Words.{Head, head_words}
use Rattle.tables.specs.Encode.{bit, flags_word}
use Rattle.tables.specs.Standing.{counted_kinds}
use Rattle.drafting.specs.declared.Draft.{Draft}
use Rattle.drafting.specs.Draft.{has_condition_by}

abbrev pub draft_kind : Draft → ℕ
draft_kind d = d.body.kind

-- N of sections with these drafts, the first of which is section i
abbrev pub counted_by : ℕ → List Draft → ℕ
counted_by i ds = counted_kinds i (map draft_kind ds)

unfoldable pub head_by : ℕ → ℕ → Bool → Draft → Head
head_by n i first_has d =
    record {
      kind = d.body.kind;
      colour = d.colour;
      operator = d.operator;
      negative = bit d.negative;
      whole_low = d.whole_low;
      whole_high = d.whole_high;
      millionths_low = d.millionths_low;
      millionths_high = d.millionths_high;
      shift = d.body.shift;
      flags = flags_word d.body.grouped (exception_a n i (has_condition_by d) first_has) d.body.twelve;
      decimals = d.body.decimals;
      items = d.body.items;
    }

-- the words of the heads of these drafts, the first of which stands at place i
unfoldable pub heads_by : ℕ → Bool → ℕ → List Draft → List ℕ
heads_by n first_has i [] = []
heads_by n first_has i (d ∷ ds) = head_words (head_by n i first_has d) [] ++ heads_by n first_has (i + 1) ds

-- the first of these drafts has a condition
unfoldable pub first_has_by : List Draft → Bool
first_has_by [] = false
first_has_by (d ∷ ds) = has_condition_by d

-- the table of drafts whose items have these words
unfoldable pub table_by : List Draft → List ℕ → List ℕ
table_by ds words = length ds ∷ (heads_by (counted_by 0 ds) (first_has_by ds) 0 ds ++ words)
