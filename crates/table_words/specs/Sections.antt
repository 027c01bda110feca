-- The section of a table at a place, the words of its head, and the words of its items.
-- Assumes nothing.
use Rattle.std.specs.Prelude.{ℕ, zero, suc, ◌+◌, ◌*◌, ◌≤◌, ◌≡◌, false, List, [], T, length, get_or, drop}
use Rattle.std.proofs.Math.Option.{none}
use Rattle.lists.specs.Lists.{every}
use Rattle.formats.specs.Items.{Section, item_allowed, kind_of}
use Rattle.formats.specs.Choice.{counted}
use Rattle.formats.specs.Minus.{first_has_condition}
use Rattle.tables.specs.Words.{Head, head_at, entries_in}
use Rattle.tables.specs.Encode.{head_of}
use Rattle.tables.specs.Decode.{items_at, decode}
use Rattle.tables.specs.Rules.{entry_in_range, powers_run_down}
use Rattle.table_words.specs.declared.HeadWords.{HeadWords}

unfoldable pub no_section : Section
no_section = record { colour = 0; condition = none; grouped = false; thousands = 0; items = [] }

-- the section of a table at a place
unfoldable pub section_in : List ℕ → ℕ → Section
section_in ws i = get_or (decode ws) i no_section

-- the words that its head has
abbrev pub head_in : List ℕ → ℕ → Head
head_in ws i = head_of (counted (decode ws)) i (first_has_condition (decode ws)) (section_in ws i)

abbrev pub head_from : HeadWords → Head
head_from w =
    record {
      kind = w.kind;
      colour = w.colour;
      operator = w.operator;
      negative = w.negative;
      whole_low = w.whole_low;
      whole_high = w.whole_high;
      millionths_low = w.millionths_low;
      millionths_high = w.millionths_high;
      shift = w.shift;
      flags = w.flags;
      decimals = w.decimals;
      items = w.items;
    }

-- "Then two words an item, section by section": where those of section i begin
unfoldable pub items_start : List ℕ → ℕ → ℕ
items_start ws zero = 1 + 12 * get_or ws 0 0
items_start ws (suc i) = items_start ws i + 2 * (head_at (drop (1 + 12 * i) ws)).items

-- these words are those of a section's items, and what the table rules say of them
pub record ItemsOf (s : Section) (words : List ℕ) : Type 0 where
  pub few : length words ≤ 508
  pub items : s.items ≡ items_at (entries_in words)
  pub in_range : T (every entry_in_range (entries_in words))
  pub allowed : T (every (item_allowed (kind_of s)) (items_at (entries_in words)))
  pub powers : T (powers_run_down (entries_in words))
