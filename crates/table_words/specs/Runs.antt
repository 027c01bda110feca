-- Item words cut in two between items.
-- Assumes nothing.
use Rattle.std.specs.Prelude.{◌≡◌, List, ◌++◌, ℕ, ◌%◌, ◌≤◌, length, take, drop}
use Rattle.formats.specs.Items.{Item}
use Rattle.tables.specs.Words.{entries_in}
use Rattle.tables.specs.Decode.{items_at}

-- the items in words
abbrev pub items_in : List ℕ → List Item
items_in words = items_at (entries_in words)

-- item words are cut in two between items, which are these
pub record CutAt (words : List ℕ) (start : ℕ) (front back : List Item) : Type 0 where
  pub inside : start ≤ length words
  pub even : start % 2 ≡ 0
  pub joins : entries_in words ≡ entries_in (take start words) ++ entries_in (drop start words)
  pub before : items_in (take start words) ≡ front
  pub from : items_in (drop start words) ≡ back
