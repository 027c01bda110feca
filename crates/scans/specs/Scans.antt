-- Where an item stands among a section's items, by its tag.
-- Assumes nothing.
use Rattle.std.specs.Prelude.{ℕ, ◌*◌, ◌/◌, ◌≤◌, ◌<◌, ◌≡◌, Bool, List, length, get_or, ltb, eqb}
use Rattle.lists.specs.Lists.{any}
use Rattle.tables.specs.Words.{Entry, entries_in}

abbrev pub tagged : ℕ → Entry → Bool
tagged tag e = eqb e.tag tag

abbrev pub has_tag : List Entry → ℕ → Bool
has_tag es tag = any (tagged tag) es

-- an item with this tag stands here, or behind all items where none has it
pub record FoundAt (words : List ℕ) (tag at : ℕ) : Type 0 where
  pub inside : at ≤ length words / 2
  pub told : has_tag (entries_in words) tag ≡ ltb at (length words / 2)
  pub here : at < length words / 2 → get_or words (2 * at) 0 ≡ tag
