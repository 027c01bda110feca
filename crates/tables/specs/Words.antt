-- "The table" (R89, R90, R94, R95): its words, as they stand in it.
-- Assumes nothing.
use Rattle.std.specs.Prelude.{ℕ, zero, suc, ◌+◌, ◌*◌, ◌/◌, Bool, ◌&&◌, List, [], ◌∷◌, length, get_or, drop, eqb}
use Rattle.values.specs.Ranges.{between}

-- "12 words a section" (R90)
pub record Head : Type 0 where
  pub kind : ℕ
  pub colour : ℕ
  pub operator : ℕ
  pub negative : ℕ
  pub whole_low : ℕ
  pub whole_high : ℕ
  pub millionths_low : ℕ
  pub millionths_high : ℕ
  pub shift : ℕ
  pub flags : ℕ
  pub decimals : ℕ
  pub items : ℕ

-- "two words an item" (R94)
pub record Entry : Type 0 where
  pub tag : ℕ
  pub argument : ℕ

-- a section's words
pub record Row : Type 0 where
  pub head : Head
  pub entries : List Entry

-- each writer puts its words in front of those that follow
unfoldable pub head_words : Head → List ℕ → List ℕ
head_words h ws =
    h.kind ∷ h.colour ∷ h.operator ∷ h.negative ∷ h.whole_low ∷ h.whole_high ∷ h.millionths_low ∷ h.millionths_high
    ∷ h.shift ∷ h.flags ∷ h.decimals ∷ h.items ∷ ws

unfoldable pub heads_words : List Row → List ℕ → List ℕ
heads_words [] ws = ws
heads_words (r ∷ rs) ws = head_words r.head (heads_words rs ws)

unfoldable pub entries_words : List Entry → List ℕ → List ℕ
entries_words [] ws = ws
entries_words (e ∷ es) ws = e.tag ∷ e.argument ∷ entries_words es ws

unfoldable pub bodies_words : List Row → List ℕ → List ℕ
bodies_words [] ws = ws
bodies_words (r ∷ rs) ws = entries_words r.entries (bodies_words rs ws)

-- "Word 0: sections [..]. Then 12 words a section [..]. Then two words an item, section by section" (R89)
unfoldable pub table_words : List Row → List ℕ
table_words rs = length rs ∷ heads_words rs (bodies_words rs [])

-- the words read back; a word past the end is read as 0
unfoldable pub head_at : List ℕ → Head
head_at ws =
    record {
      kind = get_or ws 0 0;
      colour = get_or ws 1 0;
      operator = get_or ws 2 0;
      negative = get_or ws 3 0;
      whole_low = get_or ws 4 0;
      whole_high = get_or ws 5 0;
      millionths_low = get_or ws 6 0;
      millionths_high = get_or ws 7 0;
      shift = get_or ws 8 0;
      flags = get_or ws 9 0;
      decimals = get_or ws 10 0;
      items = get_or ws 11 0;
    }

unfoldable pub heads_at : ℕ → List ℕ → List Head
heads_at zero ws = []
heads_at (suc n) ws = head_at ws ∷ heads_at n (drop 12 ws)

unfoldable pub entries_at : ℕ → List ℕ → List Entry
entries_at zero ws = []
entries_at (suc n) ws = record { tag = get_or ws 0 0; argument = get_or ws 1 0 } ∷ entries_at n (drop 2 ws)

-- those that stand in a section's item words, two words each
unfoldable pub entries_in : List ℕ → List Entry
entries_in words = entries_at (length words / 2) words

unfoldable pub rows_at : List Head → List ℕ → List Row
rows_at [] ws = []
rows_at (h ∷ hs) ws = record { head = h; entries = entries_at h.items ws } ∷ rows_at hs (drop (2 * h.items) ws)

unfoldable pub heads_in : List ℕ → List Head
heads_in ws = heads_at (get_or ws 0 0) (drop 1 ws)

unfoldable pub rows_in : List ℕ → List Row
rows_in ws = rows_at (heads_in ws) (drop (1 + 12 * get_or ws 0 0) ws)

unfoldable pub items_said : List Head → ℕ
items_said [] = 0
items_said (h ∷ hs) = h.items + items_said hs

-- "Word 0: sections, 1 to 4", "exactly those words and no more" (R95)
unfoldable pub exact_words : List ℕ → Bool
exact_words ws = between 1 4 (get_or ws 0 0) && eqb (length ws) (1 + 12 * get_or ws 0 0 + 2 * items_said (heads_in ws))
