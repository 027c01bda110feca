-- "Where" (R46 to R50): which section may stand where, else 5.
-- Assumes nothing.
use Rattle.std.specs.Prelude.{ℕ, suc, Bool, not, ◌&&◌, ◌||◌, ltb, eqb}
use Rattle.lists.specs.Lists.{is_some}
use Rattle.formats.specs.Items.{Section, literal_kind, general_kind, text_kind, same_kind, kind_of}

-- where the first is so, the second must be
abbrev pub implies : Bool → Bool → Bool
implies a b = not a || b

abbrev pub has_condition : Section → Bool
has_condition s = is_some s.condition

abbrev pub is_text : Section → Bool
is_text s = same_kind (kind_of s) text_kind

-- section i of n: "text only last. A single section with a condition must be General. With two sections either may have a
-- condition, with three or four only the first two. A text section has no condition. The fourth is text, General or literal,
-- without colour or condition."
unfoldable pub stands_at : ℕ → ℕ → Section → Bool
stands_at n i s =
    implies (is_text s) (eqb (suc i) n)
    && implies (eqb n 1 && has_condition s) (same_kind (kind_of s) general_kind)
    && implies (has_condition s) (ltb i 2)
    && implies (is_text s) (not (has_condition s))
    && implies (eqb i 3) (is_text s || same_kind (kind_of s) general_kind || same_kind (kind_of s) literal_kind)
    && implies (eqb i 3) (eqb s.colour 0 && not (has_condition s))
