-- Where a section stands, N and the shift, by table words: what a head tells without its items.
-- Assumes nothing.
use Rattle.std.specs.Prelude.{ℕ, ◌+◌, ◌-◌, ◌*◌, Bool, cond, not, ◌&&◌, ◌||◌, List, [], ◌∷◌, ltb, eqb}
use Rattle.formats.specs.Where.{implies}

-- "Where": section i of n with this kind word and this colour, which has a condition or none, may stand there
unfoldable pub head_stands : ℕ → ℕ → ℕ → ℕ → Bool → Bool
head_stands n i kind colour has =
    implies (eqb kind 3) (eqb (i + 1) n)
    && implies (eqb n 1 && has) (eqb kind 1)
    && implies has (ltb i 2)
    && implies (eqb kind 3) (not has)
    && implies (eqb i 3) (eqb kind 3 || eqb kind 1 || eqb kind 0)
    && implies (eqb i 3) (eqb colour 0 && not has)

-- "N counts the sections that are neither text nor fourth": one, where section i counts
unfoldable pub counted_one : ℕ → ℕ → ℕ
counted_one i kind = cond (eqb kind 3 || eqb i 3) 0 1

-- N by the kind words of sections, the first of which is section i
unfoldable pub counted_kinds : ℕ → List ℕ → ℕ
counted_kinds i [] = 0
counted_kinds i (kind ∷ kinds) = counted_one i kind + counted_kinds (i + 1) kinds

-- "shift (number: 15 + 2 percents - 3 commas; else 0)"
unfoldable pub shift_of : ℕ → ℕ → ℕ → ℕ
shift_of kind percents commas = cond (eqb kind 2) (15 + 2 * percents - 3 * commas) 0
