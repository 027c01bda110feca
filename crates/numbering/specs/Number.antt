-- The item words of a fraction before its solidus: their places' powers written anew.
-- Assumes nothing.
use Rattle.std.specs.Prelude.{ℕ, suc, ◌+◌, ◌-◌, ◌/◌, cond, ◌≡◌, List, [], ◌∷◌, ◌++◌, length, take, drop, eqb}
use Rattle.values.specs.Ranges.{between}
use Rattle.formats.specs.Items.{end_places, before_end}
use Rattle.table_words.specs.Runs.{items_in, CutAt}
use Rattle.numbering.specs.declared.Numbered.{Numbered}

-- how many places stand before the first point
unfoldable pub integers_in : List ℕ → ℕ
integers_in [] = 0
integers_in (t ∷ []) = 0
integers_in (t ∷ a ∷ ws) = let r = integers_in ws in cond (eqb t 7) 0 (cond (between 4 6 t) (suc r) r)

-- the places' powers run down from q, the power of the first digit and 15
unfoldable pub numbered_from : ℕ → List ℕ → List ℕ
numbered_from q [] = []
numbered_from q (t ∷ []) = t ∷ []
numbered_from q (t ∷ a ∷ ws) = cond (between 4 6 t) (t ∷ suc q ∷ numbered_from (q - 1) ws) (t ∷ a ∷ numbered_from q ws)

-- the words before a solidus are numbered: the integer part, and the run of places at their end
pub record FrontNumbered (old : List ℕ) (r : Numbered) (out : List ℕ) : Type 0 where
  pub start : ℕ
  pub cut : CutAt old start (before_end (items_in old)) (end_places (items_in old))
  pub wholes : r.wholes ≡ integers_in (take start old)
  pub numerators : r.numerators ≡ (length old - start) / 2
  pub words : out ≡ numbered_from (14 + r.wholes) (take start old) ++ numbered_from (14 + r.numerators) (drop start old)
