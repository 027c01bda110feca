-- The line that is written for a request: the numbers in the order that C has them.
-- Assumes nothing.
use Rattle.std.specs.Prelude.{ℕ, List, [], ◌∷◌, ◌++◌}
use Rattle.figures.specs.Digits.{numeral}
use Rattle.calendar.specs.Names.{units}
use Rattle.c_numbers.specs.declared.WhyNumbers.{WhyNumbers}

unfoldable pub named : List ℕ → ℕ → List ℕ
named name n = name ++ numeral 1 n

unfoldable pub choice_units : WhyNumbers → List ℕ
choice_units w =
    named (units " section=") w.section
    ++ named (units " choice=") w.choice
    ++ named (units " first=") w.first
    ++ named (units " second=") w.second

unfoldable pub line_of : WhyNumbers → List ℕ
line_of w =
    named (units "answer=") w.answer
    ++ choice_units w
    ++ named (units " minus=") w.minus
    ++ named (units " cut=") w.cut
    ++ (10 ∷ [])
