-- Whole inputs of the program and their whole answers, worked out: one list, and a single statement over its rows.
-- Assumes nothing.
use Prim.Native.String.{String}
use mathlib.Core.Path.{◌≡◌, refl}
use mathlib.Core.List.{List, [], ◌∷◌}
use Rattle.lists.specs.Lists.{All}
use Rattle.calendar.specs.Names.{units}
use Rattle.formats.proofs.Evaluate.{evaluated}
use Rattle.tables.specs.Calls.{shown_as, text_as}
use Rattle.preview.specs.Preview.{place_of, previewed, preview_text}
use Rattle.requests.proofs.Cases.{worked}
use Rattle.responding.specs.Respond.{line_of, five_lines, lines_of, response_of}

pub record Case : Type 0 where
  pub input : String
  pub answer : String

unfoldable pub cases : List Case
cases =
    -- the example of document 01
    record { input = "code=#,##0\nkind=number\nvalue=12000\n"; answer = "answer=0\nplace=0\ncolour=0\nexact=1\ntext=12,000\n" }
    -- a colour
    ∷ record { input = "code=0;[Red](0)\nkind=number\nvalue=-3\n"; answer = "answer=0\nplace=0\ncolour=3\nexact=1\ntext=(3)\n" }
    -- a code's refusal with its place, also where the value is out of range
    ∷ record { input = "code=0yyy\nkind=number\nvalue=1000000000000000\n"; answer = "answer=2\nplace=1\ncolour=0\nexact=0\ntext=\n" }
    -- a value out of range
    ∷ record { input = "code=0\nkind=number\nvalue=1000000000000000\n"; answer = "answer=9\nplace=0\ncolour=0\nexact=0\ntext=\n" }
    -- a malformed line goes before all else
    ∷ record { input = "code=0yyy\nkind=number\nvalue=x\n"; answer = "answer=14\nplace=3\ncolour=0\nexact=0\ntext=\n" }
    ∷ record { input = "code=0\nkind=number\nvalue=1\n\n"; answer = "answer=14\nplace=4\ncolour=0\nexact=0\ntext=\n" }
    ∷ []

pub cases-hold : All (λ (c : Case). response_of (units c.input) ≡ units c.answer) cases
unfolding cases evaluated worked line_of five_lines lines_of response_of place_of previewed preview_text shown_as text_as
cases-hold = (refl, (refl, (refl, (refl, (refl, (refl, tt))))))
