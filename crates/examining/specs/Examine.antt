-- What examining a code answers: the verdict, and where it is fine the drafts of the sections.
-- Assumes nothing.
use Rattle.std.specs.Prelude.{ℕ, ◌≤◌, ◌≡◌, Bool, List, length, take, Option as Found, Some, None, Result, Ok, Err}
use Rattle.std.proofs.Math.Option.{Option, none, some}
use Rattle.answers.specs.declared.Refusal.TheVariants as answer
use Rattle.answers.specs.declared.Refused.{Refused}
use Rattle.lists.specs.Lists.{first_failing}
use Rattle.formats.specs.Tokens.{good, lex}
use Rattle.formats.specs.Accept.{Verdict, fine, refused, or_else, length_verdict, section_verdict, kind_verdict, where_verdict, limit_verdict, verdict, parts_in, sections_in}
use Rattle.tables.specs.Standing.{head_stands}
use Rattle.marks.specs.declared.Mark.{Mark}
use Rattle.marks.specs.Marks.{placed_in}
use Rattle.drafting.specs.declared.Draft.{Draft}
use Rattle.examining.specs.declared.Examined.{Examined}
use Rattle.drafting.specs.Draft.{Drafted, item_words, has_condition_by}

-- ---- the tests on drafts
-- section i fits a kind, may stand where it does among n, and is within the limits
abbrev pub fits_by : ℕ → Draft → Bool
fits_by i d = d.body.fits

abbrev pub stands_by : ℕ → ℕ → Draft → Bool
stands_by n i d = head_stands n i d.body.kind d.colour (has_condition_by d)

abbrev pub within_by : ℕ → Draft → Bool
within_by i d = d.within

-- the place that a search found, if it found one
unfoldable pub found : Found ℕ → Option ℕ
found (Some i) = some i
found None = none

-- the tests 4, 5 and 6 of drafts, and of the sections of a code
unfoldable pub drafts_verdict : List Draft → Verdict
drafts_verdict ds =
    or_else (section_verdict answer.Kind (first_failing fits_by 0 ds))
    (or_else (section_verdict answer.Standing (first_failing (stands_by (length ds)) 0 ds)) (section_verdict answer.Limit (first_failing within_by 0 ds)))

unfoldable pub sections_verdict : List ℕ → Verdict
sections_verdict code = or_else (kind_verdict (parts_in code)) (or_else (where_verdict (sections_in code)) (limit_verdict (parts_in code)))

-- ---- the answer
-- the verdict that a result stands for
unfoldable pub verdict_of : {A : Type 0} → Result A Refused → Verdict
verdict_of (Ok x) = fine
verdict_of (Err r) = refused r.refusal r.place

-- the tokens of a code of a length that is fine
pub record Buffered (code : List ℕ) (tokens : List Mark) : Type 0 where
  pub few : length tokens ≤ 254
  pub small : length code ≤ 254
  pub same : good (placed_in code tokens) ≡ lex code
  pub fair : length_verdict code ≡ fine

-- the tokens of a code that is fine, and its sections as drafts, with the words of their items
pub record Sound (code : List ℕ) (tokens : List Mark) (r : Examined) (out : List ℕ) (drafts : List Draft) : Type 0 where
  pub buffered : Buffered code (take r.tokens tokens)
  pub inside : r.tokens ≤ length tokens
  pub many : r.sections ≡ length (parts_in code)
  pub few : r.sections ≤ 4
  pub enough : r.sections ≤ length drafts
  pub each : Drafted (parts_in code) drafts
  pub words : take r.words out ≡ item_words (parts_in code)
  pub short : r.words ≤ 508
  pub room : r.words ≤ length out

pub record ExaminedAs (code : List ℕ) (tokens : List Mark) (r : Result Examined Refused) (out : List ℕ) (drafts : List Draft) : Type 0 where
  pub told : verdict_of r ≡ verdict code
  pub sound : (e : Examined) → r ≡ Ok e → Sound code tokens e out drafts
