-- The sections of a list of tokens, and the heading of one.
-- Assumes nothing.
use Rattle.std.specs.Prelude.{ℕ, suc, ◌+◌, ◌-◌, ◌≤◌, ◌<◌, ◌≡◌, cond, List, [], ◌∷◌, eqb, length, drop, get_or}
use Rattle.std.specs.Prelude as std
use Rattle.std.proofs.Math.Option.{Option, none}
use Rattle.formats.specs.Tokens.{Token, Written}
use Rattle.formats.specs.Kinds.{Parts, is_semicolon, condition_in, after_colour, parts_of}
use Rattle.formats.specs.Accept.{split}
use Rattle.marks.specs.declared.Mark.{Mark}
use Rattle.marks.specs.Marks.{marked, tokens_in}
use Rattle.bodies.specs.declared.sections.Heading.{Heading}

-- how many tokens stand before the first semicolon
unfoldable pub first_section : List Token → ℕ
first_section [] = 0
first_section (t ∷ ts) = let r = first_section ts in cond (is_semicolon t) 0 (suc r)

-- the condition that a mark stands for, where there is a mark
unfoldable pub condition_marked : List ℕ → std.Option Mark → Option Written
condition_marked code std.None = none
condition_marked code (std.Some m) = condition_in (marked code m)

-- the parts of a section's tokens that a heading stands for
unfoldable pub heading_parts : List ℕ → Heading → List Token → Parts
heading_parts code h ts = record { colour = h.colour; condition = condition_marked code h.condition; body = drop h.tokens ts }

-- the sections behind the first, which has k tokens
unfoldable pub later_sections : ℕ → List Token → List (List Token)
later_sections k ts = cond (eqb k (length ts)) [] (split (drop (suc k) ts))

-- the first section of the marks has r tokens, whatever the code
pub record SectionEnd (ms : List Mark) (r : ℕ) : Type 0 where
  pub same : (code : List ℕ) → r ≡ first_section (tokens_in code ms)
  pub inside : r ≤ length ms

-- the condition of a heading is its last token
abbrev pub ConditionRead : List Mark → Heading → Type 0
ConditionRead ms r = (m : Mark) → r.condition ≡ std.Some m → (1 ≤ r.tokens) × (m.form ≡ 24) × (get_or ms (r.tokens - 1) m ≡ m)

-- r is the heading of a section of which so many tokens and their colour are passed
pub record AfterColour (ms : List Mark) (colour passed : ℕ) (r : Heading) : Type 0 where
  pub same : (code : List ℕ) → after_colour colour (drop passed (tokens_in code ms)) ≡ heading_parts code r (tokens_in code ms)
  pub few : r.tokens ≤ passed + 1
  pub inside : r.tokens ≤ length ms
  pub read : ConditionRead ms r

-- r is the heading of a section, whatever the code
pub record HeadingOf (ms : List Mark) (r : Heading) : Type 0 where
  pub same : (code : List ℕ) → parts_of (tokens_in code ms) ≡ heading_parts code r (tokens_in code ms)
  pub few : r.tokens ≤ 2
  pub inside : r.tokens ≤ length ms
  pub read : ConditionRead ms r
