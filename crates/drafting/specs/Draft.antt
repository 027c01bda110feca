-- What one section of a code is drafted as, and what the tests and the heads ask of drafts.
-- Assumes nothing.
use Rattle.std.specs.Prelude.{ℕ, zero, suc, ◌+◌, ◌*◌, ◌≡◌, Bool, true, false, cond, not, ◌&&◌, ◌||◌, List, [], ◌∷◌, ◌++◌, length, get_or, T, eqb}
use Rattle.std.specs.Prelude as std
use Rattle.std.proofs.Math.Option.{Option, none, some}
use Rattle.lists.specs.Lists.{every, is_empty}
use Rattle.formats.specs.Tokens.{Token, Written, lex}
use Rattle.formats.specs.Items.{kind_of, integer_places, whole_items, main_items, fraction_fits, settled}
use Rattle.formats.specs.Accept.{placed_of, tokens_of, parts_in}
use Rattle.formats.specs.Kinds.{Parts, condition_in, condition_of, section_of, fits, body_items, last_fill}
use Rattle.formats.specs.Limits.{written_within, within_limits, section_within}
use Rattle.tables.specs.Words.{entries_words}
use Rattle.tables.specs.Encode.{kind_word, operator_word, negative_word, whole_part, millionths_part, bit, low_word, high_word, shift_word, has_half, decimals_word, run_entries, entries_of}
use Rattle.tables.specs.Standing.{shift_of}
use Rattle.marks.specs.declared.Mark.{Mark}
use Rattle.marks.specs.Marks.{tokens_in}
use Rattle.bodies.specs.declared.conditions.Amount.{Amount}
use Rattle.bodies.specs.declared.conditions.Compared.{Compared}
use Rattle.drafting.specs.declared.Draft.{Draft}
use Rattle.drafting.specs.declared.Body.{Body}
use Rattle.drafting.specs.declared.drafts.Read.{Read}
use Rattle.writing.specs.Put.{Put}
use Rattle.bodies.specs.declared.facts.Facts.{Facts}
use Rattle.bodies.specs.declared.commas.Commas.{Commas}
use Rattle.numbering.specs.declared.Numbered.{Numbered}
use Rattle.tallies.specs.declared.Tally.{Tally}
use Rattle.bodies.specs.Bodies.{facts_of}
use Rattle.bodies.specs.Uses.{commas_of}
use Rattle.bodies.specs.Fraction.{has_units}
use Rattle.tallies.specs.Tally.{tally_of, kind_told, items_fit_told, within_told, decimals_told}

-- the words of a body's items in the table
abbrev pub body_words : List Token → List ℕ
body_words ts = entries_words (entries_of (settled (last_fill (body_items ts)))) []

-- these words with the powers of one run, as they are before the parts of a fraction are told apart
abbrev pub settled_words : List Token → List ℕ
settled_words ts = entries_words (run_entries (settled (last_fill (body_items ts)))) []

-- what a section's condition compares with, if it has one, as numbers
pub record AmountAs (o : Option Written) (a : Amount) : Type 0 where
  pub negative : bit a.negative ≡ negative_word (condition_of o)
  pub whole : a.whole ≡ whole_part (condition_of o)
  pub millionths : a.millionths ≡ millionths_part (condition_of o)

-- the condition of a section, if it has one, as numbers; what it compares with is only told where its digits are within the limits
pub record ConditionAs (o : Option Written) (r : Compared) : Type 0 where
  pub operator : r.operator ≡ operator_word (condition_of o)
  pub within : std.is_some r.amount ≡ written_within o
  pub amount : (a : Amount) → r.amount ≡ std.Some a → AmountAs o a

-- only the commas of a number divide
abbrev pub thousands_by : Facts → Commas → ℕ
thousands_by f c = cond f.number c.thousands 0

-- the shift is told where the section is within the limits
abbrev pub shift_told : Tally → Bool → ℕ → ℕ
shift_told t within thousands = cond within (shift_of (kind_told t) t.percents thousands) 0

-- a scientific section or a fraction has no comma, a date any
abbrev pub commas_fit_by : Facts → Commas → Bool
commas_fit_by f c = cond (f.scientific || f.fraction) (not f.commas) (f.date || not c.misplaced)

-- the body of a section by its facts, its commas, the tally of its items, whether these fit and are within the limits, and their count
abbrev pub body_by : Facts → Commas → Tally → Bool → Bool → ℕ → Body
body_by f c t fit within items =
    record {
      fits = f.plain && commas_fit_by f c && fit;
      within = within;
      kind = kind_told t;
      shift = shift_told t within (thousands_by f c);
      grouped = f.number && c.grouped;
      twelve = t.halves;
      decimals = decimals_told t;
      items = items;
    }

-- where neither E nor solidus is among the items, nothing else is to be told
abbrev pub bare_body : Facts → Commas → Tally → ℕ → Body
bare_body f c t items = body_by f c t (items_fit_told t) (within_told t (thousands_by f c)) items

-- what the passes over a body gave is its facts, its commas, the tally of its items and their count
pub record BodyRead (ts : List Token) (r : Read) : Type 0 where
  pub units : T (every has_units ts)
  pub facts : r.facts ≡ facts_of ts
  pub commas : r.commas ≡ commas_of ts
  pub tally : r.tally ≡ tally_of (run_entries (settled (last_fill (body_items ts))))
  pub items : r.items ≡ length (settled (last_fill (body_items ts)))

-- the rules for a solidus are told by a fraction's tokens; any other kind may have none
abbrev pub kept_by : List Token → Facts → Tally → Bool
kept_by ts f t = cond f.fraction (fraction_fits (body_items ts)) (eqb t.solidi 0)

-- the words of a body's items are those of the table, and the places of their parts are counted
pub record Parted (ts : List Token) (r : Numbered) (out : List ℕ) : Type 0 where
  pub wholes : r.wholes ≡ integer_places (whole_items (settled (last_fill (body_items ts))))
  pub numerators : r.numerators ≡ integer_places (main_items (settled (last_fill (body_items ts))))
  pub words : out ≡ body_words ts

-- what the body of a section is drafted as
pub record BodyOf (p : Parts) (b : Body) : Type 0 where
  pub fits : b.fits ≡ fits p
  pub within : b.within ≡ section_within (section_of p)
  pub kind : b.kind ≡ kind_word (kind_of (section_of p))
  pub shift : b.within ≡ true → b.shift ≡ shift_word (section_of p)
  pub grouped : b.grouped ≡ (section_of p).grouped
  pub twelve : b.twelve ≡ has_half (section_of p).items
  pub decimals : b.decimals ≡ decimals_word (section_of p)
  pub items : b.items ≡ length (section_of p).items

-- what the section of a body of these tokens is drafted as, whatever stands before it
abbrev pub Drafts : List Token → Body → Type 0
Drafts ts b = (p : Parts) → p.body ≡ ts → BodyOf p b

-- what a section is drafted as; its condition is only told within the limits
pub record DraftOf (p : Parts) (d : Draft) : Type 0 where
  pub colour : d.colour ≡ p.colour
  pub operator : d.operator ≡ operator_word (condition_of p.condition)
  pub within : d.within ≡ within_limits p
  pub negative : d.within ≡ true → bit d.negative ≡ negative_word (condition_of p.condition)
  pub whole_low : d.within ≡ true → d.whole_low ≡ low_word (whole_part (condition_of p.condition))
  pub whole_high : d.within ≡ true → d.whole_high ≡ high_word (whole_part (condition_of p.condition))
  pub millionths_low : d.within ≡ true → d.millionths_low ≡ low_word (millionths_part (condition_of p.condition))
  pub millionths_high : d.within ≡ true → d.millionths_high ≡ high_word (millionths_part (condition_of p.condition))
  pub body : BodyOf p d.body

-- the sections are drafted, the first of them first
abbrev pub Drafted : List Parts → List Draft → Type 0
Drafted [] ds = Unit {0}
Drafted (p ∷ ps) [] = ⊥
Drafted (p ∷ ps) (d ∷ ds) = DraftOf p d × Drafted ps ds

-- the words of the items of sections, one behind the other
unfoldable pub item_words : List Parts → List ℕ
item_words [] = []
item_words (p ∷ ps) = body_words p.body ++ item_words ps

-- the sections of a code are drafted, and the words of their items are put
pub record AllDrafted (ps : List Parts) (old : List ℕ) (r : ℕ) (out : List ℕ) (drafts : List Draft) : Type 0 where
  pub each : Drafted ps drafts
  pub put : Put old 0 (item_words ps) r out

-- the buffer holds the tokens of the code, of n sections
pub record Lexes (code : List ℕ) (tokens : List Mark) (n : ℕ) : Type 0 where
  pub same : tokens_in code tokens ≡ tokens_of (placed_of (lex code))
  pub many : n ≡ length (parts_in code)

abbrev pub has_condition_by : Draft → Bool
has_condition_by d = not (eqb d.operator 0)

-- ---- a token of a code
unfoldable pub writes_digit : Option Written → Bool
writes_digit none = true
writes_digit (some w) = not (is_empty w.whole)

-- a condition that is read has a digit, a literal a unit
unfoldable pub is_read : Token → Bool
is_read t = writes_digit (condition_in t) && has_units t
