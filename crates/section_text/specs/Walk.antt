-- What is asked of a section's item words to show them, and what is said of their text.
-- Assumes nothing.
use Rattle.std.specs.Prelude.{◌≡◌, List, [], ◌∷◌, ◌++◌, ℕ, ◌≤◌, suc, T, eqb, length}
use mathlib.Core.List.{flatten}
use Rattle.lists.specs.Lists.{every}
use Rattle.formats.specs.Items.{Kind, item_allowed, is_place}
use Rattle.formats.specs.Where.{implies}
use Rattle.formats.specs.Text.{Context, item_units, along, items_units, first_of}
use Rattle.tables.specs.Words.{Entry}
use Rattle.tables.specs.Decode.{item_at, items_at}
use Rattle.tables.specs.Rules.{entry_in_range, powers_from}
use Rattle.writing.specs.Put.{Put}
use Rattle.section_text.specs.declared.Subject.{Subject}
use Rattle.section_text.specs.Subject.{SubjectIs}

-- a section of kind k may hold the entry's item; q + 1 is the argument of a place
pub record EntryFits (k : Kind) (q : ℕ) (e : Entry) : Type 0 where
  pub allowed : T (item_allowed k (item_at e))
  pub power : T (implies (is_place (item_at e)) (eqb e.argument (suc q)))

-- the entries are in range, a section of kind k may hold their items, and the places' powers run down from q, behind an E from that of the
-- context's first place
pub record EntriesFit (k : Kind) (c : Context) (q : ℕ) (es : List Entry) : Type 0 where
  pub in_range : T (every entry_in_range es)
  pub allowed : T (every (item_allowed k) (items_at es))
  pub powers : T (powers_from (first_of c.integer_places) q es)

-- these units are what a context with the property shows of the entries' items, which fit
pub record TextOf (P : Kind → Context → Type 0) (es : List Entry) (us : List ℕ) : Type 0 where
  pub context : Context
  pub kind : Kind
  pub power : ℕ
  pub subject : P kind context
  pub fit : EntriesFit kind context power es
  pub is : us ≡ items_units context power (items_at es)

pub text-ends : {P : Kind → Context → Type 0} {us : List ℕ} → TextOf P [] us → us ≡ []
unfolding items_units items_at along flatten
text-ends t = t.is

-- the entry is the first of some that have a text
pub record Begins (text : List Entry → List ℕ → Type 0) (e : Entry) : Type 0 where
  pub behind : List Entry
  pub units : List ℕ
  pub has : text (e ∷ behind) units

-- a piece of a text is put, and the rest is the text of these entries
pub record Parted (text : List Entry → List ℕ → Type 0) (es : List Entry) (us : List ℕ) (old : List ℕ) (at r : ℕ) (out : List ℕ) : Type 0 where
  pub piece : List ℕ
  pub rest : List ℕ
  pub joined : us ≡ piece ++ rest
  pub put : Put old at piece r out
  pub left : text es rest

-- of any text of entries that begin with this one, this one's piece is put
abbrev pub PutsFirst : (List Entry → List ℕ → Type 0) → Entry → List ℕ → ℕ → ℕ → List ℕ → Type 0
PutsFirst text e old at r out = (es : List Entry) (us : List ℕ) → text (e ∷ es) us → Parted text es us old at r out

-- the entries have a text, and one that is short
pub record HasText (text : List Entry → List ℕ → Type 0) (es : List Entry) : Type 0 where
  pub units : List ℕ
  pub has : text es units
  pub short : length units ≤ 260096

-- an item's text is put, in every context with the property
abbrev pub ItemPut : (Kind → Context → Type 0) → Entry → List ℕ → ℕ → ℕ → List ℕ → Type 0
ItemPut P e old at r out = (c : Context) (k : Kind) (q : ℕ) → P k c → EntryFits k q e → Put old at (item_units c q (item_at e)) r out

-- there is a context that the subject is of in a section of kind k
pub record Known (k : Kind) (digits : List ℕ) (s : Subject) (text : List ℕ) : Type 0 where
  pub context : Context
  pub is : SubjectIs k digits s text context
