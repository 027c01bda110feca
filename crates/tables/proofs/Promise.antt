-- `table-of-code`: demand 3 between definitions. And its converse: words pass exactly when they are the table of well-formed sections.
-- Assumes nothing.
use Prim.Native.Nat.{ℕ, suc, ◌+◌, ◌*◌, ◌≤◌}
use native.Mathlib.Omega.{arith}
use mathlib.Core.Path.{◌≡◌, refl, ◌∙◌, ap}
use mathlib.Core.Bool.{Bool, true}
use mathlib.Core.List.{List, [], ◌∷◌}
use mathlib.Core.Logic.{◌↔◌}
use lib.ListN.{length, length-map}
use lib.Dec.{T, leb, leb→le, le→leb}
use Rattle.lists.specs.Lists.{every}
use Rattle.lists.proofs.Bools.{and_left, and_right, and_in, T_true, true-T}
use Rattle.formats.specs.Items.{Section, is_unit}
use Rattle.formats.specs.Choice.{counted}
use Rattle.formats.specs.Minus.{first_has_condition}
use Rattle.formats.specs.WellFormed.{section_formed, items_in_all, all_stand, well_formed}
use Rattle.formats.specs.Accept.{sections, accept}
use Rattle.formats.specs.Reading.{read_accepted, code_reading}
use Rattle.formats.proofs.Accepted.{accepted-formed}
use Rattle.tables.specs.Words.{Row, table_words, rows_in, items_said, exact_words}
use Rattle.tables.specs.Encode.{row_of, head_of, rows_from, rows_of, encode}
use Rattle.tables.specs.Decode.{section_at, decode}
use Rattle.tables.specs.Rules.{row_fits, flags_from, passes}
use Rattle.tables.specs.Calls.{words_of, table_of, table_reading}
use Rattle.tables.specs.Promise.{TableOfCode, TableThatPasses}
use Rattle.tables.proofs.Words.{heads_of, rows_in_lem, words-in, words-exact, length-words, rows-counted, rows-length, Exactly, exactly}
use Rattle.tables.proofs.Made.{rows-sections, rows_fit, flags-fit, made_counted}
use Rattle.tables.proofs.Back.{rows_back, sections-formed}
use Rattle.tables.proofs.WordRanges.{rows-are-words}

-- what being well formed says
record Facts (ss : List Section) : Type 0 where
  least : 1 ≤ length ss
  most : length ss ≤ 4
  items : items_in_all ss ≤ 254
  formed : T (every section_formed ss)
  stand : T (all_stand ss)

facts : (ss : List Section) → T (well_formed ss) → Facts ss
unfolding well_formed
facts ss t = search (and_left, and_right, leb→le)

pub rows-many : (n i : ℕ) (b : Bool) (ss : List Section) → length (rows_from n i b ss) ≡ length ss
unfolding rows_from
rows-many n i b [] = refl
rows-many n i b (s ∷ ss) = ap suc (rows-many n (suc i) b ss)

-- the rows of the words made from sections
rows_made : (ss : List Section) → rows_in (encode ss) ≡ rows_of ss
unfolding encode rows_of
rows_made ss = rows_in_lem (rows_of ss) (made_counted (counted ss) 0 (first_has_condition ss) ss)

pub decode-encode : (ss : List Section) → T (well_formed ss) → decode (encode ss) ≡ ss
unfolding decode rows_of
decode-encode ss t =
    rw (rows_made ss) (rows-sections (counted ss) 0 (first_has_condition ss) ss (facts ss t).formed)

pub encoding-passes : (ss : List Section) → T (well_formed ss) → T (passes (encode ss))
unfolding passes encode rows_of
encoding-passes ss t =
    let f = facts ss t in
    let rs : List Row = rows_of ss in
    let n : length rs ≡ length ss = rows-many (counted ss) 0 (first_has_condition ss) ss in
    let exact : T (exact_words (encode ss)) =
    words-exact rs (made_counted (counted ss) 0 (first_has_condition ss) ss) (omega (arith, f.least)) (omega (arith, f.most)) in
    let few : T (leb (items_in_all ss) 254) = le→leb (items_in_all ss) 254 f.items in
    let fit : T (every row_fits rs) = rows_fit (counted ss) 0 (first_has_condition ss) ss f.formed f.items in
    let flags : T (flags_from (counted ss) 0 (first_has_condition ss) rs) = flags-fit (counted ss) 0 (first_has_condition ss) ss f.formed in
    let stand : T (all_stand ss) = f.stand in
    rw (rows_made ss, decode-encode ss t) (search (and_in) depth 8)

-- what passing says
pub record Passing (ws : List ℕ) : Type 0 where
  pub exact : T (exact_words ws)
  pub items : items_in_all (decode ws) ≤ 254
  pub rows : T (every row_fits (rows_in ws))
  pub stand : T (all_stand (decode ws))
  pub flags : T (flags_from (counted (decode ws)) 0 (first_has_condition (decode ws)) (rows_in ws))

pub passing : (ws : List ℕ) → T (passes ws) → Passing ws
unfolding passes
passing ws t = search (and_left, and_right, leb→le) depth 8

-- words that pass are the table of the well-formed sections that they stand for
pub passing-formed : (ws : List ℕ) → T (passes ws) → T (well_formed (decode ws))
unfolding well_formed decode
passing-formed ws t =
    let p = passing ws t in
    let x : Exactly ws = exactly ws p.exact in
    let n : length (decode ws) ≡ length (rows_in ws) = length-map (rows_in ws) section_at in
    let m = rows-length ws in
    let few : T (leb (items_in_all (decode ws)) 254) = le→leb (items_in_all (decode ws)) 254 p.items in
    let least : 1 ≤ length (decode ws) = omega (arith, x.least) in
    let most : length (decode ws) ≤ 4 = omega (arith, x.most) in
    let formed : T (every section_formed (decode ws)) = sections-formed (rows_in ws) p.rows in
    let stand : T (all_stand (decode ws)) = p.stand in
    search (and_in, le→leb) depth 8

pub encode-decode : (ws : List ℕ) → T (passes ws) → encode (decode ws) ≡ ws
unfolding encode rows_of decode
encode-decode ws t =
    let p = passing ws t in
    ap table_words (rows_back (counted (decode ws)) 0 (first_has_condition (decode ws)) (rows_in ws) (rows-counted ws) p.rows p.flags)
    ∙ words-in ws p.exact

pub table-that-passes : (ws : List ℕ) → T (passes ws) → TableThatPasses ws
table-that-passes ws t = record { formed = passing-formed ws t; encoded = encode-decode ws t }

-- words pass exactly when they are the table of well-formed sections
pub passes-exactly : (ws : List ℕ) → T (passes ws) ↔ ((ss : List Section) × T (well_formed ss) × (encode ss ≡ ws))
passes-exactly ws = (
  (λ t. (decode ws, passing-formed ws t, encode-decode ws t)),
  (λ h. rw (← h.2) (encoding-passes h.0 h.1)),
)

-- every word of a table that passes has 16 bits
pub words_small : (ws : List ℕ) → T (passes ws) → T (every is_unit ws)
words_small ws t =
    let p = passing ws t in
    let x : Exactly ws = exactly ws p.exact in
    let m = rows-length ws in
    rw (words-in ws p.exact) at (rows-are-words (rows_in ws) (omega (arith, x.most)) p.rows)

-- as many items as the heads say
items-said : (n i : ℕ) (b : Bool) (ss : List Section) → items_said (heads_of (rows_from n i b ss)) ≡ items_in_all ss
unfolding items_said heads_of rows_from row_of head_of items_in_all
items-said n i b [] = refl
items-said n i b (s ∷ ss) = ap (λ (k : ℕ). length s.items + k) (items-said n (suc i) b ss)

pub encoding-length : (ss : List Section) → length (encode ss) ≡ 1 + 12 * length ss + 2 * items_in_all ss
unfolding encode rows_of
encoding-length ss =
    length-words (rows_of ss) (made_counted (counted ss) 0 (first_has_condition ss) ss)
    ∙ rw (rows-many (counted ss) 0 (first_has_condition ss) ss, items-said (counted ss) 0 (first_has_condition ss) ss) refl

pub table-of-code : (code : List ℕ) (ss : List Section) → T (every is_unit code) → accept code ≡ sections ss → TableOfCode code ss
unfolding table_of words_of table_reading code_reading read_accepted
table-of-code code ss u e =
    let w : T (well_formed ss) = accepted-formed code ss u e in
    let f = facts ss w in
    let table : table_of code ≡ encode ss = rw e refl in
    let pass : passes (encode ss) ≡ true = T_true (passes (encode ss)) (encoding-passes ss w) in
    let back : decode (encode ss) ≡ ss = decode-encode ss w in
    record {
      passed = rw table pass;
      decoded = rw table back;
      same_reading = λ ask text room. rw (e, pass, back) refl;
      most_words = rw table (omega (arith, encoding-length ss, f.most, f.items));
      in_words = rw table (words_small (encode ss) (true-T pass));
    }
