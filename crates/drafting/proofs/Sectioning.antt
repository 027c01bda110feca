-- The loop over the sections of a code.
-- Assumes nothing.
use Prim.Native.Nat.{ℕ, zero, suc, ◌+◌, ◌-◌, ◌*◌, ◌≤◌, ◌<◌}
use native.Mathlib.Omega.{arith}
use native.Mathlib.Numerals.{add-one}
use mathlib.Core.Path.{◌≡◌, refl, sym, ◌∙◌, ap}
use mathlib.Core.Bool.{false}
use mathlib.Core.List.{List, [], ◌∷◌, ◌++◌, map}
use mathlib.Core.Option.{none}
use lib.ListN.{length, take, drop, get_or, set, length-set, length-append, length-take, length-drop, drop_of_length-le}
use lib.Seq.{take_all, drop-cons, drop-drop}
use lib.Dec.{T, eqb}
use borrow.Author.Tests.{eqb-false}
use Rattle.lists.specs.Lists.{every}
use Rattle.lists.proofs.Bools.{by_cases}
use Rattle.formats.specs.Tokens.{Token}
use Rattle.formats.specs.Kinds.{Parts, is_semicolon, parts_of, section_of}
use Rattle.formats.specs.Accept.{split, parts_in, sections_in}
use Rattle.formats.specs.WellFormed.{items_in_all}
use Rattle.formats.proofs.ItemCount.{items-most}
use Rattle.marks.specs.declared.Mark.{Mark}
use Rattle.marks.specs.Marks.{tokens_in}
use Rattle.writing.specs.Put.{Put, Rest}
use Rattle.writing.proofs.Laws.{rest-start, rest_put, rest-done}
use Rattle.bodies.specs.Sections.{first_section, later_sections, SectionEnd}
use Rattle.marks.proofs.Buffer.{tokens-drop, tokens-take, tokens-length}
use Rattle.bodies.proofs.Endings.{split-first}
use Rattle.drafting.specs.declared.Draft.{Draft}
use Rattle.drafting.specs.Draft.{body_words, DraftOf, Drafted, item_words, AllDrafted, Lexes, is_read}
use Rattle.drafting.proofs.Drafting.{body-length}
use Rattle.drafting.proofs.Digits.{read_all, read-drop, read_take}

abbrev no_parts : Parts
no_parts = record { colour = 0; condition = none; body = [] }

-- ---- the items' words of all sections
items-length : (ps : List Parts) → length (item_words ps) ≡ 2 * items_in_all (map section_of ps)
unfolding item_words items_in_all section_of
items-length [] = refl
items-length (p ∷ ps) = omega (arith, length-append (body_words p.body) (item_words ps), body-length p.body, items-length ps)

pub items-room : (code : List ℕ) → length code ≤ 254 → length (item_words (parts_in code)) ≤ 508
unfolding sections_in
items-room code h = omega (arith, items-length (parts_in code), items-most code)

-- ---- one section more
drafted-next : (ps : List Parts) (ds : List Draft) (k : ℕ) (d : Draft) → Drafted (take k ps) ds → k < length ps → k < length ds → DraftOf (get_or ps k no_parts) d
    → Drafted (take (suc k) ps) (set ds k d)
drafted-next [] ds k d a h l x = absurd (omega arith)
drafted-next (p ∷ ps) [] k d a h l x = absurd (omega arith)
drafted-next (p ∷ ps) (e ∷ ds) zero d a h l x = (x, tt)
drafted-next (p ∷ ps) (e ∷ ds) (suc k) d a h l x = (a.0, drafted-next ps ds k d a.1 (omega arith) (omega arith) x)

first-few : (ts : List Token) → first_section ts ≤ length ts
unfolding first_section
first-few [] = omega arith
first-few (t ∷ ts) = let r = first-few ts in by_cases (is_semicolon t) (λ e. rw e (omega arith)) (λ e. rw e (omega arith))

-- what the loop keeps: the sections from k on are those of the tokens from `first` on
pub record Sectioning (code : List ℕ) (words : List Mark) (old room : List ℕ) (ds : List Draft) (n first at k : ℕ) : Type 0 where
  pub small : length code ≤ 254
  pub words_small : length words ≤ 254
  pub few : n ≤ 4
  pub lexes : Lexes code words n
  pub inside : k ≤ n
  pub size : length ds ≡ 4
  pub wide : length old ≡ 508
  pub place : k < n → first ≤ length words
  pub tokens : k < n → drop k (parts_in code) ≡ map parts_of (split (tokens_in code (drop (first) words)))
  pub done : Drafted (take k (parts_in code)) ds
  pub rest : Rest old 0 (item_words (parts_in code)) room at (item_words (drop k (parts_in code)))

pub sectioning-start : (code : List ℕ) (words : List Mark) (old : List ℕ) (ds : List Draft) (n : ℕ)
    → (length code ≤ 254) × (length words ≤ 254) × (length old ≡ 508) × (length ds ≡ 4) × (n ≤ 4) → Lexes code words n → Sectioning code words old old ds n 0 0 0
unfolding parts_in
sectioning-start code words old ds n h l = record {
  small = h.0;
  words_small = h.1;
  few = h.4;
  lexes = l;
  inside = omega arith;
  size = h.3;
  wide = h.2;
  place = λ t. omega arith;
  tokens = λ t. rw l.same;
  done = tt;
  rest = rest-start old 0 _;
}

module _ {code : List ℕ} {words : List Mark} {old room : List ℕ} {ds : List Draft} {n first at k : ℕ} (inv : Sectioning code words old room ds n first at k) (less : k < n) where
  abbrev ps : List Parts
  ps = parts_in code

  abbrev ts : List Token
  ts = tokens_in code (drop (first) words)

  -- the part of the buffer that is left
  abbrev left : List Mark
  left = take (length words - first) (drop (first) words)

  left-all : left ≡ drop (first) words
  left-all = take_all (length words - first) (drop (first) words) (rw (length-drop (first) words) (omega arith))

  more : k < length ps
  more = omega (arith, inv.lexes.many)

  parted : drop k ps ≡ parts_of (take (first_section ts) ts) ∷ map parts_of (later_sections (first_section ts) ts)
  parted = inv.tokens less ∙ rw (split-first ts)

  here : get_or ps k no_parts ≡ parts_of (take (first_section ts) ts)
  here = ap (λ (qs : List Parts). get_or qs 0 no_parts) (sym (drop-cons ps k no_parts more) ∙ parted)

  later : drop (suc k) ps ≡ map parts_of (later_sections (first_section ts) ts)
  later = ap (λ (qs : List Parts). drop 1 qs) (sym (drop-cons ps k no_parts more) ∙ parted)

  words-here : item_words (drop k ps) ≡ body_words (parts_of (take (first_section ts) ts)).body ++ item_words (drop (suc k) ps)
  unfolding item_words
  words-here = rw (drop-cons ps k no_parts more, here)

  next-room : at + length (body_words (parts_of (take (first_section ts) ts)).body) ≤ length room
  next-room =
      let l = ap length words-here ∙ length-append (body_words (parts_of (take (first_section ts) ts)).body) (item_words (drop (suc k) ps)) in
      omega (arith, l, inv.rest.ends, inv.rest.size, inv.wide, items-room code inv.small)

  -- the sections behind it, where there are any
  later-split : suc k < n → eqb (first_section ts) (length ts) ≡ false
  unfolding later_sections
  later-split l = by_cases (eqb (first_section ts) (length ts))
      (λ e. let none = ap length (rw e at later) in absurd (omega (arith, none, length-drop (suc k) ps, inv.lexes.many)))
      (λ e. e)

  behind : (s : ℕ) → drop (suc s) ts ≡ tokens_in code (drop ((first + (s + 1))) words)
  behind s =
      let m : first + (s + 1) ≡ first + suc s = omega arith in
      rw (m, tokens-drop code words (first + suc s), tokens-drop code words first) (drop-drop (suc s) first (tokens_in code words))

  tokens-behind : suc k < n → drop (suc k) ps ≡ map parts_of (split (tokens_in code (drop (first + (first_section ts + 1)) words)))
  unfolding later_sections
  tokens-behind l = later ∙ rw (later-split l, behind (first_section ts))

  place-behind : suc k < n → first + (first_section ts + 1) ≤ length words
  place-behind l =
      omega (arith, eqb-false (first_section ts) (length ts) (later-split l), first-few ts, tokens-length code (drop (first) words), length-drop (first) words, inv.place less)

  module _ (size : ℕ) (e : SectionEnd left size) where
    same : size ≡ first_section ts
    same = e.same code ∙ rw left-all

    part : tokens_in code (take (size) left) ≡ take (first_section ts) ts
    part = tokens-take code left size ∙ rw (left-all, same)

    pub next-size : size ≤ 254
    next-size = omega (arith, same, first-few ts, tokens-length code (drop first words), length-drop first words, inv.words_small)

    -- what drafting the next section asks
    pub next-asks : ((length code ≤ 254) × (length (take size left) ≤ 254) × (length room ≤ 508))
        × ((at + length (body_words (parts_of (tokens_in code (take (size) left))).body) ≤ length room) × T (every is_read (tokens_in code (take (size) left))))
    next-asks = (
      (inv.small, omega (arith, length-take (size) left, next-size), omega (arith, inv.rest.size, inv.wide)),
      (rw part next-room, read_take code left size (rw left-all (read-drop code words first (rw inv.lexes.same (read_all code))))),
    )

    module _ (d : Draft) (out : List ℕ) (drafted : DraftOf (parts_of (tokens_in code (take (size) left))) d)
        (put : Put room at (body_words (parts_of (tokens_in code (take (size) left))).body) (at + 2 * d.body.items) out) where
      pub next-items : at + 2 * d.body.items ≤ 508
      next-items = omega (arith, put.next, next-asks.1.0, inv.rest.size, inv.wide)

      pub sectioning-step : Sectioning code words old out (set ds k d) n (first + (size + 1)) (at + 2 * d.body.items) (k + 1)
      sectioning-step = rw (add-one k) (record {
        small = inv.small;
        words_small = inv.words_small;
        few = inv.few;
        lexes = inv.lexes;
        inside = omega arith;
        size = length-set ds k d ∙ inv.size;
        wide = inv.wide;
        place = λ l. rw same (place-behind l);
        tokens = λ l. rw same (tokens-behind l);
        done = drafted-next ps ds k d inv.done more (omega (arith, inv.size, inv.few)) (rw (here, ← part) drafted);
        rest = rest_put (rw words-here at inv.rest) (rw part at put);
      })

pub sectioning-end : {code : List ℕ} {words : List Mark} {old room : List ℕ} {ds : List Draft} {n first at k : ℕ} → Sectioning code words old room ds n first at k → n ≤ k
    → AllDrafted (parts_in code) old at room ds
unfolding item_words
sectioning-end {code} {k = k} inv h =
    let ps : List Parts = parts_in code in
    let all : k ≡ length ps = omega (arith, inv.inside, inv.lexes.many) in
    record {
      each = rw (take_all k ps (omega arith)) at inv.done;
      put = rest-done (rw (drop_of_length-le ps {i = k} (omega arith)) at inv.rest);
    }
