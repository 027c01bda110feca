-- What a plain code is accepted as: one number section of places and a point, without a condition.
-- Assumes nothing.
use mathlib.Core.Path.{◌≡◌, refl, sym, ap, subst, ◌∙◌}
use Prim.Native.Nat.{ℕ, suc}
use mathlib.Core.Bool.{Bool, true, false, cond, ◌&&◌, ◌||◌}
use mathlib.Core.List.{List, [], ◌∷◌, map}
use mathlib.Core.Option.{none}
use borrow.Author.Tests.{eqb-true}
use lib.Dec.{T, eqb}
use Rattle.lists.specs.Lists.{every, any}
use Rattle.lists.proofs.Bools.{no, by_cases, cond_both, and_left, and_right, T_true, every-head, every-tail}
use Rattle.lists.proofs.Counts.{every-weaker}
use Rattle.calendar.specs.Names.{units}
use Rattle.formats.specs.Tokens.{Token, place, point, comma, Place, zero_place, hash_place, space_place, read, place_step, first_rows, first_in, step_by, step_at, Placed, good, onto, after_step, lex_from, lex}
use Rattle.formats.specs.Items as item
use Rattle.formats.specs.Items.{Item, item_row, Kind, text_kind, general_kind, date_kind, scientific_kind, fraction_kind, number_kind, same_kind, kind_from, kind_of, Section, is_unit, settled_item, settled_from, settled, Run, nearer, run_of}
use Rattle.formats.specs.Kinds.{Parts, parts_of, after_colour, is_semicolon, token_makes, body_kind, token_items, plain_items, body_items, last_fill, condition_of, section_of}
use Rattle.formats.specs.WellFormed.{well_formed}
use Rattle.formats.specs.Accept.{placed_of, tokens_of, joined, split, parts_in, sections_in, Accepted, sections, refusal, accept}
use Rattle.formats.proofs.FormedKinds.{kind-of-body}
use Rattle.formats.proofs.Accepted.{accepted-sections, accepted-formed}
use Rattle.monotone.specs.Codes.{is_plain, is_nought, is_accepted, plain_code}

-- the five units of plain codes
plain-case : (P : ℕ → Type 0) → P 48 → P 35 → P 63 → P 46 → P 44 → (u : ℕ) → T (is_plain u) → P u
unfolding is_plain units any
plain-case P a b c d e u t =
    let is : (n : ℕ) → P n → eqb u n ≡ true → P u = λ n p h. subst P (sym (eqb-true u n h)) p in
    by_cases (eqb u 48) (is 48 a)
    (λ not_a. by_cases (eqb u 35) (is 35 b)
    (λ not_b. by_cases (eqb u 63) (is 63 c)
    (λ not_c. by_cases (eqb u 46) (is 46 d)
    (λ not_d. by_cases (eqb u 44) (is 44 e)
    (λ not_e. absurd (rw (not_a, not_b, not_c, not_d, not_e) at t))))))

-- each is a token
plain_token : ℕ → Token
plain_token u =
    cond (eqb u 48) (place zero_place) (cond (eqb u 35) (place hash_place) (cond (eqb u 63) (place space_place) (cond (eqb u 46) point comma)))

token-case : (P : Token → Type 0) → ((p : Place) → P (place p)) → P point → P comma → (u : ℕ) → T (is_plain u) → P (plain_token u)
unfolding plain_token
token-case P f g h u t = plain-case (λ (v : ℕ). P (plain_token v)) (f zero_place) (f hash_place) (f space_place) g h u t

abbrev plain_tokens : List ℕ → List Token
plain_tokens us = map plain_token us

placed_from : ℕ → List ℕ → List Placed
placed_from k [] = []
placed_from k (u ∷ us) = record { token = plain_token u; start = k } ∷ placed_from (suc k) us

-- no solidus stands behind a place
place-alone : (p : Place) (us : List ℕ) → T (every is_plain us) → place_step p us ≡ read (place p) 0
unfolding place_step
place-alone p [] t = refl
place-alone p (u ∷ us) t =
    plain-case (λ (v : ℕ). place_step p (v ∷ us) ≡ read (place p) 0) refl refl refl refl refl u (every-head is_plain u us t)

step-plain : (u : ℕ) (us : List ℕ) → T (is_plain u) → T (every is_plain us) → step_at u us ≡ read (plain_token u) 0
unfolding step_at step_by first_in first_rows plain_token
step-plain u us h t =
    plain-case (λ (v : ℕ). step_at v us ≡ read (plain_token v) 0) (place-alone zero_place us t) (place-alone hash_place us t) (place-alone space_place us t)
    refl refl u h

lexed : (k : ℕ) (us : List ℕ) → T (every is_plain us) → lex_from k 0 us ≡ good (placed_from k us)
unfolding lex_from after_step onto placed_from
lexed k [] t = refl
lexed k (u ∷ us) t =
    let rest : T (every is_plain us) = every-tail is_plain u us t in
    rw (step-plain u us (every-head is_plain u us t) rest, lexed (suc k) us rest)

tokens-placed : (k : ℕ) (us : List ℕ) → tokens_of (placed_from k us) ≡ plain_tokens us
unfolding tokens_of placed_from
tokens-placed k [] = refl
tokens-placed k (u ∷ us) = ap (λ (ts : List Token). plain_token u ∷ ts) (tokens-placed (suc k) us)

-- one section, that has no heading
abbrev plain_parts : List ℕ → Parts
plain_parts us = record { colour = 0; condition = none; body = plain_tokens us }

split_plain : (us : List ℕ) → T (every is_plain us) → split (plain_tokens us) ≡ plain_tokens us ∷ []
unfolding split joined
split_plain [] t = refl
split_plain (u ∷ us) t =
    let ts : List Token = plain_tokens us in
    rw (split_plain us (every-tail is_plain u us t))
    (token-case (λ (v : Token). cond (is_semicolon v) ([] ∷ ts ∷ []) (joined v (ts ∷ [])) ≡ (v ∷ ts) ∷ []) (λ p. refl) refl refl u (every-head is_plain u us t))

parts-plain : (us : List ℕ) → T (every is_plain us) → parts_of (plain_tokens us) ≡ plain_parts us
unfolding parts_of after_colour
parts-plain [] t = refl
parts-plain (u ∷ us) t =
    let ts : List Token = plain_tokens us in
    token-case (λ (v : Token). parts_of (v ∷ ts) ≡ record { colour = 0; condition = none; body = v ∷ ts }) (λ p. refl) refl refl u (every-head is_plain u us t)

-- no token makes it another kind than a number, and a `0` makes it one
makes_none : (k : Kind) → same_kind k number_kind ≡ false → (us : List ℕ) → T (every is_plain us) → any (token_makes k) (plain_tokens us) ≡ false
unfolding any token_makes
makes_none k other [] t = refl
makes_none k other (u ∷ us) t =
    rw (makes_none k other us (every-tail is_plain u us t))
    (token-case (λ (v : Token). cond (token_makes k v) true false ≡ false) (λ p. rw other) refl refl u (every-head is_plain u us t))

makes-number : (us : List ℕ) → T (every is_plain us) → any is_nought us ≡ true → any (token_makes number_kind) (plain_tokens us) ≡ true
unfolding any token_makes plain_token
makes-number [] t e = no e
makes-number (u ∷ us) t e =
    by_cases (eqb u 48) (λ h. rw h)
    (λ h.
    rw (makes-number us (every-tail is_plain u us t) (rw h at e)) (cond_both (λ (b : Bool). b ≡ true) (token_makes number_kind (plain_token u)) refl refl))

body-plain : (us : List ℕ) → T (every is_plain us) → any is_nought us ≡ true → body_kind (plain_tokens us) ≡ number_kind
unfolding body_kind kind_from
body-plain us t e =
    rw (
      makes_none text_kind refl us t,
      makes_none general_kind refl us t,
      makes_none date_kind refl us t,
      makes_none scientific_kind refl us t,
      makes_none fraction_kind refl us t,
      makes-number us t e,
    )

-- its items are places and a point, which nothing changes
abbrev plain_items_of : List ℕ → List Item
plain_items_of us = plain_items (plain_tokens us)

fills_plain : (us : List ℕ) → T (every is_plain us) → last_fill (plain_items_of us) ≡ plain_items_of us
unfolding plain_items token_items last_fill
fills_plain [] t = refl
fills_plain (u ∷ us) t =
    let rest = fills_plain us (every-tail is_plain u us t) in
    token-case (λ (v : Token). last_fill (plain_items (v ∷ plain_tokens us)) ≡ plain_items (v ∷ plain_tokens us)) (λ p. rw rest) (rw rest) rest u
    (every-head is_plain u us t)

settled_plain : (r : Run) (us : List ℕ) → T (every is_plain us) → settled_from r (plain_items_of us) ≡ plain_items_of us
unfolding plain_items token_items settled_from settled_item nearer run_of
settled_plain r [] t = refl
settled_plain r (u ∷ us) t =
    let rest = settled_plain r us (every-tail is_plain u us t) in
    token-case (λ (v : Token). settled_from r (plain_items (v ∷ plain_tokens us)) ≡ plain_items (v ∷ plain_tokens us)) (λ p. rw rest) (rw rest) rest u
    (every-head is_plain u us t)

-- a place or the point
abbrev pub is_piece : Item → Bool
is_piece i = item.is_place i || item.is_point i

-- a place `0`
abbrev pub is_zero_place : Item → Bool
is_zero_place i = item.is_place i && eqb (item_row i).variant 0

items-pieces : (us : List ℕ) → T (every is_plain us) → T (every is_piece (plain_items_of us))
unfolding plain_items token_items every
items-pieces [] t = tt
items-pieces (u ∷ us) t =
    let rest = items-pieces us (every-tail is_plain u us t) in
    token-case (λ (v : Token). T (every is_piece (plain_items (v ∷ plain_tokens us)))) (λ p. rest) rest rest u (every-head is_plain u us t)

items-nought : (us : List ℕ) → T (every is_plain us) → any is_nought us ≡ true → any is_zero_place (plain_items_of us) ≡ true
unfolding plain_items token_items any plain_token
items-nought [] t e = no e
items-nought (u ∷ us) t e =
    by_cases (eqb u 48) (λ h. rw h)
    (λ h.
    let rest = items-nought us (every-tail is_plain u us t) (rw h at e) in
    token-case (λ (v : Token). any is_zero_place (plain_items (v ∷ plain_tokens us)) ≡ true) (λ p. rw rest (cond_both (λ (b : Bool). b ≡ true) (is_zero_place (item.place p)) refl refl)) rest rest u
    (every-head is_plain u us t))

-- the section of a plain code
pub record PlainSection (s : Section) : Type 0 where
  pub bare : s.condition ≡ none
  pub kind : kind_of s ≡ number_kind
  pub pieces : T (every is_piece s.items)
  pub nought : any is_zero_place s.items ≡ true

section-plain : (us : List ℕ) → T (every is_plain us) → any is_nought us ≡ true → PlainSection (section_of (plain_parts us))
unfolding section_of condition_of kind_of body_items settled
section-plain us t e =
    let kind : body_kind (plain_tokens us) ≡ number_kind = body-plain us t e in
    let is : settled (last_fill (body_items (plain_tokens us))) ≡ plain_items_of us = rw (kind, fills_plain us t, settled_plain item.no_run us t) in
    record {
      bare = refl;
      kind = kind-of-body (plain_tokens us) ∙ kind;
      pieces = rw is (items-pieces us t);
      nought = rw is (items-nought us t e);
    }

sections-plain : (us : List ℕ) → T (every is_plain us) → sections_in us ≡ section_of (plain_parts us) ∷ []
unfolding sections_in parts_in lex placed_of
sections-plain us t = rw (lexed 0 us t, tokens-placed 0 us, split_plain us t, parts-plain us t)

-- what a plain code is accepted as
pub record PlainCode (code : List ℕ) : Type 0 where
  pub section : Section
  pub only : sections_in code ≡ section ∷ []
  pub accepted : accept code ≡ sections (section ∷ [])
  pub formed : T (well_formed (section ∷ []))
  pub plain : PlainSection section

-- an accepted code is accepted as its sections
accepted-as : (code : List ℕ) → T (is_accepted (accept code)) → accept code ≡ sections (sections_in code)
unfolding is_accepted
accepted-as code t = by_answer (accept code) refl t
  where
    by_answer : (a : Accepted) → accept code ≡ a → T (is_accepted a) → accept code ≡ sections (sections_in code)
    by_answer (sections ss) e t = e ∙ ap sections (sym (accepted-sections code ss e).1)
    by_answer (refusal a k) e t = absurd t

plain-unit : (u : ℕ) → T (is_plain u) → T (is_unit u)
plain-unit = plain-case (λ (u : ℕ). T (is_unit u)) tt tt tt tt tt

pub plain_code_lem : (code : List ℕ) → T (plain_code code) → PlainCode code
unfolding plain_code
plain_code_lem code t =
    let all : T (every is_plain code) = search (and_left, and_right) in
    let one : T (any is_nought code) = search (and_left, and_right) in
    let taken : T (is_accepted (accept code)) = search (and_left, and_right) in
    let s : Section = section_of (plain_parts code) in
    let only : sections_in code ≡ s ∷ [] = sections-plain code all in
    let accepted : accept code ≡ sections (s ∷ []) = accepted-as code taken ∙ ap sections only in
    record {
      section = s;
      only = only;
      accepted = accepted;
      formed = accepted-formed code (s ∷ []) (every-weaker is_plain is_unit plain-unit code all) accepted;
      plain = section-plain code all (T_true (any is_nought code) one);
    }
