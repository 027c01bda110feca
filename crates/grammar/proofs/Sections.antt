-- Level 2, sections: a section passes the tests for its place exactly when the rule for that place derives it.
-- Assumes nothing.
use Prim.Native.Nat.{ℕ, suc, ◌≤◌}
use native.Mathlib.Omega.{arith}
use mathlib.Core.Path.{◌≡◌, refl, sym, subst, ◌∙◌}
use mathlib.Core.Bool.{Bool, true, false, not, ◌&&◌, ◌||◌, and-false}
use mathlib.Core.List.{List, [], ◌∷◌}
use mathlib.Core.Option.{Option, none, some}
use lib.ListN.{length}
use lib.Dec.{T, leb, ltb, eqb}
use borrow.Author.Tests.{leb-true, le-leb, eqb-true, not-true}
use Rattle.lists.specs.Lists.{every, is_some}
use Rattle.lists.proofs.Bools.{no, and_parts, by_cases, and_left, and_right, T_true, true-T}
use Rattle.formats.specs.Tokens.{Token, colour, condition, Written}
use Rattle.formats.specs.Items.{Kind, text_kind, general_kind, date_kind, scientific_kind, fraction_kind, number_kind, literal_kind, same_kind}
use Rattle.formats.specs.Kinds.{is_colour, is_condition, no_bracket, Parts, colour_in, condition_in, after_colour, parts_of, body_kind, condition_of, section_of, fits}
use Rattle.formats.specs.Where.{implies, stands_at}
use Rattle.formats.specs.Limits.{section_within, written_within, within_limits}
use Rattle.formats.proofs.Formed.{kind-of-section}
use Rattle.grammar.specs.Bodies.{Literals, NFGeneral, NFNumber, NFScientific, NFFraction, NFDateTime, NFText}
use Rattle.grammar.specs.Codes as codes
use Rattle.grammar.specs.Codes.{OptColor, no-color, color, NFPartCond, OptCond, no-cond, some-cond, NFAnyBy, any-number, any-scientific, any-fraction, any-text, any-date, any-general, any-literal, NFAnyNoCond, Fourth, fourth-text, fourth-general, fourth-literal}
use Rattle.grammar.proofs.Tests.{every-parts}
use Rattle.grammar.proofs.Quiet.{known}
use Rattle.grammar.proofs.Fronts.{is_shown}
use Rattle.grammar.proofs.Facts.{Fitting, fitting, fits-fitting, within-fitting}
use Rattle.grammar.proofs.Plain.{views-body}
use Rattle.grammar.proofs.PlainBodies.{body-plain, plain_token, NoSemicolon, literals-facts, general-facts, text-facts, derive-literals, literals-fit, derive-general, general-fits, derive-text, text-fits}
use Rattle.grammar.proofs.Numbers.{num-counted}
use Rattle.grammar.proofs.NumberBodies.{derive-number, number_fits}
use Rattle.grammar.proofs.Scientific.{scientific-summed}
use Rattle.grammar.proofs.ScientificBodies.{derive-scientific, scientific-fits}
use Rattle.grammar.proofs.FractionTokens.{fraction-told}
use Rattle.grammar.proofs.FractionBodies.{derive-fraction, fraction-fits}
use Rattle.grammar.proofs.DateBodies.{date-tokens, derive-date, date-fits}

-- ---- bodies

-- the rule for a body of each kind
abbrev pub Body : Kind → List Token → Type 0
Body text_kind ts = NFText ts
Body general_kind ts = NFGeneral ts
Body date_kind ts = NFDateTime ts
Body scientific_kind ts = NFScientific ts
Body fraction_kind ts = NFFraction ts
Body number_kind ts = NFNumber ts
Body literal_kind ts = Literals ts

derive-body : (k : Kind) (ts : List Token) → NoSemicolon ts → every is_shown ts ≡ true → body_kind ts ≡ k → Fitting ts → Body k ts
derive-body text_kind ts s w = derive-text ts s
derive-body general_kind ts s w = derive-general ts s
derive-body date_kind ts s w = derive-date ts s
derive-body scientific_kind ts s w = derive-scientific ts s
derive-body fraction_kind ts s w = derive-fraction ts s w
derive-body number_kind ts s w = derive-number ts s
derive-body literal_kind ts s w = derive-literals ts s

body-fits : (k : Kind) (ts : List Token) → Body k ts → (body_kind ts ≡ k) × Fitting ts
body-fits text_kind = text-fits
body-fits general_kind = general-fits
body-fits date_kind = date-fits
body-fits scientific_kind = scientific-fits
body-fits fraction_kind = fraction-fits
body-fits number_kind = number_fits
body-fits literal_kind = literals-fit

-- ---- heads

pub data Colored : ℕ → List Token → List Token → Type 0 where
  uncolored : {ts : List Token} → Colored 0 ts ts
  colored : {n : ℕ} {ts : List Token} → 1 ≤ n → Colored n (colour n ∷ ts) ts

pub data Conditioned : Option Written → List Token → List Token → Type 0 where
  unconditioned : {ts : List Token} → Conditioned none ts ts
  conditioned : {w : Written} {ts : List Token} → Conditioned (some w) (condition w ∷ ts) ts

-- a section and its parts
data Headed (s : List Token) (p : Parts) : Type 0 where
  headed : {us : List Token} → Colored p.colour s us → Conditioned p.condition us p.body → Headed s p

after-headed : {s : List Token} (c : ℕ) (ts : List Token) → Colored c s ts → Headed s (after_colour c ts)
unfolding after_colour condition_in
after-headed c [] h = headed h unconditioned
after-headed {s} c (t ∷ ts) h =
    by_cases (is_condition t)
    (λ e.
    let (w, is) = (known t).2 e in
    subst (λ (x : Token). Colored c s (x ∷ ts) → Headed s (after_colour c (x ∷ ts))) (sym is) (λ g. headed g conditioned) h)
    (λ e. rw e (headed h unconditioned))

parts-headed : (s : List Token) → every is_shown s ≡ true → Headed s (parts_of s)
unfolding parts_of colour_in every
parts-headed [] e = after-headed 0 [] uncolored
parts-headed (t ∷ ts) e =
    by_cases (is_colour t)
    (λ h. subst (λ (x : Token). every is_shown (x ∷ ts) ≡ true → Headed (x ∷ ts) (parts_of (x ∷ ts))) (sym ((known t).1 h)) (from-colour (colour_in t)) e)
    (λ h. rw h (after-headed 0 (t ∷ ts) uncolored))
  where
    from-colour : (n : ℕ) → every is_shown (colour n ∷ ts) ≡ true → Headed (colour n ∷ ts) (parts_of (colour n ∷ ts))
    from-colour n e = after-headed n ts (colored (leb-true 1 n (every-parts is_shown (colour n) ts e).0))

-- what every token of a section passes, every token of its body does
headed-every : (f : Token → Bool) {c : ℕ} {o : Option Written} {s us vs : List Token} → Colored c s us → Conditioned o us vs → every f s ≡ true → every f vs ≡ true
headed-every f uncolored unconditioned e = e
headed-every f {vs = vs} uncolored (conditioned {w = w}) e = (every-parts f (condition w) vs e).1
headed-every f {vs = vs} (colored {n = n} h) unconditioned e = (every-parts f (colour n) vs e).1
headed-every f {us = us} {vs = vs} (colored {n = n} h) (conditioned {w = w}) e = (every-parts f (condition w) vs (every-parts f (colour n) us e).1).1

opt-color : {c : ℕ} {s us : List Token} → Colored c s us → OptColor s us
opt-color uncolored = no-color
opt-color (colored h) = color

part-cond : {w : Written} {us vs : List Token} → Conditioned (some w) us vs → written_within (some w) ≡ true → NFPartCond us vs
unfolding written_within
part-cond {w} conditioned e =
    let (a, b) = and_parts (leb (length w.whole) 9) (leb (length w.decimals) 6) e in
    codes.cond (leb-true (length w.whole) 9 a) (leb-true (length w.decimals) 6 b)

-- ---- where a section may stand, by its colour, its condition and its kind

unfoldable pub stands_by : ℕ → ℕ → ℕ → Bool → Kind → Bool
stands_by n i c d k =
    implies (same_kind k text_kind) (eqb (suc i) n)
    && implies (eqb n 1 && d) (same_kind k general_kind)
    && implies d (ltb i 2)
    && implies (same_kind k text_kind) (not d)
    && implies (eqb i 3) (same_kind k text_kind || same_kind k general_kind || same_kind k literal_kind)
    && implies (eqb i 3) (eqb c 0 && not d)

some-condition : (o : Option Written) → is_some (condition_of o) ≡ is_some o
unfolding is_some condition_of
some-condition none = refl
some-condition (some w) = refl

stands_by_lem : (n i : ℕ) (p : Parts) → stands_at n i (section_of p) ≡ stands_by n i p.colour (is_some p.condition) (body_kind p.body)
unfolding stands_at stands_by section_of
stands_by_lem n i p = rw (kind-of-section p, some-condition p.condition)

-- ---- a section passes the tests

pub record Passes (n i : ℕ) (s : List Token) : Type 0 where
  pub plain : NoSemicolon s
  pub fitted : fits (parts_of s) ≡ true
  pub stands : stands_at n i (section_of (parts_of s)) ≡ true
  pub within : within_limits (parts_of s) ≡ true

-- what a section that passes is, in its parts
pub data Derived (n i : ℕ) (s : List Token) : Type 0 where
  derived : {c : ℕ} {o : Option Written} {us vs : List Token} (k : Kind) → Colored c s us → Conditioned o us vs → Body k vs → written_within o ≡ true
      → stands_by n i c (is_some o) k ≡ true → Derived n i s

pub passed : {n i : ℕ} {s : List Token} → every is_shown s ≡ true → Passes n i s → Derived n i s
unfolding within_limits
passed {n} {i} {s} shown p = from (parts-headed s shown)
  where
    from : Headed s (parts_of s) → Derived n i s
    from (headed c d) =
        let q = parts_of s in
        let (w, l) = and_parts (written_within q.condition) (section_within (section_of q)) p.within in
        derived (body_kind q.body) c d (derive-body (body_kind q.body) q.body (headed-every plain_token c d p.plain) (headed-every is_shown c d shown) refl (fitting q p.fitted l)) w
        (sym (stands_by_lem n i q) ∙ p.stands)

-- "only the first two" have a condition; "A text section has no condition."
early-condition : (n i c : ℕ) (k : Kind) → stands_by n i c true k ≡ true → ltb i 2 ≡ true
unfolding stands_by
early-condition n i c k e = let all : T (stands_by n i c true k) = true-T e in T_true (ltb i 2) (search (and_left, and_right) depth 8)

text-uncond : {P : Type 0} (n i c : ℕ) → stands_by n i c true text_kind ≡ true → P
unfolding stands_by
text-uncond n i c e =
    let all : T (stands_by n i c true text_kind) = true-T e in
    let never : T false = search (and_left, and_right) depth 8 in
    absurd never

-- "text only last"
text-last : (n i c : ℕ) (d : Bool) → stands_by n i c d text_kind ≡ true → eqb (suc i) n ≡ true
unfolding stands_by
text-last n i c d e = let all : T (stands_by n i c d text_kind) = true-T e in T_true (eqb (suc i) n) (search (and_left, and_right) depth 8)

-- the fourth has no colour
coloured-fourth : {P : Type 0} (c : ℕ) (d : Bool) (k : Kind) → 1 ≤ c → stands_by 4 3 c d k ≡ true → P
unfolding stands_by
coloured-fourth c d k h e =
    let all : T (stands_by 4 3 c d k) = true-T e in
    let none-there : c ≡ 0 = eqb-true c 0 (T_true (eqb c 0) (search (and_left, and_right) depth 8)) in
    absurd (omega arith)

opt-cond : (n i c : ℕ) (k : Kind) {o : Option Written} {us vs : List Token} → Conditioned o us vs → written_within o ≡ true
    → stands_by n i c (is_some o) k ≡ true → OptCond (ltb i 2) us vs
unfolding is_some
opt-cond n i c k unconditioned w e = no-cond
opt-cond n i c k conditioned w e = some-cond (early-condition n i c k e) (part-cond conditioned w)

pub any_of : (n i : ℕ) {s : List Token} → Derived n i s → NFAnyBy (eqb (suc i) n) (ltb i 2) s
unfolding is_some
any_of n i (derived {c = h} number_kind c d b w e) = any-number (opt-color c) (opt-cond n i h number_kind d w e) b
any_of n i (derived {c = h} scientific_kind c d b w e) = any-scientific (opt-color c) (opt-cond n i h scientific_kind d w e) b
any_of n i (derived {c = h} fraction_kind c d b w e) = any-fraction (opt-color c) (opt-cond n i h fraction_kind d w e) b
any_of n i (derived {c = h} text_kind c unconditioned b w e) = any-text (text-last n i h false e) (opt-color c) b
any_of n i (derived {c = h} text_kind c conditioned b w e) = text-uncond n i h e
any_of n i (derived {c = h} date_kind c d b w e) = any-date (opt-color c) (opt-cond n i h date_kind d w e) b
any_of n i (derived {c = h} general_kind c d b w e) = any-general (opt-color c) (opt-cond n i h general_kind d w e) b
any_of n i (derived {c = h} literal_kind c d b w e) = any-literal (opt-color c) (opt-cond n i h literal_kind d w e) b

-- a body without a condition
uncond-of : {s us : List Token} (k : Kind) → OptColor s us → Body k us → NFAnyNoCond s
uncond-of number_kind c b = any-number c no-cond b
uncond-of scientific_kind c b = any-scientific c no-cond b
uncond-of fraction_kind c b = any-fraction c no-cond b
uncond-of text_kind c b = any-text refl c b
uncond-of date_kind c b = any-date c no-cond b
uncond-of general_kind c b = any-general c no-cond b
uncond-of literal_kind c b = any-literal c no-cond b

pub fourth-of : {s : List Token} → Derived 4 3 s → Fourth s
unfolding is_some stands_by
fourth-of (derived {c = n} {o = o} k (colored h) d b w e) = coloured-fourth n (is_some o) k h e
fourth-of (derived k uncolored conditioned b w e) = no (early-condition 4 3 0 k e)
fourth-of (derived number_kind uncolored unconditioned b w e) = no e
fourth-of (derived scientific_kind uncolored unconditioned b w e) = no e
fourth-of (derived fraction_kind uncolored unconditioned b w e) = no e
fourth-of (derived text_kind uncolored unconditioned b w e) = fourth-text b
fourth-of (derived date_kind uncolored unconditioned b w e) = no e
fourth-of (derived general_kind uncolored unconditioned b w e) = fourth-general b
fourth-of (derived literal_kind uncolored unconditioned b w e) = fourth-literal b

pub one_of : {s : List Token} → Derived 1 0 s → codes.All s
unfolding is_some stands_by
one_of (derived k c unconditioned b w e) = codes.all_one (uncond-of k (opt-color c) b)
one_of (derived number_kind c conditioned b w e) = no e
one_of (derived scientific_kind c conditioned b w e) = no e
one_of (derived fraction_kind c conditioned b w e) = no e
one_of (derived text_kind c conditioned b w e) = no e
one_of (derived date_kind c conditioned b w e) = no e
one_of (derived general_kind c conditioned b w e) = codes.all-condition (opt-color c) (part-cond conditioned w) b
one_of (derived literal_kind c conditioned b w e) = no e

-- ---- from the rules to the tests

body-tokens : (k : Kind) (ts : List Token) → Body k ts → NoSemicolon ts
body-tokens text_kind ts d = body-plain ts (views-body (text-facts d).0)
body-tokens general_kind ts d = body-plain ts (views-body (general-facts d).0)
body-tokens date_kind ts d = body-plain ts (date-tokens ts d)
body-tokens scientific_kind ts d = body-plain ts (views-body (scientific-summed d.num).views)
body-tokens fraction_kind ts d = body-plain ts (views-body (fraction-told d.num).0.0)
body-tokens number_kind ts d = body-plain ts (views-body (num-counted d.num).views)
body-tokens literal_kind ts d = body-plain ts (views-body (literals-facts {k = literal_kind} d).0)

-- the parts of a section that begins with these heads
record Parted (s vs : List Token) (c : ℕ) (o : Option Written) : Type 0 where
  parts : parts_of s ≡ record { colour = c; condition = o; body = vs }
  written : written_within o ≡ true
  plain : NoSemicolon vs → NoSemicolon s

no-brackets : (t : Token) → no_bracket t ≡ true → (is_colour t ≡ false) × (is_condition t ≡ false)
unfolding no_bracket
no-brackets t e =
    let (a, b) = and_parts (not (is_colour t)) (not (is_condition t)) e in
    (not-true (is_colour t) a, not-true (is_condition t) b)

after-body : (c : ℕ) (vs : List Token) → every no_bracket vs ≡ true → after_colour c vs ≡ record { colour = c; condition = none; body = vs }
unfolding after_colour
after-body c [] e = refl
after-body c (t ∷ ts) e = rw (no-brackets t (every-parts no_bracket t ts e).0).1

parts-body : (vs : List Token) → every no_bracket vs ≡ true → parts_of vs ≡ record { colour = 0; condition = none; body = vs }
unfolding parts_of
parts-body [] e = after-body 0 [] e
parts-body (t ∷ ts) e = rw (no-brackets t (every-parts no_bracket t ts e).0).0 (after-body 0 (t ∷ ts) e)

-- without a condition
record Uncond (s us : List Token) : Type 0 where
  shade : ℕ
  parted : Parted s us shade none

uncond : {s us : List Token} → OptColor s us → every no_bracket us ≡ true → Uncond s us
unfolding parts_of colour_in written_within every
uncond {us = us} no-color e = record { shade = 0; parted = record { parts = parts-body us e; written = refl; plain = λ n. n } }
uncond {us = us} (color {n = n}) e = record { shade = n; parted = record { parts = after-body n us e; written = refl; plain = λ n. n } }

-- with a condition
record WithCond (s vs : List Token) : Type 0 where
  shade : ℕ
  test : Written
  parted : Parted s vs shade (some test)

written-within : (w : Written) → length w.whole ≤ 9 → length w.decimals ≤ 6 → written_within (some w) ≡ true
unfolding written_within
written-within w a b = rw (le-leb (length w.whole) 9 a, le-leb (length w.decimals) 6 b)

with-cond : {s us vs : List Token} → OptColor s us → NFPartCond us vs → WithCond s vs
unfolding parts_of after_colour colour_in condition_in every
with-cond no-color (codes.cond {w = w} a b) =
    record { shade = 0; test = w; parted = record { parts = refl; written = written-within w a b; plain = λ n. n } }
with-cond (color {n = n}) (codes.cond {w = w} a b) =
    record { shade = n; test = w; parted = record { parts = refl; written = written-within w a b; plain = λ n. n } }

passes : (n i : ℕ) (k : Kind) {s vs : List Token} {c : ℕ} {o : Option Written} → Parted s vs c o → Body k vs → stands_by n i c (is_some o) k ≡ true → Passes n i s
unfolding within_limits
passes n i k {s} {vs} {c} {o} p b e =
    let (h, f) = body-fits k vs b in
    let q : Parts = record { colour = c; condition = o; body = vs } in
    record {
      plain = p.plain (body-tokens k vs b);
      fitted = rw p.parts (fits-fitting q f);
      stands = rw p.parts (stands_by_lem n i q ∙ (rw h e));
      within = rw (p.parts, p.written) (within-fitting q f);
    }

-- where sections may have text, or a condition: these are the places that `stands_by` has for them, but for the fourth
abbrev placed : ℕ → ℕ → Bool → Bool → Bool
placed n i text cond = implies text (eqb (suc i) n) && implies cond (ltb i 2 && not (eqb n 1)) && not (eqb i 3)

module _ (n i : ℕ) (text cond : Bool) (p : placed n i text cond ≡ true) where
  apart : (text ≡ true → eqb (suc i) n ≡ true) × (cond ≡ true → (ltb i 2 && not (eqb n 1)) ≡ true) × (eqb i 3 ≡ false)
  apart =
      let (f, c) = and_parts (implies text (eqb (suc i) n) && implies cond (ltb i 2 && not (eqb n 1))) _ p in
      let (a, b) = and_parts (implies text (eqb (suc i) n)) (implies cond (ltb i 2 && not (eqb n 1))) f in
      ((λ t. rw t at a), (λ h. rw h at b), not-true (eqb i 3) c)

  untexted : (k : Kind) → same_kind k text_kind ≡ false → (c : ℕ) (d : Bool) → (d ≡ true → cond ≡ true) → stands_by n i c d k ≡ true
  unfolding stands_by
  untexted k f c false h = rw (f, apart.2, and-false (eqb n 1))
  untexted k f c true h = let (a, b) = and_parts (ltb i 2) (not (eqb n 1)) (apart.1 (h refl)) in rw (f, apart.2, a, not-true (eqb n 1) b)

  texted : text ≡ true → (c : ℕ) → stands_by n i c false text_kind ≡ true
  unfolding stands_by
  texted t c = rw (apart.0 t, apart.2, and-false (eqb n 1))

  -- a section with a body of kind k, which may have a condition where the rule has one
  maybe-passes : (k : Kind) → same_kind k text_kind ≡ false → {s us vs : List Token} → OptColor s us → OptCond cond us vs → Body k vs → Passes n i s
  unfolding is_some
  maybe-passes k f {us = us} c no-cond b =
      let u = uncond c (body-fits k us b).1.brackets in
      passes n i k u.parted b (untexted k f u.shade false (λ h. no h))
  maybe-passes k f c (some-cond h d) b = let u = with-cond c d in passes n i k u.parted b (untexted k f u.shade true (λ e. h))

  pub any-passes : {s : List Token} → NFAnyBy text cond s → Passes n i s
  unfolding is_some
  any-passes (any-number c d b) = maybe-passes number_kind refl c d b
  any-passes (any-scientific c d b) = maybe-passes scientific_kind refl c d b
  any-passes (any-fraction c d b) = maybe-passes fraction_kind refl c d b
  any-passes (any-text {us = us} t c b) = let u = uncond c (body-fits text_kind us b).1.brackets in passes n i text_kind u.parted b (texted t u.shade)
  any-passes (any-date c d b) = maybe-passes date_kind refl c d b
  any-passes (any-general c d b) = maybe-passes general_kind refl c d b
  any-passes (any-literal c d b) = maybe-passes literal_kind refl c d b

-- a section that is its body
bare-passes : (n i : ℕ) (k : Kind) (s : List Token) → stands_by n i 0 false k ≡ true → Body k s → Passes n i s
unfolding is_some written_within
bare-passes n i k s e b =
    passes n i k {o = none} (record { parts = parts-body s (body-fits k s b).1.brackets; written = refl; plain = λ n. n }) b e

pub fourth-passes : {s : List Token} → Fourth s → Passes 4 3 s
unfolding stands_by
fourth-passes {s} (fourth-text b) = bare-passes 4 3 text_kind s refl b
fourth-passes {s} (fourth-general b) = bare-passes 4 3 general_kind s refl b
fourth-passes {s} (fourth-literal b) = bare-passes 4 3 literal_kind s refl b

pub condition-passes : {s us vs : List Token} → OptColor s us → NFPartCond us vs → NFGeneral vs → Passes 1 0 s
unfolding stands_by is_some
condition-passes c d b = let u = with-cond c d in passes 1 0 general_kind u.parted b refl
