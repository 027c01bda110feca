-- Level 2, date bodies: they fit their kind and keep the limits exactly when NFDateTime derives them.
-- Assumes nothing.
use Prim.Native.Nat.{ℕ, suc, ◌≤◌}
use native.Mathlib.Omega.{arith}
use mathlib.Core.Path.{◌≡◌, refl, sym, ap, ◌∙◌}
use mathlib.Core.Bool.{Bool, true, false, not, ◌&&◌}
use mathlib.Core.List.{List, [], ◌∷◌, ◌++◌}
use mathlib.Core.Option.{Option}
use borrow.Author.Tests.{not-true}
use Rattle.lists.specs.Lists.{every, any, count}
use Rattle.lists.proofs.Bools.{no, and_parts, by_cases}
use Rattle.formats.specs.Tokens.{Token, run, elapsed, letter_y, letter_m, letter_d, letter_h, letter_s, Elapsed, hours, minutes, seconds}
use Rattle.formats.specs.Items as item
use Rattle.formats.specs.Items.{Item, Kind, text_kind, general_kind, date_kind, item_allowed, is_fill, is_elapsed, Run, no_run, run_of, nearer, first_run, settled_item, settled_from, settled}
use Rattle.formats.specs.Kinds.{no_bracket, token_makes, body_kind, commas_fit, is_seconds_token, run_item, token_items, pieces_from, date_items, body_items, last_fill}
use Rattle.formats.proofs.Cutting.{no-decimals}
use Rattle.formats.proofs.FormedItems.{dropped, fills-kept}
use Rattle.grammar.specs.Bodies.{Behind, behind_other, NFAbsTimeToken, NFPartAbsHour, NFPartAbsSecond, NFPartAbsMinute, NFDateTimeToken, NFPartYear, NFPartMonth, NFPartMonth-long, NFPartDay, NFPartHour, NFPartMinute, NFPartMinute-seconds, NFPartSecond, absolute, NFPartSubSecond, tenths, hundredths, thousandths, Between, DateTimeRest, rest_end, rest-token, rest-sub-second, rest-between, DateTimeFrom, from-token, from-between, is_absolute, NFDateTime}
use Rattle.grammar.proofs.Tests.{every_in, every-all, every-none, absent}
use Rattle.grammar.proofs.Quiet.{passed_over}
use Rattle.grammar.proofs.Kept.{sorts, count_kept, allowed-kept, foreign, no-integers, no-exponents}
use Rattle.grammar.proofs.Facts.{kept, Fitting, bare, no-exponent-places}
use Rattle.grammar.proofs.Plain.{in_body, has, kind-date, kind-has}
use Rattle.grammar.proofs.PlainBodies.{body-tokens, body-brackets, NoSemicolon}
use Rattle.grammar.proofs.DateItems.{date_item, date-allowed, date-short, dates-apart, Counting, counting}
use Rattle.grammar.proofs.Dates.{direct, direct-past, Dated, date_token, between-facts, between-kept, dating-facts, dating, whole-items, between-items, sub-items, rest-start, rest_of, rest-dated}

-- ---- the first date token

between-has : {t : Token} (ts : List Token) → Between t → has date_kind (t ∷ ts) ≡ has date_kind ts
unfolding any
between-has ts x = rw (between-facts x).1

from-rest : {abs : Option Elapsed} {ts : List Token} → DateTimeRest abs behind_other ts → has date_kind ts ≡ true → DateTimeFrom abs ts
unfolding any
from-rest rest_end h = no h
from-rest (rest-token x d) h = from-token x d
from-rest (rest-between {ts = ts} x d) h = from-between x (from-rest d (rw (between-has ts x) at h))

to-rest : {abs : Option Elapsed} {ts : List Token} → DateTimeFrom abs ts → DateTimeRest abs behind_other ts
to-rest (from-token x d) = rest-token x d
to-rest (from-between x d) = rest-between x (to-rest d)

from-has : {abs : Option Elapsed} {ts : List Token} → DateTimeFrom abs ts → has date_kind ts ≡ true
unfolding any
from-has (from-token x d) = rw (dating-facts (dating x)).1
from-has (from-between {ts = ts} x d) = between-has ts x ∙ from-has d

-- ---- the tokens of a date

-- each token is of a date's body
rest-facts : {abs : Option Elapsed} {b : Behind} {ts : List Token} → DateTimeRest abs b ts → every date_token ts ≡ true
unfolding every token_makes no_bracket
rest-facts rest_end = refl
rest-facts (rest-token {t = t} {ts = ts} x r) = every_in date_token t ts (dating-facts (dating x)).2 (rest-facts r)
rest-facts (rest-sub-second tenths r) = rest-facts r
rest-facts (rest-sub-second hundredths r) = rest-facts r
rest-facts (rest-sub-second thousandths r) = rest-facts r
rest-facts (rest-between {t = t} {ts = ts} x r) = every_in date_token t ts (between-facts x).2 (rest-facts r)

tokens-body : (ts : List Token) → every date_token ts ≡ true → every in_body ts ≡ true
tokens-body ts e = every-all date_token in_body (λ t d. (and_parts (in_body t) _ d).0) ts e

tokens_none : (k : Kind) → ((t : Token) → date_token t ≡ true → token_makes k t ≡ false) → (ts : List Token) → every date_token ts ≡ true → has k ts ≡ false
tokens_none k f ts e = every-none date_token (token_makes k) f ts e

token-other : (t : Token) → date_token t ≡ true → (token_makes text_kind t ≡ false) × (token_makes general_kind t ≡ false)
token-other t d =
    let others = (and_parts (in_body t) _ d).1 in
    let (a, b) = and_parts (not (token_makes text_kind t)) (not (token_makes general_kind t)) others in
    (not-true (token_makes text_kind t) a, not-true (token_makes general_kind t) b)

-- ---- elapsed items and absolute tokens

between-elapsed : {t : Token} (is : List Item) → Between t → count is_elapsed (token_items true t ++ is) ≡ count is_elapsed is
unfolding count
between-elapsed is x = between-kept (count is_elapsed) (λ u js. refl) (λ u js. refl) (λ u js. refl) (λ h js. refl) is x

-- the items of the tokens left, and how many of them are elapsed
abbrev Alike : Behind → List Token → Type 0
Alike b ts = count is_elapsed (date_items (pieces_from (direct b) 0 ts)) ≡ count is_absolute ts

absolute-elapsed : {x : Elapsed} {t : Token} {c : Behind} (abs : Option Elapsed) (d : Bool) (ts : List Token) → NFAbsTimeToken x t c → Alike c ts
    → count is_elapsed (date_items (pieces_from d 0 (t ∷ ts))) ≡ count is_absolute (t ∷ ts)
unfolding count token_items is_seconds_token
absolute-elapsed abs d ts (NFPartAbsHour {n = n} h) e = rw (whole-items abs d (elapsed hours n) ts refl) (ap suc e)
absolute-elapsed abs d ts (NFPartAbsSecond {n = n} h) e = rw (whole-items abs d (elapsed seconds n) ts refl) (ap suc e)
absolute-elapsed abs d ts (NFPartAbsMinute {n = n} h) e = rw (whole-items abs d (elapsed minutes n) ts refl) (ap suc e)

token-elapsed : {abs : Option Elapsed} {before : Bool} {b c : Behind} {t : Token} (ts : List Token) → NFDateTimeToken abs before b t c → Alike c ts → Alike b (t ∷ ts)
unfolding count token_items run_item is_seconds_token
token-elapsed {abs} {b = b} ts (NFPartYear {n = n}) e = rw (whole-items abs (direct b) (run letter_y n) ts refl) e
token-elapsed {abs} {b = b} ts (NFPartMonth {n = n} h s) e = rw (whole-items abs (direct b) (run letter_m n) ts refl) e
token-elapsed {abs} {b = b} ts (NFPartMonth-long {n = n} h) e = rw (whole-items abs (direct b) (run letter_m n) ts refl) e
token-elapsed {abs} {b = b} ts (NFPartDay {n = n}) e = rw (whole-items abs (direct b) (run letter_d n) ts refl) e
token-elapsed {abs} {b = b} ts (NFPartHour {n = n} h) e = rw (whole-items abs (direct b) (run letter_h n) ts refl) e
token-elapsed {abs} ts (NFPartMinute {n = n} h k) e = rw (whole-items abs false (run letter_m n) ts refl) e
token-elapsed {abs} {b = b} ts (NFPartMinute-seconds {n = n} h k s) e = rw (whole-items abs (direct b) (run letter_m n) ts refl) e
token-elapsed {abs} {b = b} ts (NFPartSecond {n = n} h) e = rw (whole-items abs (direct b) (run letter_s n) ts refl) e
token-elapsed {abs} {b = b} ts (absolute h x) e = absolute-elapsed abs (direct b) ts x e

sub-absolute : {ts us : List Token} → NFPartSubSecond ts us → count is_absolute ts ≡ count is_absolute us
unfolding count
sub-absolute tenths = refl
sub-absolute hundredths = refl
sub-absolute thousandths = refl

part-elapsed : (n : ℕ) (is : List Item) → count is_elapsed (item.part n ∷ is) ≡ count is_elapsed is
unfolding count
part-elapsed n is = refl

rest-elapsed : {abs : Option Elapsed} {b : Behind} {ts : List Token} → DateTimeRest abs b ts → Alike b ts
unfolding count pieces_from date_items
rest-elapsed rest_end = refl
rest-elapsed (rest-token {ts = ts} x d) = token-elapsed ts x (rest-elapsed d)
rest-elapsed {abs} (rest-sub-second {us = us} s d) =
    let (n, e) = sub-items abs (rest-start d) s in
    rw e (part-elapsed n (date_items (pieces_from false 0 us)) ∙ rest-elapsed d ∙ sym (sub-absolute s))
rest-elapsed {abs} {b} (rest-between {t = t} {ts = ts} x d) =
    rw (between-items abs b ts (rest-start d) x)
    (between-elapsed (date_items (pieces_from false 0 ts)) x ∙ (rw (direct-past b) at (rest-elapsed d)) ∙ sym (passed_over is_absolute t ts (between-facts x).3))

-- ---- fills left out change no date

first-fill : (is : List Item) → first_run (last_fill is) ≡ first_run is
unfolding first_run nearer run_of
first-fill = fills-kept first_run (λ i is js e. rw e) (λ u is. refl)

fill-dated : (abs : Option Elapsed) (r : Run) (is : List Item) (u : ℕ)
    → every (date_item abs) (settled_from r (item.fill u ∷ is)) ≡ every (date_item abs) (settled_from r is)
unfolding every settled_from settled_item date_item run_of nearer
fill-dated abs r is u = refl

kept-front : (abs : Option Elapsed) (r : Run) (i : Item) (is : List Item)
    → every (date_item abs) (settled_from (nearer (run_of i) r) (last_fill is)) ≡ every (date_item abs) (settled_from (nearer (run_of i) r) is)
    → every (date_item abs) (settled_from r (i ∷ last_fill is)) ≡ every (date_item abs) (settled_from r (i ∷ is))
unfolding every settled_from
kept-front abs r i is e = rw (first-fill is, e)

dated-fill : (abs : Option Elapsed) (r : Run) (is : List Item) → every (date_item abs) (settled_from r (last_fill is)) ≡ every (date_item abs) (settled_from r is)
unfolding last_fill
dated-fill abs r [] = refl
dated-fill abs r (i ∷ is) =
    by_cases (is_fill i && any is_fill is)
    (λ h.
    let skipped = dropped (λ (j : Item). every (date_item abs) (settled_from r (j ∷ is)) ≡ every (date_item abs) (settled_from r is)) (fill-dated abs r is) i is h in
    rw h (dated-fill abs r is ∙ sym skipped))
    (λ h. rw h (kept-front abs r i is (dated-fill abs (nearer (run_of i) r) is)))

-- ---- NFDateTime

pub date-tokens : (ts : List Token) → NFDateTime ts → every in_body ts ≡ true
date-tokens ts d = tokens-body ts (rest-facts (to-rest d.tokens))

date-body : (ts : List Token) → body_kind ts ≡ date_kind → body_items ts ≡ date_items (pieces_from false 0 ts)
unfolding body_items
date-body ts h = rw h

-- with the unit that is counted, the tokens are derived
date-of : (ts : List Token) → NoSemicolon ts → body_kind ts ≡ date_kind → Fitting ts → Counting (kept ts) → NFDateTime ts
unfolding settled
date-of ts s h f c =
    let items = date-body ts h in
    let dated : Dated c.abs no_run (date_items (pieces_from false 0 ts)) = rw items at (sym (dated-fill c.abs no_run (body_items ts)) ∙ c.each) in
    let rest : DateTimeRest c.abs behind_other ts = rest_of c.abs ts (body-tokens ts s f.brackets) behind_other no_run 0 (λ n k. refl) refl dated in
    let few : count is_elapsed (body_items ts) ≤ 1 = rw (count_kept 15 refl refl (body_items ts)) at f.elapseds in
    record {
      abs = c.abs;
      tokens = from-rest rest (kind-has date_kind refl ts h);
      absolute-once = rw (items, rest-elapsed rest) at few;
    }

pub derive-date : (ts : List Token) → NoSemicolon ts → body_kind ts ≡ date_kind → Fitting ts → NFDateTime ts
derive-date ts s h f =
    let a : every (item_allowed date_kind) (kept ts) ≡ true = allowed-kept date_kind (body_items ts) ∙ (rw h at f.allowed) in
    date-of ts s h f (counting (kept ts) a f.short f.elapseds f.apart)

pub date-fits : (ts : List Token) → NFDateTime ts → (body_kind ts ≡ date_kind) × Fitting ts
unfolding commas_fit settled sorts
date-fits ts d =
    let rest = to-rest d.tokens in
    let tokens = rest-facts rest in
    let h = kind-date ts (tokens_none text_kind (λ t e. (token-other t e).0) ts tokens) (tokens_none general_kind (λ t e. (token-other t e).1) ts tokens) (from-has d.tokens) in
    let items = date-body ts h in
    let dated : every (date_item d.abs) (kept ts) ≡ true = rw items (dated-fill d.abs no_run (date_items (pieces_from false 0 ts)) ∙ rest-dated d.abs rest no_run refl) in
    let a : every (item_allowed date_kind) (body_items ts) ≡ true
    = sym (allowed-kept date_kind (body_items ts)) ∙ date-allowed d.abs (kept ts) dated in
    let places : count item.is_place (body_items ts) ≡ 0 = foreign date_kind 3 refl (body_items ts) a in
    let points : count item.is_point (body_items ts) ≡ 0 = foreign date_kind 4 refl (body_items ts) a in
    let percents : count item.is_percent (body_items ts) ≡ 0 = foreign date_kind 5 refl (body_items ts) a in
    let generals : count item.is_general (body_items ts) ≡ 0 = foreign date_kind 6 refl (body_items ts) a in
    let unbroken = bare date_kind refl (body_items ts) a in
    let once : count is_elapsed (body_items ts) ≤ 1 = rw (items, rest-elapsed rest) d.absolute-once in (
      h,
      record {
        brackets = body-brackets ts (tokens-body ts tokens);
        commas = rw h;
        fraction = unbroken.fraction;
        allowed = rw h a;
        generals = omega arith;
        points = omega arith;
        elapseds = rw (count_kept 15 refl refl (body_items ts)) once;
        apart = dates-apart d.abs (kept ts) dated;
        exponent = no-exponents (body_items ts) (foreign date_kind 17 refl (body_items ts) a);
        integers = omega (arith, unbroken.integers);
        wholes = omega (arith, unbroken.wholes, no-integers (body_items ts) places);
        decimals = omega (arith, no-decimals (body_items ts) (absent item.is_point (body_items ts) points));
        exponents = omega (arith, no-exponent-places date_kind refl refl (body_items ts) a);
        percents = omega arith;
        divisions = rw h (omega arith);
        short = date-short d.abs (kept ts) dated;
        small = unbroken.small;
      },
    )
