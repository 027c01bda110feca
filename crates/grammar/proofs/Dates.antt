-- Level 2, dates: the items of a date's tokens count one elapsed unit, or none, exactly when DateTimeRest derives the tokens.
-- Assumes nothing.
use Prim.Native.Nat.{ℕ, zero, suc, ◌≤◌, min}
use native.Mathlib.Omega.{arith}
use mathlib.Core.Path.{◌≡◌, refl, sym, ap, subst, ◌∙◌}
use mathlib.Core.Bool.{Bool, true, false, cond, not, ◌&&◌, ◌||◌, and-false, or-true}
use mathlib.Core.List.{List, [], ◌∷◌, ◌++◌}
use mathlib.Core.Logic.{◌≢◌}
use mathlib.Core.Option.{Option, some}
use lib.ListN.{drop, replicate}
use lib.Seq.{drop-nil}
use lib.Dec.{leb, eqb}
use borrow.Author.Tests.{eqb-true, eqb-false, leb-true, leb-false, le-leb, lt-leb}
use Rattle.lists.specs.Lists.{every}
use Rattle.lists.proofs.Bools.{no, and_parts, by_cases}
use Rattle.formats.specs.Tokens.{Token, literal, bare, blank, fill, place, point, comma, percent, at, semicolon, general, half, run, elapsed, colour, condition, exponent, over, over_fixed, HalfDay, Place, zero_place, hash_place, space_place, Letter, letter_y, letter_m, letter_d, letter_h, letter_s, Elapsed, hours, minutes, seconds, elapsed_index}
use Rattle.formats.specs.Items as item
use Rattle.formats.specs.Items.{Item, text_kind, general_kind, date_kind, Run, hour_run, second_run, other_run, is_hour_run, is_second_run, run_of, run_of_elapsed, nearer, first_run, means_minutes, month_or_minute, settled_item, settled_from}
use Rattle.formats.specs.Kinds.{form_of, is_point, is_place, no_bracket, token_makes, whole, is_seconds_token, is_zero, leading_zeros, part_zeros, pieces_from, run_item, token_items, piece_items, date_items}
use Rattle.formats.proofs.FormedPieces.{zero-case, zeros-follow, zeros-point}
use Rattle.formats.proofs.Each.{by_token, by-letter, by-elapsed}
use Rattle.grammar.specs.Bodies.{free-string, free-repeat, free-space, free-bare, Behind, behind_seconds, behind_hours, behind_other, past, NFAbsTimeToken, NFPartAbsHour, NFPartAbsSecond, NFPartAbsMinute, NFDateTimeToken, NFPartYear, NFPartMonth, NFPartMonth-long, NFPartDay, NFPartHour, NFPartMinute, NFPartMinute-seconds, NFPartSecond, absolute, NFPartSubSecond, tenths, hundredths, thousandths, Between, between-free, between-AMPM, between-comma, between-point, DateTimeRest, rest_end, rest-token, rest-sub-second, rest-between, is_absolute, before_seconds}
use Rattle.grammar.proofs.Tests.{every-parts}
use Rattle.grammar.proofs.Quiet.{free-kept}
use Rattle.grammar.proofs.Plain.{in_body}
use Rattle.grammar.proofs.DateItems.{counts, counts_some, some-counts, date_item}

-- ---- what stands before, as the tests see it

abbrev pub direct : Behind → Bool
direct behind_seconds = true
direct behind_hours = false
direct behind_other = false

abbrev behind_hour : Behind → Bool
behind_hour behind_seconds = false
behind_hour behind_hours = true
behind_hour behind_other = false

pub direct-past : (b : Behind) → direct (past b) ≡ false
direct-past behind_seconds = refl
direct-past behind_hours = refl
direct-past behind_other = refl

hour-past : (b : Behind) → behind_hour (past b) ≡ behind_hour b
hour-past behind_seconds = refl
hour-past behind_hours = refl
hour-past behind_other = refl

-- ---- the pieces of a date

pieces_whole : (d : Bool) (t : Token) (ts : List Token) → is_point t ≡ false → pieces_from d 0 (t ∷ ts) ≡ whole t ∷ pieces_from (is_seconds_token t) 0 ts
unfolding pieces_from part_zeros
pieces_whole d t ts e = rw (e, and-false d)

-- a point that no zeros follow, or that stands elsewhere than behind seconds
plain-point : (d : Bool) (ts : List Token) → (d ≡ true → leading_zeros ts ≡ 0) → date_items (pieces_from d 0 (point ∷ ts)) ≡ token_items true point ++ date_items (pieces_from false 0 ts)
unfolding pieces_from part_zeros is_seconds_token date_items piece_items
plain-point true ts z = rw (z refl)
plain-point false ts z = refl

-- ---- the tokens of a date

-- a token of a date's body makes it neither text nor General
abbrev pub date_token : Token → Bool
date_token t = in_body t && (not (token_makes text_kind t) && not (token_makes general_kind t))

-- a token beside a date's is no place, makes no date, is of a date's body, and is not absolute
pub between-facts : {t : Token} → Between t → (is_place t ≡ false) × (token_makes date_kind t ≡ false) × (date_token t ≡ true) × (is_absolute t ≡ false)
unfolding token_makes no_bracket
between-facts (between-free (free-string us)) = (refl, refl, refl, refl)
between-facts (between-free (free-repeat u)) = (refl, refl, refl, refl)
between-facts (between-free (free-space u)) = (refl, refl, refl, refl)
between-facts (between-free (free-bare u)) = (refl, refl, refl, refl)
between-facts (between-AMPM h) = (refl, refl, refl, refl)
between-facts between-comma = (refl, refl, refl, refl)
between-facts between-point = (refl, refl, refl, refl)

-- what passes over literals, blanks, fills and half-day marks passes over its items
module _ {A : Type 0} (m : List Item → A) (literals : (u : ℕ) (is : List Item) → m (item.literal u ∷ is) ≡ m is)
    (blanks : (u : ℕ) (is : List Item) → m (item.blank u ∷ is) ≡ m is) (fills : (u : ℕ) (is : List Item) → m (item.fill u ∷ is) ≡ m is)
    (halves : (h : HalfDay) (is : List Item) → m (item.half h ∷ is) ≡ m is) where
  pub between-kept : {t : Token} (is : List Item) → Between t → m (token_items true t ++ is) ≡ m is
  unfolding token_items
  between-kept is (between-free g) = free-kept m true literals blanks fills is g
  between-kept is (between-AMPM h) = halves h is
  between-kept is between-comma = literals 44 is
  between-kept is between-point = literals 46 is

-- the nearest run of the items is seconds exactly when the nearest date token is
seconds-front : (t : Token) (is : List Item)
    → is_second_run (first_run (token_items true t ++ is)) ≡ cond (eqb (form_of t) 15 || is_absolute t) (is_seconds_token t) (is_second_run (first_run is))
unfolding token_items run_item is_seconds_token first_run run_of run_of_elapsed nearer
seconds-front t is =
    by_token (λ (t : Token). is_second_run (first_run (token_items true t ++ is)) ≡ cond (eqb (form_of t) 15 || is_absolute t) (is_seconds_token t) (is_second_run (first_run is)))
    (λ us. between-kept (λ (js : List Item). is_second_run (first_run js)) (λ u js. refl) (λ u js. refl) (λ u js. refl) (λ h js. refl) is (between-free (free-string us)))
    (λ u. refl) (λ u. refl) (λ u. refl) (λ p. refl) refl refl refl refl refl refl (λ h. refl)
    (λ l n. by-letter (λ (k : Letter). is_second_run (first_run (run_item k n ∷ is)) ≡ is_seconds_token (run k n)) refl refl refl refl refl l)
    (λ x n. by-elapsed (λ (d : Elapsed). is_second_run (first_run (item.elapsed d n ∷ is)) ≡ is_seconds_token (elapsed d n)) refl refl refl x)
    (λ n. refl) (λ w. refl) (λ m. refl) (λ p. refl) (λ p n. refl) t

seconds-next : (b : Bool) (skip : ℕ) (ts : List Token) → skip ≤ leading_zeros ts → is_second_run (first_run (date_items (pieces_from b skip ts))) ≡ before_seconds ts
unfolding pieces_from date_items piece_items leading_zeros before_seconds first_run run_of nearer
seconds-next b skip [] h = refl
seconds-next b (suc skip) (t ∷ ts) h =
    by_cases (is_zero t)
    (λ e. let g : suc skip ≤ suc (leading_zeros ts) = rw e at h in
    rw (zero-case (λ (u : Token). form_of u ≡ 4) (λ p. refl) t e) (seconds-next false skip ts (omega arith)))
    (λ e. let g : suc skip ≤ 0 = rw e at h in absurd (omega arith))
seconds-next b zero (t ∷ ts) h =
    let n = part_zeros b t ts in
    let r = seconds-next (is_seconds_token t) n ts (zeros-follow b t ts) in
    by_cases (eqb n 0)
    (λ e. rw e (seconds-front t (date_items (pieces_from (is_seconds_token t) n ts)) ∙ rw r))
    (λ e. rw (e, eqb-true (form_of t) 7 (zeros-point b t ts e).1) r)

-- the rule for m, by what stands before a token and behind it
means-told : (b : Behind) (r : Run) (ts : List Token) → is_hour_run r ≡ behind_hour b
    → means_minutes r (first_run (date_items (pieces_from false 0 ts))) ≡ (behind_hour b || before_seconds ts)
unfolding means_minutes
means-told b r ts h = rw (h, seconds-next false 0 ts (omega arith))

-- zeros behind the point of a part of a second
zero-place : (q : Place) → is_zero (place q) ≡ true → place q ≡ place zero_place
unfolding is_zero
zero-place zero_place e = refl
zero-place hash_place e = no e
zero-place space_place e = no e

zero-token : (t : Token) → is_zero t ≡ true → t ≡ place zero_place
zero-token t e = zero-case (λ (t : Token). is_zero t ≡ true → t ≡ place zero_place) zero-place t e e

zeros-front : (n : ℕ) (ts : List Token) → n ≤ leading_zeros ts → ts ≡ replicate n (place zero_place) ++ drop n ts
unfolding leading_zeros
zeros-front zero ts h = refl
zeros-front (suc n) [] h = absurd (omega arith)
zeros-front (suc n) (t ∷ ts) h =
    by_cases (is_zero t)
    (λ e.
    let k : suc n ≤ suc (leading_zeros ts) = rw e at h in
    ap (λ (s : Token). s ∷ ts) (zero-token t e) ∙ ap (◌∷◌ (place zero_place)) (zeros-front n ts (omega arith)))
    (λ e. let k : suc n ≤ 0 = rw e at h in absurd (omega arith))

sub-second : (n : ℕ) (ts : List Token) → n ≢ 0 → n ≤ 3 → n ≤ leading_zeros ts → NFPartSubSecond (point ∷ ts) (drop n ts)
sub-second zero ts h k l = absurd (h refl)
sub-second (suc zero) ts h k l = subst (λ (xs : List Token). NFPartSubSecond (point ∷ xs) (drop 1 ts)) (sym (zeros-front 1 ts l)) tenths
sub-second (suc (suc zero)) ts h k l = subst (λ (xs : List Token). NFPartSubSecond (point ∷ xs) (drop 2 ts)) (sym (zeros-front 2 ts l)) hundredths
sub-second (suc (suc (suc zero))) ts h k l = subst (λ (xs : List Token). NFPartSubSecond (point ∷ xs) (drop 3 ts)) (sym (zeros-front 3 ts l)) thousandths
sub-second (suc (suc (suc (suc n)))) ts h k l = absurd (omega arith)

module _ (abs : Option Elapsed) where
  -- the items that follow, behind a run r, are a date's that counts abs
  abbrev pub Dated : Run → List Item → Type 0
  Dated r is = every (date_item abs) (settled_from r is) ≡ true

  -- a literal in front, or another item that is no run
  between-dated : {t : Token} (r : Run) (is : List Item) → Between t → every (date_item abs) (settled_from r (token_items true t ++ is)) ≡ every (date_item abs) (settled_from r is)
  unfolding every settled_from settled_item date_item run_of nearer
  between-dated r is x =
      between-kept (λ (js : List Item). every (date_item abs) (settled_from r js)) (λ u js. refl) (λ u js. refl) (λ u js. refl) (λ h js. refl) is x

  -- ---- from the tests to the grammar

  -- what is asked of the tokens left, some of them skipped
  abbrev From : List Token → Type 0
  From ts = (b : Behind) (r : Run) (skip : ℕ) → ((n : ℕ) → skip ≡ suc n → direct b ≡ false) → is_hour_run r ≡ behind_hour b
      → Dated r (date_items (pieces_from (direct b) skip ts)) → DateTimeRest abs b (drop skip ts)

  from-between : {t : Token} (ts : List Token) (b : Behind) (r : Run) → is_hour_run r ≡ behind_hour b → Between t
      → Dated r (token_items true t ++ date_items (pieces_from false 0 ts)) → From ts → DateTimeRest abs b (t ∷ ts)
  from-between ts b r h x e f =
      rest-between x
      (f (past b) r 0 (λ n k. direct-past b) (h ∙ sym (hour-past b))
      (rw (direct-past b) (sym (between-dated r (date_items (pieces_from false 0 ts)) x) ∙ e)))

  -- a token that is a whole piece, and no point
  pub whole-items : (d : Bool) (t : Token) (ts : List Token) → is_point t ≡ false → date_items (pieces_from d 0 (t ∷ ts)) ≡ token_items true t ++ date_items (pieces_from (is_seconds_token t) 0 ts)
  unfolding date_items piece_items
  whole-items d t ts e = rw (pieces_whole d t ts e)

  part-dated : (r : Run) (n : ℕ) (is : List Item) → Dated r (item.part n ∷ is) → Dated r is
  unfolding every settled_from settled_item date_item run_of nearer
  part-dated r n is e = e

  -- the point behind seconds: with zeros behind it a part of a second, else a literal
  point-from : (ts : List Token) (r : Run) → is_hour_run r ≡ false → Dated r (date_items (pieces_from true 0 (point ∷ ts))) → From ts
      → DateTimeRest abs behind_seconds (point ∷ ts)
  unfolding pieces_from part_zeros date_items piece_items is_seconds_token
  point-from ts r h e f =
      let n = min 3 (leading_zeros ts) in
      by_cases (eqb n 0)
      (λ z.
      let none-there : n ≡ 0 = eqb-true n 0 z in
      from-between ts behind_seconds r h between-point (rw none-there at e) f)
      (λ z. rest-sub-second (sub-second n ts (eqb-false n 0 z) (omega arith) (omega arith)) (f behind_other r n (λ k l. refl) h (part-dated r n (date_items (pieces_from false n ts)) (rw z at e))))

  not-counted : (x : Elapsed) → not (counts abs x) ≡ true → abs ≢ some x
  not-counted x e h = no (sym (ap not (ap (λ (a : Option Elapsed). counts a x) h ∙ some-counts x)) ∙ e)

  -- a run of m
  other-than-hours : (b : Behind) → behind_hour b ≡ false → b ≢ behind_hours
  other-than-hours b h e = no (sym h ∙ ap behind_hour e)

  is-minute : (n : ℕ) (means : Bool) → means ≡ true → leb n 2 ≡ true → date_item abs (month_or_minute means n) ≡ true → abs ≢ some minutes
  unfolding date_item month_or_minute
  is-minute n means m k e = not-counted minutes (rw (m, k) at e)

  -- a date token, and what follows it
  step_from : {t : Token} (ts : List Token) {b c : Behind} (r : Run) → NFDateTimeToken abs (before_seconds ts) b t c → is_hour_run r ≡ behind_hour c
      → Dated r (date_items (pieces_from (direct c) 0 ts)) → From ts → DateTimeRest abs b (t ∷ ts)
  step_from ts {c = c} r x h e f = rest-token x (f c r 0 (λ n k. absurd (omega arith)) h e)

  short-token : (n : ℕ) (before : Bool) (b : Behind) (means : Bool) → means ≡ (behind_hour b || before) → leb n 2 ≡ true → before ≡ false
      → date_item abs (month_or_minute means n) ≡ true → NFDateTimeToken abs before b (run letter_m n) behind_other
  short-token n before behind_seconds means m k s e = NFPartMonth (other-than-hours behind_seconds refl) s
  short-token n before behind_hours means m k s e = NFPartMinute (leb-true n 2 k) (is-minute n means m k e)
  short-token n before behind_other means m k s e = NFPartMonth (other-than-hours behind_other refl) s

  month-from : (n : ℕ) (ts : List Token) (b : Behind) (r : Run) → is_hour_run r ≡ behind_hour b → Dated r (item.month n ∷ date_items (pieces_from false 0 ts)) → From ts
      → DateTimeRest abs b (run letter_m n ∷ ts)
  unfolding settled_from settled_item run_of nearer
  month-from n ts b r h e f =
      let (e₁, e₂) = every-parts (date_item abs) _ _ e in
      let told = means-told b r ts h in
      step_from ts other_run
      (by_cases (leb n 2)
      (λ k. by_cases (before_seconds ts)
      (λ s. NFPartMinute-seconds (leb-true n 2 k) (is-minute n _ (told ∙ rw s (or-true (behind_hour b))) k e₁) s)
      (λ s. short-token n (before_seconds ts) b _ told k s e₁))
      (λ k. let l = leb-false n 2 k in NFPartMonth-long (omega arith))) refl e₂ f

  hour-from : (n : ℕ) (ts : List Token) (b : Behind) (r : Run) → Dated r (item.hour n ∷ date_items (pieces_from false 0 ts)) → From ts → DateTimeRest abs b (run letter_h n ∷ ts)
  unfolding settled_from settled_item run_of nearer date_item
  hour-from n ts b r e f = let (e₁, e₂) = every-parts (date_item abs) _ _ e in step_from ts hour_run (NFPartHour (not-counted hours e₁)) refl e₂ f

  second_from : (n : ℕ) (ts : List Token) (b : Behind) (r : Run) → Dated r (item.second n ∷ date_items (pieces_from true 0 ts)) → From ts → DateTimeRest abs b (run letter_s n ∷ ts)
  unfolding settled_from settled_item run_of nearer date_item
  second_from n ts b r e f = let (e₁, e₂) = every-parts (date_item abs) _ _ e in step_from ts second_run (NFPartSecond (not-counted seconds e₁)) refl e₂ f

  counted-token : (x : Elapsed) (n : ℕ) {before : Bool} {b c : Behind} → (n ≤ 9 → NFAbsTimeToken x (elapsed x n) c) → date_item abs (item.elapsed x n) ≡ true
      → NFDateTimeToken abs before b (elapsed x n) c
  unfolding date_item
  counted-token x n g e = let (c, l) = and_parts (counts abs x) (leb n 9) e in absolute (counts_some abs x c) (g (leb-true n 9 l))

  elapsed-from : (x : Elapsed) (n : ℕ) (ts : List Token) (b : Behind) (r : Run) → Dated r (item.elapsed x n ∷ date_items (pieces_from (eqb (elapsed_index x) 2) 0 ts)) → From ts
      → DateTimeRest abs b (elapsed x n ∷ ts)
  unfolding settled_from settled_item run_of run_of_elapsed nearer
  elapsed-from hours n ts b r e f = let (e₁, e₂) = every-parts (date_item abs) _ _ e in step_from ts hour_run (counted-token hours n (λ h. NFPartAbsHour h) e₁) refl e₂ f
  elapsed-from minutes n ts b r e f = let (e₁, e₂) = every-parts (date_item abs) _ _ e in step_from ts other_run (counted-token minutes n (λ h. NFPartAbsMinute h) e₁) refl e₂ f
  elapsed-from seconds n ts b r e f = let (e₁, e₂) = every-parts (date_item abs) _ _ e in step_from ts second_run (counted-token seconds n (λ h. NFPartAbsSecond h) e₁) refl e₂ f

  token-from : (t : Token) (ts : List Token) (b : Behind) (r : Run) → is_hour_run r ≡ behind_hour b → in_body t ≡ true
      → Dated r (date_items (pieces_from (direct b) 0 (t ∷ ts))) → From ts → DateTimeRest abs b (t ∷ ts)
  unfolding token_items run_item is_seconds_token no_bracket every settled_from settled_item date_item run_of nearer
  token-from (literal us) ts b r h i e f = from-between ts b r h (between-free (free-string us)) (rw (whole-items (direct b) (literal us) ts refl) at e) f
  token-from (bare u) ts b r h i e f = from-between ts b r h (between-free (free-bare u)) (rw (whole-items (direct b) (bare u) ts refl) at e) f
  token-from (blank u) ts b r h i e f = from-between ts b r h (between-free (free-space u)) (rw (whole-items (direct b) (blank u) ts refl) at e) f
  token-from (fill u) ts b r h i e f = from-between ts b r h (between-free (free-repeat u)) (rw (whole-items (direct b) (fill u) ts refl) at e) f
  token-from (place q) ts b r h i e f = no (rw (whole-items (direct b) (place q) ts refl) at e)
  token-from point ts behind_seconds r h i e f = point-from ts r h e f
  token-from point ts behind_hours r h i e f = from-between ts behind_hours r h between-point (rw (plain-point false ts (λ t. no t)) at e) f
  token-from point ts behind_other r h i e f = from-between ts behind_other r h between-point (rw (plain-point false ts (λ t. no t)) at e) f
  token-from comma ts b r h i e f = from-between ts b r h between-comma (rw (whole-items (direct b) comma ts refl) at e) f
  token-from percent ts b r h i e f = no (rw (whole-items (direct b) percent ts refl) at e)
  token-from at ts b r h i e f = no (rw (whole-items (direct b) at ts refl) at e)
  token-from semicolon ts b r h i e f = no i
  token-from general ts b r h i e f = no (rw (whole-items (direct b) general ts refl) at e)
  token-from (half x) ts b r h i e f = from-between ts b r h (between-AMPM x) (rw (whole-items (direct b) (half x) ts refl) at e) f
  token-from (run letter_y n) ts b r h i e f = step_from ts other_run NFPartYear refl (rw (whole-items (direct b) (run letter_y n) ts refl) at e) f
  token-from (run letter_m n) ts b r h i e f = month-from n ts b r h (rw (whole-items (direct b) (run letter_m n) ts refl) at e) f
  token-from (run letter_d n) ts b r h i e f = step_from ts other_run NFPartDay refl (rw (whole-items (direct b) (run letter_d n) ts refl) at e) f
  token-from (run letter_h n) ts b r h i e f = hour-from n ts b r (rw (whole-items (direct b) (run letter_h n) ts refl) at e) f
  token-from (run letter_s n) ts b r h i e f = second_from n ts b r (rw (whole-items (direct b) (run letter_s n) ts refl) at e) f
  token-from (elapsed x n) ts b r h i e f = elapsed-from x n ts b r (rw (whole-items (direct b) (elapsed x n) ts refl) at e) f
  token-from (colour n) ts b r h i e f = no i
  token-from (condition w) ts b r h i e f = no i
  token-from (exponent m) ts b r h i e f = no (rw (whole-items (direct b) (exponent m) ts refl) at e)
  token-from (over q) ts b r h i e f = no (rw (whole-items (direct b) (over q) ts refl) at e)
  token-from (over_fixed q n) ts b r h i e f = no (rw (whole-items (direct b) (over_fixed q n) ts refl) at e)

  pub rest_of : (ts : List Token) → every in_body ts ≡ true → From ts
  unfolding pieces_from
  rest_of [] i b r skip c h e = rw (drop-nil {A = Token} skip) rest_end
  rest_of (t ∷ ts) i b r (suc skip) c h e =
      let d : direct b ≡ false = c skip refl in
      rest_of ts (every-parts in_body t ts i).1 b r skip (λ n k. d) h (rw d e)
  rest_of (t ∷ ts) i b r zero c h e =
      let (i₁, i₂) = every-parts in_body t ts i in
      token-from t ts b r h i₁ e (rest_of ts i₂)

-- ---- from the grammar to the tests

-- a date token is a run or an elapsed token
pub data Dating : Token → Type 0 where
  dating-run : (l : Letter) (n : ℕ) → Dating (run l n)
  dating-elapsed : (x : Elapsed) (n : ℕ) → Dating (elapsed x n)

pub dating : {abs : Option Elapsed} {before : Bool} {b c : Behind} {t : Token} → NFDateTimeToken abs before b t c → Dating t
dating (NFPartYear {n = n}) = dating-run letter_y n
dating (NFPartMonth {n = n} h s) = dating-run letter_m n
dating (NFPartMonth-long {n = n} h) = dating-run letter_m n
dating (NFPartDay {n = n}) = dating-run letter_d n
dating (NFPartHour {n = n} h) = dating-run letter_h n
dating (NFPartMinute {n = n} h k) = dating-run letter_m n
dating (NFPartMinute-seconds {n = n} h k s) = dating-run letter_m n
dating (NFPartSecond {n = n} h) = dating-run letter_s n
dating (absolute e (NFPartAbsHour {n = n} h)) = dating-elapsed hours n
dating (absolute e (NFPartAbsSecond {n = n} h)) = dating-elapsed seconds n
dating (absolute e (NFPartAbsMinute {n = n} h)) = dating-elapsed minutes n

pub dating-facts : {t : Token} → Dating t → (is_place t ≡ false) × (token_makes date_kind t ≡ true) × (date_token t ≡ true)
unfolding token_makes no_bracket
dating-facts (dating-run l n) = (refl, refl, refl)
dating-facts (dating-elapsed x n) = (refl, refl, refl)

-- what DateTimeRest derives does not start with a zero
pub rest-start : {abs : Option Elapsed} {b : Behind} {ts : List Token} → DateTimeRest abs b ts → leading_zeros ts ≡ 0
unfolding leading_zeros is_zero
rest-start rest_end = refl
rest-start (rest-token x d) = rw (dating-facts (dating x)).0
rest-start (rest-sub-second tenths d) = refl
rest-start (rest-sub-second hundredths d) = refl
rest-start (rest-sub-second thousandths d) = refl
rest-start (rest-between x d) = rw (between-facts x).0

module _ (abs : Option Elapsed) where
  counted-not : (x : Elapsed) → abs ≢ some x → not (counts abs x) ≡ true
  counted-not x h = by_cases (counts abs x) (λ e. absurd (h (counts_some abs x e))) (λ e. rw e)

  not-hours : (b : Behind) → b ≢ behind_hours → behind_hour b ≡ false
  not-hours behind_seconds h = refl
  not-hours behind_hours h = absurd (h refl)
  not-hours behind_other h = refl

  -- what follows a date token is a date's
  abbrev Follows : Behind → List Token → Type 0
  Follows c ts = (r : Run) → is_hour_run r ≡ behind_hour c → Dated abs r (date_items (pieces_from (direct c) 0 ts))

  absolute-dated : {x : Elapsed} {t : Token} {c : Behind} (d : Bool) (r : Run) (ts : List Token) → abs ≡ some x → NFAbsTimeToken x t c → Follows c ts
      → Dated abs r (date_items (pieces_from d 0 (t ∷ ts)))
  unfolding every settled_from settled_item run_of run_of_elapsed nearer date_item token_items is_seconds_token
  absolute-dated d r ts e (NFPartAbsHour {n = n} h) f =
      rw (whole-items abs d (elapsed hours n) ts refl, e, le-leb n 9 h) (f hour_run refl)
  absolute-dated d r ts e (NFPartAbsSecond {n = n} h) f =
      rw (whole-items abs d (elapsed seconds n) ts refl, e, le-leb n 9 h) (f second_run refl)
  absolute-dated d r ts e (NFPartAbsMinute {n = n} h) f =
      rw (whole-items abs d (elapsed minutes n) ts refl, e, le-leb n 9 h) (f other_run refl)

  -- a run of m that means a month
  month-dated : (r : Run) (n : ℕ) (is : List Item) → (means_minutes r (first_run is) && leb n 2) ≡ false → Dated abs other_run is → Dated abs r (item.month n ∷ is)
  unfolding every settled_from settled_item run_of nearer date_item month_or_minute
  month-dated r n is h e = rw h e

  -- and one that means minutes
  minute-dated : (r : Run) (n : ℕ) (is : List Item) → means_minutes r (first_run is) ≡ true → n ≤ 2 → abs ≢ some minutes → Dated abs other_run is
      → Dated abs r (item.month n ∷ is)
  unfolding every settled_from settled_item run_of nearer date_item month_or_minute
  minute-dated r n is h k l e = rw (h, le-leb n 2 k, counted-not minutes l) e

  token-dated : {b c : Behind} {t : Token} (r : Run) (ts : List Token) → is_hour_run r ≡ behind_hour b → NFDateTimeToken abs (before_seconds ts) b t c → Follows c ts
      → Dated abs r (date_items (pieces_from (direct b) 0 (t ∷ ts)))
  unfolding every settled_from settled_item run_of nearer date_item token_items run_item is_seconds_token month_or_minute
  token-dated {b} r ts h (NFPartYear {n = n}) f = rw (whole-items abs (direct b) (run letter_y n) ts refl) (f other_run refl)
  token-dated {b} r ts h (NFPartMonth {n = n} k s) f =
      rw (whole-items abs (direct b) (run letter_m n) ts refl)
      (month-dated r n (date_items (pieces_from false 0 ts)) (rw (means-told b r ts h, not-hours b k, s)) (f other_run refl))
  token-dated {b} r ts h (NFPartMonth-long {n = n} k) f =
      rw (whole-items abs (direct b) (run letter_m n) ts refl)
      (month-dated r n (date_items (pieces_from false 0 ts)) (rw (lt-leb n 2 (omega arith), and-false)) (f other_run refl))
  token-dated {b} r ts h (NFPartDay {n = n}) f = rw (whole-items abs (direct b) (run letter_d n) ts refl) (f other_run refl)
  token-dated {b} r ts h (NFPartHour {n = n} k) f =
      rw (whole-items abs (direct b) (run letter_h n) ts refl, counted-not hours k) (f hour_run refl)
  token-dated r ts h (NFPartMinute {n = n} k l) f =
      rw (whole-items abs false (run letter_m n) ts refl)
      (minute-dated r n (date_items (pieces_from false 0 ts)) (means-told behind_hours r ts h) k l (f other_run refl))
  token-dated {b} r ts h (NFPartMinute-seconds {n = n} k l s) f =
      rw (whole-items abs (direct b) (run letter_m n) ts refl)
      (minute-dated r n (date_items (pieces_from false 0 ts)) (means-told b r ts h ∙ rw s (or-true (behind_hour b))) k l (f other_run refl))
  token-dated {b} r ts h (NFPartSecond {n = n} k) f =
      rw (whole-items abs (direct b) (run letter_s n) ts refl, counted-not seconds k) (f second_run refl)
  token-dated {b} r ts h (absolute e x) f = absolute-dated (direct b) r ts e x f

  pub between-items : {t : Token} (b : Behind) (ts : List Token) → leading_zeros ts ≡ 0 → Between t
      → date_items (pieces_from (direct b) 0 (t ∷ ts)) ≡ token_items true t ++ date_items (pieces_from false 0 ts)
  unfolding is_seconds_token
  between-items b ts s (between-free (free-string us)) = whole-items abs (direct b) (literal us) ts refl
  between-items b ts s (between-free (free-repeat u)) = whole-items abs (direct b) (fill u) ts refl
  between-items b ts s (between-free (free-space u)) = whole-items abs (direct b) (blank u) ts refl
  between-items b ts s (between-free (free-bare u)) = whole-items abs (direct b) (bare u) ts refl
  between-items b ts s (between-AMPM h) = whole-items abs (direct b) (half h) ts refl
  between-items b ts s between-comma = whole-items abs (direct b) comma ts refl
  between-items b ts s between-point = plain-point (direct b) ts (λ t. s)

  -- the items of a part of a second
  pub sub-items : {ts us : List Token} → leading_zeros us ≡ 0 → NFPartSubSecond ts us
      → (n : ℕ) × (date_items (pieces_from true 0 ts) ≡ item.part n ∷ date_items (pieces_from false 0 us))
  unfolding pieces_from part_zeros leading_zeros is_zero date_items piece_items is_seconds_token
  sub-items s tenths = (1, rw s)
  sub-items s hundredths = (2, rw s)
  sub-items s thousandths = (3, rw s)

  dated-part : (r : Run) (n : ℕ) (is : List Item) → Dated abs r is → Dated abs r (item.part n ∷ is)
  unfolding every settled_from settled_item date_item run_of nearer
  dated-part r n is e = e

  pub rest-dated : {b : Behind} {ts : List Token} → DateTimeRest abs b ts → (r : Run) → is_hour_run r ≡ behind_hour b → Dated abs r (date_items (pieces_from (direct b) 0 ts))
  unfolding pieces_from date_items settled_from every
  rest-dated rest_end r h = refl
  rest-dated (rest-token {ts = ts} x d) r h = token-dated r ts h x (rest-dated d)
  rest-dated (rest-sub-second {us = us} s d) r h =
      let (n, e) = sub-items (rest-start d) s in
      rw e (dated-part r n (date_items (pieces_from false 0 us)) (rest-dated d r h))
  rest-dated {b} (rest-between {ts = ts} x d) r h =
      rw (between-items b ts (rest-start d) x)
      (between-dated abs r (date_items (pieces_from false 0 ts)) x ∙ (rw (direct-past b) at (rest-dated d r (h ∙ sym (hour-past b)))))
