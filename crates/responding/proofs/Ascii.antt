-- The units of an answer to ASCII lines are ASCII: an ASCII code shows an ASCII text in ASCII units, and no longer than the room.
-- Assumes nothing.
use Prim.Native.Nat.{ℕ, zero, suc, ◌+◌, ◌/◌, ◌%◌, ◌^◌, ◌-◌, ◌≤◌, max, pred}
use Prim.Native.String.{String}
use native.Mathlib.Omega.{arith}
use native.Mathlib.Nat.{mod-eq_of_lt}
use mathlib.Core.Path.{◌≡◌, refl, ap₂}
use mathlib.Core.Bool.{Bool, true, false, cond, not, ◌&&◌, ◌||◌}
use mathlib.Core.List.{List, [], ◌∷◌, ◌++◌, map, flatten}
use lib.ListN.{length, get_or, take, drop, replicate}
use lib.Dec.{T, leb, ltb, eqb, leb→le, le→leb}
use Rattle.lists.specs.Lists.{every, count, is_empty}
use Rattle.lists.proofs.Bools.{and_left, and_right, true-T, cond_both, cond-case, every-head, every-tail, every-cons, every_append, every_take, every_drop}
use Rattle.lists.proofs.Counts.{every_map, every-weaker}
use Rattle.lists.proofs.Tables.{each-passes}
use Rattle.figures.specs.Digits.{digit, digit_unit, digit_units, width, numeral}
use Rattle.figures.specs.General.{general_too_wide, without_end_zeros, pointed, general_units}
use Rattle.calendar.specs.Names.{units, month_names, weekday_names, month_name, weekday_name, short_name, first_letter}
use Rattle.formats.specs.Tokens.{before, starts_with, Token, Place, hash_place, HalfDay, Letter, ExponentMark}
use Rattle.formats.specs.Items.{Item, item_row, literal, blank, fill, place, point, percent, general, at, year, month, day, hour, minute, second, part, elapsed, half, exponent, solidus, fixed, Section, kind_of, same_kind, scientific_kind, fraction_kind, is_literal, is_place, is_space, is_solidus, is_fixed, before_cut, from_cut, integer_places, start_places, behind_start, numerator_items, whole_items, main_items}
use Rattle.formats.specs.Kinds.{Parts, section_of, token_items, run_item}
use Rattle.formats.specs.Accept.{parts_in, sections_in, Verdict, fine, refused as wrong, verdict, accepted_by, accept}
use Rattle.formats.specs.Where.{is_text}
use Rattle.formats.specs.Choice.{number_exact, instant_exact, Choice, nothing, chosen, choose, TextChoice, itself, text_in, fourth_from, text_from, choose_text}
use Rattle.formats.specs.Reading.{Look, Reading, refused, within, takes_number, takes_instant, shows_general, standing_rounded, number_context, instant_context, text_context, number_units, read_number, read_instant, read_text, read_value, reading, read_accepted, code_reading, section_text, section_fraction, whole_context, exponent_context, whole_text, is_parted, spare_places, spaceless, denominator_units, below_units, blanked, fraction_units}
use Rattle.std.proofs.Common.{Option, Some, None, Result, Ok, Err}
use Rattle.answers.specs.declared.Refusal.{Refusal}
use Rattle.answers.specs.declared.Refusal.TheVariants as answer
use Rattle.fractions.specs.declared.Mixed.{Mixed}
use Rattle.values.specs.declared.Number.{Number}
use Rattle.values.specs.declared.Day.{Day}
use Rattle.values.specs.declared.Millisecond.{Millisecond}
use Rattle.values.specs.declared.Value.{Value}
use Rattle.values.specs.declared.Value.TheVariants as value
use Rattle.values.specs.declared.Ask.{Ask}
use Rattle.values.specs.Ranges.{in_range}
use borrow.Author.Tests.{leb-true}
use Rattle.formats.proofs.Chosen.{chosen-passes}
use Rattle.formats.proofs.Each.{by_token, by-letter, by_place, by-half, by-exponent}
use Rattle.tables.specs.Calls.{text_as}
use Rattle.preview.specs.Preview.{preview_text}
use Rattle.requests.specs.declared.written.Sort.{Sort}
use Rattle.requests.specs.declared.written.Sort.TheVariants as sort
use Rattle.requests.specs.Bytes.{low_byte}
use Rattle.requests.specs.Lines.{is_ascii, is_line, Field, field, missing, field_of}
use Rattle.requests.specs.Written.{sort_of, value_of, text_of}
use Rattle.requests.specs.Request.{Request, request, refused as unasked, from_end, from_value, from_third, from_kind, from_second, from_first, request_of}
use Rattle.responding.specs.declared.lines.Numbers.{Numbers}
use Rattle.responding.specs.Respond.{line_of, five_lines, lines_of, response_of}
use Rattle.formats.specs.Minus.{Sign, minus, not_negative, no_item, for_negatives, nought, sign_units}
use Rattle.formats.specs.Text.{Context, insignificant, idle_units, ends_group, with_separator, figure_units, extra_units, place_units, point_units, year_units, named_units, part_units, half_units, item_units, digit_after, items_units, section_units, along, exponent_units, first_of}
use Rattle.formats.proofs.TokenRanges.{token_passes, parts_pass, parts-pass, items-pass}
use Rattle.formats.proofs.FormedItems.{settled-kept}
use Rattle.formats.proofs.Cutting.{every-before, every-from, whole-joins}
use Rattle.formats.proofs.FractionParts.{place-case, every-parts, numerator-places, start-joins}

abbrev pub Ascii : List ℕ → Type 0
Ascii us = T (every is_ascii us)

-- ---- numbers
digit-ascii : (n k : ℕ) → T (is_ascii (digit_unit (digit n k)))
unfolding is_ascii digit
digit-ascii n k = le→leb (48 + n / 10 ^ k % 10) 127 (omega arith)

digits-ascii : (m n : ℕ) → Ascii (digit_units m n)
unfolding digit_units every
digits-ascii zero n = tt
digits-ascii (suc m) n = every-cons is_ascii (digit_unit (digit n m)) (digit_units m n) (digit-ascii n m) (digits-ascii m n)

numeral-ascii : (least n : ℕ) → Ascii (numeral least n)
unfolding numeral
numeral-ascii least n = digits-ascii (max least (width n)) n

without-ascii : (us : List ℕ) → Ascii us → Ascii (without_end_zeros us)
unfolding without_end_zeros every
without-ascii [] t = tt
without-ascii (u ∷ us) t =
    cond_both Ascii (is_empty (without_end_zeros us) && eqb u 48) tt
    (every-cons is_ascii u (without_end_zeros us) (every-head is_ascii u us t) (without-ascii us (every-tail is_ascii u us t)))

pointed-ascii : (us : List ℕ) → Ascii us → Ascii (pointed us)
unfolding pointed every is_ascii
pointed-ascii [] t = tt
pointed-ascii (u ∷ us) t = t

general-ascii : (n : ℕ) → Ascii (general_units n)
unfolding general_units
general-ascii n = search (every_append is_ascii, numeral-ascii, pointed-ascii, without-ascii, digits-ascii)

-- ---- figures
idle-ascii : (p : Place) → Ascii (idle_units p)
unfolding idle_units every is_ascii
idle-ascii = by_place (λ (p : Place). Ascii (idle_units p)) tt tt tt

separated-ascii : (us : List ℕ) → Ascii us → Ascii (with_separator us)
unfolding with_separator every is_ascii
separated-ascii [] t = tt
separated-ascii (u ∷ us) t =
    every-cons is_ascii u (cond (eqb u 32) 32 44 ∷ us) (every-head is_ascii u us t)
    (every-cons is_ascii (cond (eqb u 32) 32 44) us (cond_both (λ (v : ℕ). T (is_ascii v)) (eqb u 32) {x = 32} {y = 44} tt tt) (every-tail is_ascii u us t))

figure-ascii : (n : ℕ) (grouped : Bool) (p : Place) (q : ℕ) → Ascii (figure_units n grouped p q)
unfolding figure_units every
figure-ascii n grouped p q =
    let us = cond (insignificant n q) (idle_units p) (digit_unit (digit n q) ∷ []) in
    let t : Ascii us = cond_both Ascii (insignificant n q) (idle-ascii p) (every-cons is_ascii (digit_unit (digit n q)) [] (digit-ascii n q) tt) in
    cond_both Ascii (grouped && ends_group q) (separated-ascii us t) t

extra-ascii : (n : ℕ) (grouped : Bool) (q count : ℕ) → Ascii (extra_units n grouped q count)
unfolding extra_units every
extra-ascii n grouped q zero = tt
extra-ascii n grouped q (suc count) = let rest = extra-ascii n grouped q count in search (every_append is_ascii, figure-ascii)

perhaps-ascii : (b : Bool) (us vs : List ℕ) → Ascii us → Ascii vs → Ascii (cond b us [] ++ vs)
perhaps-ascii true us vs s t = every_append is_ascii us vs s t
perhaps-ascii false us vs s t = t

place-ascii : (c : Context) (p : Place) (q : ℕ) → Ascii (place_units c p q)
unfolding place_units
place-ascii c p q =
    perhaps-ascii (ltb 0 c.integer_places && eqb (suc q) (15 + c.integer_places)) (extra_units c.figures c.grouped (suc q) (39 - q)) _
    (extra-ascii c.figures c.grouped (suc q) (39 - q)) (figure-ascii c.figures c.grouped p q)

point-ascii : (c : Context) → Ascii (point_units c)
unfolding point_units every is_ascii
point-ascii c = perhaps-ascii (eqb c.integer_places 0) (extra_units c.figures c.grouped 15 25) (46 ∷ []) (extra-ascii c.figures c.grouped 15 25) tt

-- ---- days
names-ascii : (names : List String) (n : ℕ) → T (every (λ (s : String). every is_ascii (units s)) names) → Ascii (units (get_or names n ""))
unfolding units every
names-ascii names n t = each-passes (λ (s : String). every is_ascii (units s)) names n "" t tt

named-ascii : (n number : ℕ) (name : List ℕ) → Ascii name → Ascii (named_units n number name)
unfolding named_units short_name first_letter
named-ascii n number name t =
    cond_both Ascii (leb n 2) (numeral-ascii n number)
    (cond_both Ascii (eqb n 3) (every_take is_ascii 3 name t) (cond_both Ascii (eqb n 4) t (every_take is_ascii 1 name t)))

month-ascii : (m : ℕ) → Ascii (month_name m)
unfolding month_name month_names units every is_ascii
month-ascii m = names-ascii month_names (pred m) tt

weekday-ascii : (w : ℕ) → Ascii (weekday_name w)
unfolding weekday_name weekday_names units every is_ascii
weekday-ascii w = names-ascii weekday_names w tt

half-ascii : (h : HalfDay) (late : Bool) → Ascii (half_units h late)
unfolding half_units units every is_ascii
half-ascii h true = by-half (λ (k : HalfDay). Ascii (half_units k true)) tt tt h
half-ascii h false = by-half (λ (k : HalfDay). Ascii (half_units k false)) tt tt h

exponent-ascii : (m : ExponentMark) (below : Bool) → Ascii (exponent_units m below)
unfolding exponent_units units every is_ascii
exponent-ascii m true = by-exponent (λ (k : ExponentMark). Ascii (exponent_units k true)) tt tt m
exponent-ascii m false = by-exponent (λ (k : ExponentMark). Ascii (exponent_units k false)) tt tt m

-- ---- items: of a literal the unit is shown
unfoldable literal_ascii : Item → Bool
literal_ascii i = not (is_literal i) || is_ascii (item_row i).argument

item-ascii : (c : Context) → Ascii c.standing → (q : ℕ) (i : Item) → T (literal_ascii i) → Ascii (item_units c q i)
unfolding item_units literal_ascii year_units part_units units every is_ascii
item-ascii c s q (literal u) t = every-cons is_ascii u [] t tt
item-ascii c s q (blank u) t = tt
item-ascii c s q (fill u) t = tt
item-ascii c s q (place p) t = place-ascii c p q
item-ascii c s q point t = point-ascii c
item-ascii c s q percent t = tt
item-ascii c s q general t = s
item-ascii c s q at t = s
item-ascii c s q (year n) t = cond_both Ascii (eqb n 2) (numeral-ascii 2 (c.date.year % 100)) (numeral-ascii 4 c.date.year)
item-ascii c s q (month n) t = named-ascii n c.date.month (month_name c.date.month) (month-ascii c.date.month)
item-ascii c s q (day n) t = named-ascii n c.date.day_of_month (weekday_name c.date.weekday) (weekday-ascii c.date.weekday)
item-ascii c s q (hour n) t = numeral-ascii n _
item-ascii c s q (minute n) t = numeral-ascii n c.clock.minute
item-ascii c s q (second n) t = numeral-ascii n c.clock.second
item-ascii c s q (part n) t = digits-ascii n _
item-ascii c s q (elapsed e n) t = numeral-ascii n _
item-ascii c s q (half h) t = half-ascii h _
item-ascii c s q (exponent m) t = exponent-ascii m c.below
item-ascii c s q solidus t = tt
item-ascii c s q (fixed n) t = numeral-ascii 1 n

items-ascii : (c : Context) → Ascii c.standing → (q : ℕ) (is : List Item) → T (every literal_ascii is) → Ascii (items_units c q is)
unfolding items_units every along flatten
items-ascii c s q [] t = tt
items-ascii c s q (i ∷ is) t =
    let next : ℕ = digit_after (first_of c.integer_places) q i in
    every_append is_ascii (item_units c q i) (items_units c next is)
    (item-ascii c s q i (every-head literal_ascii i is t)) (items-ascii c s next is (every-tail literal_ascii i is t))

sign-ascii : (s : Sign) → Ascii (sign_units s)
unfolding sign_units every is_ascii
sign-ascii minus = tt
sign-ascii not_negative = tt
sign-ascii no_item = tt
sign-ascii for_negatives = tt
sign-ascii nought = tt

-- ---- sections of an ASCII code
run-ascii : (l : Letter) (n : ℕ) → T (every literal_ascii (run_item l n ∷ []))
unfolding run_item literal_ascii every
run-ascii l n = by-letter (λ (k : Letter). T (every literal_ascii (run_item k n ∷ []))) tt tt tt tt tt l

token-ascii : (d : Bool) (t : Token) → T (token_passes is_ascii t) → T (every literal_ascii (token_items d t))
unfolding every literal_ascii token_items token_passes is_ascii
token-ascii d =
    by_token (λ (t : Token). T (token_passes is_ascii t) → T (every literal_ascii (token_items d t)))
    (λ us h. rw (every_map literal_ascii literal us) (and_left (every is_ascii us) (not (is_empty us)) h))
    (λ u h. every-cons literal_ascii (literal u) [] h tt) (λ u h. tt) (λ u h. tt) (λ p h. tt)
    (λ h. cond_both (λ (i : Item). T (every literal_ascii (i ∷ []))) d {x = literal 46} {y = point} tt tt)
    (λ h. cond_both (λ (is : List Item). T (every literal_ascii is)) d {x = literal 44 ∷ []} {y = []} tt tt)
    (λ h. tt) (λ h. tt) (λ h. tt) (λ h. tt) (λ x h. tt) (λ l n h. run-ascii l n) (λ e n h. tt) (λ n h. tt) (λ w h. tt) (λ m h. tt) (λ p h. tt) (λ p n h. tt)

abbrev section_ascii : Section → Bool
section_ascii s = every literal_ascii s.items

same-month : (n : ℕ) → literal_ascii (minute n) ≡ literal_ascii (month n)
unfolding literal_ascii
same-month n = refl

part-ascii : (n : ℕ) → T (literal_ascii (part n))
unfolding literal_ascii
part-ascii n = tt

section-ascii : (p : Parts) → T (parts_pass is_ascii p) → T (section_ascii (section_of p))
unfolding parts_pass
section-ascii p t =
    let b : T (every (token_passes is_ascii) p.body) = search (and_left, and_right) in
    items-pass (token_passes is_ascii) literal_ascii token-ascii (λ n h e. part-ascii n)
    (λ e l i h. rw (settled-kept literal_ascii same-month e l i) h) p b

code-ascii : (code : List ℕ) → Ascii code → T (every section_ascii (sections_in code))
unfolding sections_in
code-ascii code t =
    rw (every_map section_ascii section_of (parts_in code))
    (every-weaker (parts_pass is_ascii) (λ (p : Parts). section_ascii (section_of p)) section-ascii (parts_in code) (parts-pass is_ascii code t))

-- ---- readings
-- the text of a reading is ASCII, and the room takes it
abbrev Fine : ℕ → Reading → Type 0
Fine room d = (length (text_as d) ≤ room) × Ascii (text_as d)

fine-within : (room : ℕ) (look : Look) → Ascii look.text → Fine room (within room look)
unfolding within text_as every
fine-within room look t =
    cond-case (Fine room) (leb (length look.text) room) (λ e. (leb-true (length look.text) room e, t)) (λ e. (omega arith, tt))

fine-refused : (room : ℕ) (a : Refusal) → Fine room (refused a)
unfolding text_as every
fine-refused room a = (omega arith, tt)

shown-ascii : (c : Context) (is : List Item) → Ascii c.standing → T (every literal_ascii is) → Ascii (section_units c is)
unfolding section_units
shown-ascii c is t h = items-ascii c t (first_of c.integer_places) is h

-- ---- a fraction: each of its parts shows a whole number
whole-ascii : (n : ℕ) (is : List Item) → T (every literal_ascii is) → Ascii (whole_text n is)
unfolding whole_context every
whole-ascii n is t = shown-ascii (whole_context n (integer_places is) false) is tt t

every-copies : {A : Type 0} (f : A → Bool) (x : A) → T (f x) → (n : ℕ) → T (every f (replicate n x))
unfolding every
every-copies f x t zero = tt
every-copies f x t (suc n) = every-cons f x (replicate n x) t (every-copies f x t n)

spaceless-ascii : (i : Item) → T (literal_ascii i) → T (literal_ascii (spaceless i))
unfolding literal_ascii spaceless
spaceless-ascii i t = cond_both (λ (j : Item). T (literal_ascii j)) (is_space i) {x = place hash_place} tt t

denominator-ascii : (d : ℕ) (is : List Item) → T (every literal_ascii is) → Ascii (denominator_units d is)
unfolding denominator_units is_ascii
denominator-ascii d is t =
    every_append is_ascii (whole_text d (map spaceless is)) _
    (whole-ascii d (map spaceless is) (rw (every_map literal_ascii spaceless is) (every-weaker literal_ascii _ spaceless-ascii is t)))
    (every-copies is_ascii 32 tt (count is_space (spare_places d is)))

below-ascii : (d : ℕ) (is : List Item) → T (every literal_ascii is) → Ascii (below_units d is)
unfolding below_units
below-ascii d is t =
    let js : List Item = drop 1 is in
    let (places, behind) = every-parts literal_ascii (start_places js) (behind_start js) (start-joins js) (every_drop literal_ascii 1 is t) in
    search (every_append is_ascii, whole-ascii, denominator-ascii, every_take literal_ascii)

blanked-ascii : (is : List Item) → T (every literal_ascii is) → T (every literal_ascii (flatten (map blanked is)))
unfolding flatten blanked literal_ascii every
blanked-ascii [] t = tt
blanked-ascii (i ∷ is) t =
    let P : List Item → Type 0 = λ (js : List Item). T (every literal_ascii js) in
    every_append literal_ascii (blanked i) (flatten (map blanked is))
    (cond_both P (is_place i || is_solidus i) tt
    (cond_both P (is_fixed i) (every-copies literal_ascii (blank 32) tt (width (item_row i).argument)) (every-cons literal_ascii i [] (every-head literal_ascii i is t) tt)))
    (blanked-ascii is (every-tail literal_ascii i is t))

fraction-ascii : (f : Mixed) (is : List Item) → T (every literal_ascii is) → Ascii (fraction_units f is)
unfolding fraction_units literal_ascii
fraction-ascii f is t =
    let (integers, main) = every-parts literal_ascii (whole_items is) (main_items is) (whole-joins is) t in
    let above = every-weaker is_place literal_ascii (place-case (λ (i : Item). T (literal_ascii i)) (λ p. tt)) (numerator_items is) (numerator-places is) in
    every_append is_ascii (whole_text f.whole (whole_items is)) _ (whole-ascii f.whole (whole_items is) integers)
    (cond_both Ascii (is_parted is && eqb f.above 0) (whole-ascii 0 _ (blanked-ascii (main_items is) main))
    (search (every_append is_ascii, whole-ascii, below-ascii, every-from literal_ascii)))

number-ascii : (s : Section) (x : Number) → T (section_ascii s) → Ascii (section_text s x)
unfolding section_text number_context exponent_context whole_context every
number-ascii s x t =
    let is : List Item = s.items in
    let standing : Ascii (general_units (standing_rounded x)) = general-ascii (standing_rounded x) in
    cond_both Ascii (same_kind (kind_of s) scientific_kind)
    (every_append is_ascii (section_units (number_context s x) (before_cut is)) _ (shown-ascii (number_context s x) (before_cut is) standing (every-before literal_ascii is t))
    (shown-ascii (exponent_context s x) (from_cut is) tt (every-from literal_ascii is t)))
    (cond_both Ascii (same_kind (kind_of s) fraction_kind) (fraction-ascii (section_fraction s x) is t) (shown-ascii (number_context s x) is standing t))

-- the section that takes a text
abbrev TextPasses : TextChoice → Type 0
TextPasses itself = Unit {0}
TextPasses (text_in i s) = T (section_ascii s)

fourth-passes : (i : ℕ) (ss : List Section) (other : TextChoice) → T (every section_ascii ss) → TextPasses other → TextPasses (fourth_from i ss other)
unfolding fourth_from
fourth-passes i [] other t h = h
fourth-passes i (s ∷ ss) other t h =
    cond_both TextPasses (eqb i 3) (every-head section_ascii s ss t) (fourth-passes (suc i) ss other (every-tail section_ascii s ss t) h)

text-passes : (i : ℕ) (ss : List Section) → T (every section_ascii ss) → TextPasses (text_from i ss)
unfolding text_from
text-passes i [] t = tt
text-passes i (s ∷ ss) t =
    cond_both TextPasses (is_text s) (every-head section_ascii s ss t) (text-passes (suc i) ss (every-tail section_ascii s ss t))

text-fine : (room : ℕ) (text : List ℕ) (h : TextChoice) → Ascii text → TextPasses h → Fine room (read_text text room h)
unfolding read_text text_context
text-fine room text itself t h = fine-within room _ t
text-fine room text (text_in i s) t h = fine-within room _ (shown-ascii (text_context text) s.items t h)

module _ (ss : List Section) (text : List ℕ) (room : ℕ) (h : T (every section_ascii ss)) (t : Ascii text) where
  by_number : (x : Number) (k : Choice) → choose ss (number_exact x) ≡ k → Fine room (read_number ss x room k)
  unfolding read_number number_units
  by_number x nothing e = fine-refused room answer.NoSection
  by_number x (chosen i s why) e =
      cond_both (Fine room) (not (takes_number (kind_of s))) (fine-refused room answer.Sort)
      (cond_both (Fine room) (shows_general (kind_of s) && general_too_wide (number_exact x).size) (fine-refused room answer.General)
      (fine-within room _ (every_append is_ascii _ _ (sign-ascii _) (number-ascii s x (chosen-passes section_ascii ss (number_exact x) i s why h e)))))

  by-instant : (d : Day) (m : Millisecond) (k : Choice) → choose ss (instant_exact d m) ≡ k → Fine room (read_instant d m room k)
  unfolding read_instant instant_context every
  by-instant d m nothing e = fine-refused room answer.NoSection
  by-instant d m (chosen i s why) e =
      cond_both (Fine room) (not (takes_instant (kind_of s))) (fine-refused room answer.Sort)
      (fine-within room _ (shown-ascii (instant_context s d m) s.items tt (chosen-passes section_ascii ss (instant_exact d m) i s why h e)))

  value-fine : (v : Value) → Fine room (read_value ss v text room)
  unfolding read_value choose_text
  value-fine (value.Number x) = by_number x (choose ss (number_exact x)) refl
  value-fine (value.Instant d m) = by-instant d m (choose ss (instant_exact d m)) refl
  value-fine value.Text = text-fine room text (choose_text ss) t (fourth-passes 0 ss (text_from 0 ss) h (text-passes 0 ss h))

-- an ASCII code shows an ASCII text in ASCII units
code-fine : (code : List ℕ) (ask : Ask) (text : List ℕ) (room : ℕ) → Ascii code → Ascii text → Fine room (code_reading code ask text room)
unfolding code_reading accept accepted_by read_accepted reading
code-fine code ask text room c t = by-verdict (verdict code)
  where
    by-verdict : (v : Verdict) → Fine room (read_accepted (accepted_by v (sections_in code)) ask text room)
    by-verdict (wrong a k) = fine-refused room a
    by-verdict fine =
        cond_both (Fine room) (in_range ask text) (value-fine (sections_in code) text room (code-ascii code c) t ask.value)
        (fine-refused room answer.Range)

-- ---- lines that are read
-- what is made of a line, where it is missing and where its content is ASCII
by_field : (P : Request → Type 0) (F : Field → Request) (name input : List ℕ) → P (F missing)
    → ((us rest : List ℕ) → Ascii us → P (F (field us rest))) → P (F (field_of name input))
unfolding field_of is_line
by_field P F name input m f =
    let line = take (before 10 input) input in
    cond-case (λ (x : Field). P (F x)) (ltb (before 10 input) (length input) && is_line name line)
    (λ e.
    let t : T (ltb (before 10 input) (length input) && (leb (length line) 2048 && every is_ascii line && starts_with name line)) = true-T e in
    f _ _ (every_drop is_ascii (length name) line (search (and_left, and_right))))
    (λ e. m)

abbrev AsciiRequest : Request → Type 0
AsciiRequest (unasked a k) = Unit {0}
AsciiRequest (request code ask text) = Ascii code × Ascii text

value-ascii : (code : List ℕ) (v : Option Value) (text rest : List ℕ) → Ascii code → Ascii text → AsciiRequest (from_value code v text rest)
unfolding from_value from_end
value-ascii code None text rest c t = tt
value-ascii code (Some v) text rest c t = cond_both AsciiRequest (is_empty rest) (c, t) tt

text-ascii : (s : Sort) (us : List ℕ) → Ascii us → Ascii (text_of s us)
unfolding text_of every
text-ascii sort.Number us t = tt
text-ascii sort.Instant us t = tt
text-ascii sort.Text us t = t

kind-ascii : (code : List ℕ) (k : Option Sort) (rest : List ℕ) → Ascii code → AsciiRequest (from_kind code k rest)
unfolding from_kind from_third
kind-ascii code None rest c = tt
kind-ascii code (Some s) rest c =
    by_field AsciiRequest (from_third code s) (units "value=") rest tt
    (λ us more t. value-ascii code (value_of s us) (text_of s us) more c (text-ascii s us t))

request-ascii : (input : List ℕ) → AsciiRequest (request_of input)
unfolding request_of from_first from_second
request-ascii input =
    by_field AsciiRequest from_first (units "code=") input tt
    (λ code rest c. by_field AsciiRequest (from_second code) (units "kind=") rest tt (λ us more t. kind-ascii code (sort_of us) more c))

-- ---- lines that are written
line-ascii : (name content : List ℕ) → Ascii name → Ascii content → Ascii (line_of name content)
unfolding line_of every is_ascii
line-ascii name content n c = every_append is_ascii (name ++ content) (10 ∷ []) (every_append is_ascii name content n c) tt

five-ascii : (n : Numbers) (text : List ℕ) → Ascii text → Ascii (five_lines n text)
unfolding five_lines units every is_ascii
five-ascii n text t = search (every_append is_ascii, line-ascii, numeral-ascii) depth 16

lines-ascii : (q : Request) → AsciiRequest q → Ascii (lines_of q)
unfolding lines_of preview_text every
lines-ascii (unasked a k) t = five-ascii _ [] tt
lines-ascii (request code ask text) t = five-ascii _ _ (code-fine code ask text 4096 t.0 t.1).1

response-ascii : (input : List ℕ) → Ascii (response_of input)
unfolding response_of
response-ascii input = lines-ascii (request_of input) (request-ascii input)

-- ASCII units are written as the bytes that they are
low_same : (us : List ℕ) → Ascii us → map low_byte us ≡ us
unfolding is_ascii
low_same [] t = refl
low_same (u ∷ us) t =
    let h : u ≤ 127 = leb→le u 127 (every-head is_ascii u us t) in
    ap₂ (λ (v : ℕ) (vs : List ℕ). v ∷ vs) (mod-eq_of_lt (omega arith)) (low_same us (every-tail is_ascii u us t))

pub response-bytes : (input : List ℕ) → map low_byte (response_of input) ≡ response_of input
response-bytes input = low_same (response_of input) (response-ascii input)
