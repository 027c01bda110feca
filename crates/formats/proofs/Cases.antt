-- "Cases to settle by hand", what is easily got wrong, refusals with their places, and parts of codes: for each one list, and a
-- single statement over its rows.
-- Assumes nothing.
use Prim.Native.Nat.{ℕ}
use Prim.Native.String.{String}
use mathlib.Core.Bool.{Bool, true, false}
use mathlib.Core.List.{List, [], ◌∷◌, map}
use mathlib.Core.Path.{◌≡◌, refl}
use lib.IntN.{ℤ, pos, negsuc}
use lib.ListN.{length, replicate}
use Rattle.answers.specs.declared.Refusal.{Refusal}
use Rattle.answers.specs.declared.Refusal.TheVariants as answer
use Rattle.values.specs.declared.Ask.{Ask}
use Rattle.values.specs.declared.Value.TheVariants as value
use Rattle.values.specs.Ranges.{asked}
use Rattle.lists.specs.Lists.{All}
use Rattle.calendar.specs.Names.{units}
use Rattle.formats.specs.Accept as accept
use Rattle.formats.specs.Accept.{Verdict, fine, verdict, section_span, section_part}
use Rattle.formats.specs.Reading.{Reading, refused, shown, look_of, code_reading}
use Rattle.formats.proofs.Evaluate.{evaluated}

-- rows whose computed lists are one list are right, each of them
pub all-equal : {A B : Type 0} (f g : A → B) (xs : List A) → map f xs ≡ map g xs → All (λ (x : A). f x ≡ g x) xs
all-equal f g [] e = tt
all-equal f g (x ∷ xs) e = (cc, all-equal f g xs (cc))

-- a code, what is asked of it with the text and the room that are lent, and its reading
pub record Case : Type 0 where
  pub code : String
  pub ask : Ask
  pub text : List ℕ
  pub room : ℕ
  pub answer : Reading

abbrev pub number : ℤ → ℕ → Ask
number c scale = asked (value.Number (record { coefficient = c; scale = scale }))

abbrev pub instant : ℕ → ℕ → Ask
instant day ms = asked (value.Instant (record { 0 = day }) (record { 0 = ms }))

abbrev pub a_text : Ask
a_text = asked value.Text

abbrev pub seen : String → ℕ → ℕ → Bool → Reading
unfolding units
seen text colour section exact = shown (look_of (units text) colour section exact)

-- without a text, in a room of 4,096 units
abbrev pub gives : String → Ask → Reading → Case
gives code ask answer = record { code = code; ask = ask; text = []; room = 4096; answer = answer }

-- exactly, and not
abbrev pub shows : String → Ask → String → ℕ → Case
shows code ask text section = gives code ask (seen text 0 section true)

abbrev pub about : String → Ask → String → ℕ → Case
about code ask text section = gives code ask (seen text 0 section false)

abbrev pub colours : String → Ask → String → ℕ → ℕ → Case
colours code ask text colour section = gives code ask (seen text colour section true)

abbrev pub denies : String → Ask → Refusal → Case
denies code ask a = gives code ask (refused a)

-- a text, and what is shown of it
abbrev pub of_text : String → String → String → ℕ → ℕ → Case
unfolding units
of_text code text result colour section =
    record { code = code; ask = a_text; text = units text; room = 4096; answer = seen result colour section true }

abbrev pub read : Case → Reading
read c = code_reading (units c.code) c.ask c.text c.room

abbrev pub Right : Case → Type 0
Right c = read c ≡ c.answer

unfoldable pub cases : List Case
unfolding units seen
cases =
    shows "#,##0" (number (pos 12000) 0) "12,000" 0
    ∷ shows "0.0,," (number (pos 12200000) 0) "12.2" 0
    ∷ shows "#.0#" (number (pos 123) 0) "123.0" 0
    ∷ shows "000-00-0000" (number (pos 123456789) 0) "123-45-6789" 0
    ∷ shows "0%" (number (negsuc 2) 0) "-300%" 0
    ∷ about "0" (number (negsuc 2) 1) "0" 0
    ∷ about "0.0" (number (negsuc 4) 2) "-0.1" 0
    ∷ shows "[>100]0;0" (number (negsuc 4) 0) "-5" 1
    ∷ shows "#,##0;(#,##0)" (number (negsuc 2) 0) "(3)" 1
    ∷ denies "[>=10]0;[<0]0" (number (pos 5) 0) answer.NoSection
    ∷ shows "h.mm AM/PM" (instant 0 53760000) "2.56 PM" 0
    ∷ shows "d-mmm-yy" (instant 28086 0) "22-Nov-76" 0
    ∷ []

pub cases-right : All Right cases
unfolding cases evaluated
cases-right = all-equal read (λ (c : Case). c.answer) cases refl

-- what is easily got wrong, in the order of document 01's headings
unfoldable pub slips : List Case
unfolding units seen of_text
slips =
    -- out of range: a scale of 16, a day that is no more, where General would refuse it by 11, a text of 1,025 units
    denies "0" (number (pos 1) 16) answer.Range
    ∷ denies "General" (instant 2958466 0) answer.Range
    ∷ record { code = "@"; ask = a_text; text = replicate 1025 97; room = 4096; answer = refused answer.Range }
    -- a semicolon in quotes, and behind each mark; an elapsed run of nine letters
    ∷ shows "\"a;b\"0" (number (pos 1) 0) "a;b1" 0
    ∷ shows "\\;_;*;" (number (pos 1) 0) "; " 0
    ∷ about "[sssssssss]" (instant 0 5999) "000000005" 0
    -- a colour by its number and by its name, of a number, an instant and a text
    ∷ colours "[Red]0;[Color56]0" (number (negsuc 4) 0) "5" 56 1
    ∷ colours "[Green]h:mm" (instant 0 53760000) "14:56" 4 0
    ∷ of_text "[Blue]\"<\"@\">\"" "ab" "<ab>" 5 0
    -- each comparison at its bound, and with a number below 0, which minus zero is not
    ∷ shows "[<5]\"a\";\"b\"" (number (pos 5) 0) "b" 1
    ∷ shows "[<=5]\"a\";\"b\"" (number (pos 5) 0) "a" 0
    ∷ shows "[>5]\"a\";\"b\"" (number (pos 5) 0) "b" 1
    ∷ shows "[>=10]\"a\";\"b\"" (number (pos 100) 1) "a" 0
    ∷ shows "[<>5]\"a\";\"b\"" (number (pos 5) 0) "b" 1
    ∷ shows "[<-5]\"a\";\"b\"" (number (negsuc 3) 0) "-b" 1
    ∷ shows "[=-0]\"a\";\"b\"" (number (pos 0) 0) "a" 0
    -- compared exactly: the last millionth, a part of it, and a millisecond to either side of noon
    ∷ shows "[=0.000001]\"a\";\"b\"" (number (pos 1) 6) "a" 0
    ∷ shows "[=0]\"a\";\"b\"" (number (pos 1) 7) "b" 1
    ∷ about "[=0.5]h;m" (instant 0 43199999) "1" 1
    ∷ shows "[=0.5]h;m" (instant 0 43200000) "12" 0
    ∷ about "[=0.5]h;m" (instant 0 43200001) "1" 1
    -- without conditions: two and three sections at 0; 10 comes before 11; N = 0 shows a number as General and refuses an instant
    ∷ shows "\"a\";\"b\"" (number (pos 0) 0) "a" 0
    ∷ shows "h;h;\"zero\"" (instant 0 0) "zero" 2
    ∷ denies "[>=10]h;[<0]h" (number (pos 5) 0) answer.NoSection
    ∷ shows "\"x\"@\"y\"@" (number (negsuc 14) 1) "-x1.5y1.5" 0
    ∷ denies "@" (instant 1 0) answer.Sort
    -- a text: in the fourth section, where General stands for it; in a text section; by no section
    ∷ of_text "0;0;0;\"x\"General" "ab" "xab" 0 3
    ∷ of_text "0;0;0;" "ab" "" 0 3
    ∷ of_text "0;\"t\"@" "ab" "tab" 0 1
    ∷ of_text "[Red]General" "ab" "ab" 0 4
    -- sorts that a section refuses
    ∷ denies "0" (instant 1 0) answer.Sort
    ∷ denies "General" (instant 1 0) answer.Sort
    ∷ denies "h" (number (pos 1) 0) answer.Sort
    -- the minus: of a literal section, by an own condition, held back by (a) where N = 3, the fourth being none, and by no item
    ∷ shows "\"The End\"" (number (negsuc 12344) 2) "-The End" 0
    ∷ shows "0;[<0](0)" (number (negsuc 4) 0) "-(5)" 1
    ∷ shows "[>100]0;0;0" (number (negsuc 4) 0) "5" 1
    ∷ shows "0;0;0;" (number (negsuc 4) 0) "5" 1
    ∷ colours "[Red]" (number (negsuc 4) 0) "" 3 0
    -- General up to 10^11
    ∷ about "General" (number (pos 999999999994) 1) "99999999999" 0
    ∷ denies "General" (number (pos 999999999995) 1) answer.General
    -- 29 February 1900 and day 0
    ∷ shows "dddd, mmmm d, yyyy" (instant 60 0) "Wednesday, February 29, 1900" 0
    ∷ shows "ddd dd mmmmm" (instant 0 0) "Sat 00 J" 0
    -- noon; a part of a second; a month behind seconds; elapsed hours with minutes behind them; elapsed minutes
    ∷ shows "h:mm AM/PM" (instant 0 43200000) "12:00 PM" 0
    ∷ about "s.00" (instant 0 1239) "1.23" 0
    ∷ shows "s m" (instant 60 307000) "7 2" 0
    ∷ shows "[h]:mm" (instant 1 3660000) "25:01" 0
    ∷ about "[mm]:ss" (instant 1 61999) "1441:01" 0
    -- minutes before seconds, over a half-day mark and before elapsed ones; by the nearest run alone: not over a day, nor over minutes;
    -- a month of three letters; seconds of another section
    ∷ shows "mm:ss" (instant 60 307000) "05:07" 0
    ∷ shows "m A/P s" (instant 60 307000) "5 A 7" 0
    ∷ shows "m [ss]" (instant 60 307000) "5 5184307" 0
    ∷ shows "m d s" (instant 60 307000) "2 29 7" 0
    ∷ shows "mm:mm:ss" (instant 60 307000) "02:05:07" 0
    ∷ shows "mmm:ss" (instant 60 307000) "Feb:07" 0
    ∷ about "m;s" (instant 60 307000) "2" 0
    -- a text that is longer than the room is refused whole
    ∷ record { code = "00000000000000000"; ask = number (pos 1) 0; text = []; room = 16; answer = refused answer.TextRoom }
    ∷ []

pub slips-right : All Right slips
unfolding slips evaluated
slips-right = all-equal read (λ (c : Case). c.answer) slips refl

-- scientific sections (R126 to R129)
unfoldable pub scientifics : List Case
unfolding units seen
scientifics =
    shows "0.00E+00" (number (pos 1) 0) "1.00E+00" 0
    -- the exponent is a multiple of the integer places, whatever stands between them, below 0 too
    ∷ shows "#0.0E+0" (number (pos 12200000) 0) "12.2E+6" 0
    ∷ about "0-0E+0" (number (pos 1230) 0) "1-2E+2" 0
    ∷ shows "##0.0E+0" (number (pos 3) 0) "3.0E+0" 0
    ∷ shows "##0.0E+0" (number (pos 3) 1) "300.0E-3" 0
    ∷ shows "000.0E+0" (number (pos 12) 0) "012.0E+0" 0
    -- it is told after rounding
    ∷ about "0E+0" (number (pos 94) 2) "9E-1" 0
    ∷ about "0E+0" (number (pos 95) 2) "1E+0" 0
    ∷ about "0.0E+0" (number (pos 995) 2) "1.0E+1" 0
    ∷ about "##0.0E+0" (number (pos 99995) 2) "1.0E+3" 0
    -- zero, by its marks; a number below 0 keeps its minus, however small
    ∷ shows "#.00E+00" (number (pos 0) 0) ".00E+00" 0
    ∷ shows "0E+0" (number (negsuc 0) 15) "-1E-15" 0
    -- `E-` shows a minus or nothing, and the sign stands right behind the E; `#` shows no nought, and digits beyond the places go in at the first
    ∷ shows "0E-00" (number (pos 5) 1) "5E-01" 0
    ∷ shows "0E-0" (number (pos 5) 0) "5E0" 0
    ∷ shows "0E+\"x\"0" (number (pos 5) 0) "5E+x0" 0
    ∷ shows "0E+#" (number (pos 5) 0) "5E+" 0
    ∷ shows "0E+0" (number (pos 1) 15) "1E-15" 0
    -- literals anywhere, and a `/` that is not between two places; a point without decimals
    ∷ shows "0E+0\"x\"0" (number (pos 1000000000000) 0) "1E+1x2" 0
    ∷ shows "0\"x\"E+0" (number (pos 5) 0) "5xE+0" 0
    ∷ shows "0/E+0" (number (pos 5) 0) "5/E+0" 0
    ∷ shows "0.E+0" (number (pos 50) 0) "5.E+1" 0
    -- chosen by the value, not by the mantissa; no instant
    ∷ shows "[<1]0.0E+0;0" (number (pos 5) 2) "5.0E-2" 0
    ∷ denies "0E+0" (instant 1 0) answer.Sort
    ∷ []

pub scientifics-right : All Right scientifics
unfolding scientifics evaluated
scientifics-right = all-equal read (λ (c : Case). c.answer) scientifics refl

-- fraction sections (R132 to R136)
unfoldable pub fractions : List Case
unfolding units seen
fractions =
    -- over a fixed number the nearest numerator, halves up, never reduced; else no denominator comes closer, and of two as near the smaller is taken
    shows "# ?/8" (number (pos 125) 2) "1 2/8" 0
    ∷ about "# ?/2" (number (pos 25) 2) " 1/2" 0
    ∷ shows "?/80" (number (pos 5) 1) "40/80" 0
    ∷ about "# ?/?" (number (pos 3) 1) " 2/7" 0
    ∷ shows "# ??/??" (number (pos 3) 1) "  3/10" 0
    ∷ about "# ?/?" (number (pos 3875) 4) " 2/5" 0
    ∷ about "# ?/?" (number (pos 6125) 4) " 3/5" 0
    -- with integer places of the part behind the point, else of the number whole; these stand before the run of places at the solidus
    ∷ shows "# ?/?" (number (pos 125) 1) "12 1/2" 0
    ∷ about "?/?" (number (pos 123) 1) "86/7" 0
    ∷ shows "#?/?" (number (pos 125) 2) "5/4" 0
    ∷ shows "0-0 0/8" (number (pos 1235) 1) "12-3 4/8" 0
    ∷ shows "0_x\" \"0/0" (number (pos 15) 1) "1  1/2" 0
    ∷ shows "_x?/?" (number (pos 5) 1) " 1/2" 0
    -- a fraction of 1 is carried where there are integer places; a numerator of nought is blank there, whatever the marks
    ∷ about "# ?/?" (number (pos 99) 2) "1    " 0
    ∷ about "?/?" (number (pos 99) 2) "1/1" 0
    ∷ shows "0 00/00" (number (pos 3) 0) "3      " 0
    ∷ shows "# ?/100" (number (pos 3) 0) "3      " 0
    ∷ shows "# ?/?" (number (pos 0) 0) "    " 0
    -- and without them it shows like an integer part
    ∷ shows "0/0" (number (pos 0) 0) "0/1" 0
    ∷ shows "?/?" (number (pos 0) 0) " /1" 0
    ∷ shows "#/8" (number (pos 0) 0) "/8" 0
    -- the numerator's digits beyond its places; the denominator's spare places, counted from the left
    ∷ shows "??/8" (number (pos 995) 1) "796/8" 0
    ∷ shows "0 00/00" (number (pos 5) 1) "0 01/02" 0
    ∷ shows "?/?0?" (number (pos 5) 1) "1/02 " 0
    ∷ shows "?/?0" (number (pos 5) 1) "1/2 " 0
    ∷ shows "?/0?" (number (pos 5) 1) "1/02" 0
    ∷ shows "?/#0" (number (pos 5) 1) "1/2" 0
    -- the minus is held back where whole number and numerator are nought as shown
    ∷ about "# ?/?" (number (negsuc 0) 2) "    " 0
    ∷ about "# ?/?" (number (negsuc 98) 2) "-1    " 0
    ∷ shows "# ?/?" (number (negsuc 4) 1) "- 1/2" 0
    ∷ about "?/?" (number (negsuc 0) 2) " /1" 0
    -- any other `/` is a literal; no instant
    ∷ shows "0/0/" (number (pos 5) 1) "1/2/" 0
    ∷ shows "0,/0" (number (pos 12) 0) "1/2" 0
    ∷ shows "0%/0" (number (pos 12) 0) "120%/0" 0
    ∷ shows "0./0" (number (pos 15) 1) "1./5" 0
    ∷ shows "0*x/0" (number (pos 12) 0) "1/2" 0
    ∷ denies "# ?/?" (instant 5 0) answer.Sort
    ∷ []

pub fractions-right : All Right fractions
unfolding fractions evaluated
fractions-right = all-equal read (λ (c : Case). c.answer) fractions refl

-- exact or not (R137, R138)
unfoldable pub exacts : List Case
unfolding units seen
exacts =
    -- of the scaled number, without its sign; General and `@` to their own decimals; a literal section whatever the number
    shows "0%" (number (pos 5) 1) "50%" 0
    ∷ shows "0;0" (number (negsuc 2) 0) "3" 1
    ∷ about "#" (number (pos 4) 1) "" 0
    ∷ shows "0.0E+0" (number (pos 12) 0) "1.2E+1" 0
    ∷ about "General" (number (pos 100000000004) 11) "1" 0
    ∷ about "@" (number (pos 12345678901) 11) "0.123456789" 0
    ∷ shows "\"x\"" (number (pos 4) 1) "x" 0
    -- whole number and fraction, blank or not, after the carry
    ∷ shows "# ?/?" (number (pos 3) 0) "3    " 0
    ∷ about "# ?/?" (number (pos 3001) 3) "3    " 0
    ∷ about "# ?/?" (number (pos 96) 2) "1    " 0
    ∷ shows "?/8" (number (pos 125) 2) "10/8" 0
    -- the finest unit shown, whatever is not: coarser ones do not count, nor how often one is shown
    ∷ shows "s" (instant 0 300000) "0" 0
    ∷ shows "h s" (instant 0 300000) "0 0" 0
    ∷ about "[h]" (instant 0 300000) "0" 0
    ∷ shows "s.0 s.000" (instant 0 1) "0.0 0.001" 0
    -- the day where there is none: a half-day mark is no hour, a month no minute
    ∷ shows "yyyy" (instant 1 0) "1900" 0
    ∷ about "yyyy" (instant 1 43200000) "1900" 0
    ∷ about "mmm" (instant 1 1) "Jan" 0
    ∷ about "d AM/PM" (instant 1 43200000) "1 PM" 0
    ∷ about "m" (instant 1 300000) "1" 0
    ∷ []

pub exacts-right : All Right exacts
unfolding exacts evaluated
exacts-right = all-equal read (λ (c : Case). c.answer) exacts refl

-- a code, and what the tests 1 to 6 say of it
pub record Judged : Type 0 where
  pub code : List ℕ
  pub says : Verdict

abbrev pub refuses : String → Refusal → ℕ → Judged
unfolding units
refuses code a place = record { code = units code; says = accept.refused a place }

-- each of the tests is made over the whole code before the next, and names the first that offends
unfoldable pub judgements : List Judged
unfolding units refuses
judgements =
    -- 1: no unit, 255 units; 254 are not too many
    refuses "" answer.CodeLength 0
    ∷ record { code = replicate 255 32; says = accept.refused answer.CodeLength 0 }
    ∷ record { code = replicate 254 32; says = fine }
    -- 2: before 3; the unit that starts the broken token; the first of two
    ∷ refuses ";;;;x" answer.Token 4
    ∷ refuses "0\"abc" answer.Token 1
    ∷ refuses "0yyy;x" answer.Token 1
    -- an E is `E+` or `E-`, capital and unbroken, and none stands in a bracket
    ∷ refuses "0E0" answer.Token 1
    ∷ refuses "0e+0" answer.Token 1
    ∷ refuses "0E\"x\"+0" answer.Token 1
    ∷ refuses "0E+0x" answer.Token 4
    ∷ refuses "[>1E+2]General" answer.Token 0
    -- a fixed number starts with 1 to 9, directly behind a place and its `/`, which are no literals
    ∷ refuses "0/08" answer.Token 3
    ∷ refuses "\\0/8" answer.Token 3
    ∷ refuses "? /8" answer.Token 3
    ∷ refuses "0_x/8" answer.Token 4
    ∷ refuses "0/8/8" answer.Token 4
    -- 3: before 4; a semicolon in quotes is none; a fifth semicolon
    ∷ refuses ".;;;;" answer.SectionCount 4
    ∷ refuses "0;\";\";0;0;0;0" answer.SectionCount 9
    ∷ refuses "0E+0;;;;" answer.SectionCount 7
    -- 4: before 5; the first of two
    ∷ refuses "0;@;." answer.Kind 2
    ∷ refuses "0;.;." answer.Kind 1
    -- an elapsed m beside minutes, and beside a month
    ∷ refuses "[m]:mm:ss" answer.Kind 0
    ∷ record { code = units "[m] m d s"; says = fine }
    -- scientific: no integer place, no exponent place, a second E or point; a point or `?` behind the E; a comma, a percent, a `/` between places
    ∷ refuses "E+0" answer.Kind 0
    ∷ refuses ".0E+0" answer.Kind 0
    ∷ refuses "0E+" answer.Kind 0
    ∷ refuses "0E+0E+0" answer.Kind 0
    ∷ refuses "0..E+0" answer.Kind 0
    ∷ refuses "0E+0." answer.Kind 0
    ∷ refuses "0E+0?" answer.Kind 0
    ∷ refuses "0,0E+0" answer.Kind 0
    ∷ refuses "0E+0000," answer.Kind 0
    ∷ refuses "0%E+0" answer.Kind 0
    ∷ refuses "0/0E+0" answer.Kind 0
    ∷ refuses "0E+0/0" answer.Kind 0
    -- an E in a body of another kind
    ∷ refuses "d E+0" answer.Kind 0
    ∷ refuses "@E+" answer.Kind 0
    -- fractions: a second solidus; places behind the denominator; integer places without a literal behind them, of which a fill that is not kept makes
    -- some; a point, a comma, a percent, before 6; a solidus in a body of another kind
    ∷ refuses "0/0/0" answer.Kind 0
    ∷ refuses "?/1?" answer.Kind 0
    ∷ refuses "0/0 0" answer.Kind 0
    ∷ refuses "0_x0/0" answer.Kind 0
    ∷ refuses "0 0*x0/0*y" answer.Kind 0
    ∷ refuses "0.0/8" answer.Kind 0
    ∷ refuses "0,0/0" answer.Kind 0
    ∷ refuses "0/1000%" answer.Kind 0
    ∷ refuses "s.0/8" answer.Kind 0
    ∷ refuses "0E+0/8" answer.Kind 0
    ∷ refuses "0/8@" answer.Kind 0
    -- 5: before 6; the first of two; a condition on a text and on a third section; a fourth number section and a coloured one
    ∷ refuses "[>1234567890]0" answer.Standing 0
    ∷ refuses "0;@;@;0" answer.Standing 1
    ∷ refuses "0;[>5]@" answer.Standing 1
    ∷ refuses "0;0;[>5]0" answer.Standing 2
    ∷ refuses "0;0;0;0" answer.Standing 3
    ∷ refuses "0;0;0;[Red]" answer.Standing 3
    ∷ refuses "0;;;0E+0" answer.Standing 3
    ∷ refuses "[>1]0E+0" answer.Standing 0
    ∷ refuses "0E+0000;@;0" answer.Standing 1
    ∷ refuses "0;0;0;0/0" answer.Standing 3
    ∷ refuses "[>1]0/8" answer.Standing 0
    -- 6: the first of two, in a later section; one more than each limit, and all limits reached
    ∷ refuses "0;[>1234567890]0;000000000000000000000" answer.Limit 1
    ∷ refuses "000000000000000000000" answer.Limit 0
    ∷ refuses ".0000000000000000" answer.Limit 0
    ∷ refuses "0%%%%%%" answer.Limit 0
    ∷ refuses "0,,,,,," answer.Limit 0
    ∷ refuses "[>1.0000000]General" answer.Limit 0
    ∷ refuses "[hhhhhhhhhh]" answer.Limit 0
    ∷ refuses "0E+0000" answer.Limit 0
    ∷ refuses "0/1000" answer.Limit 0
    ∷ refuses "0/10000000000000000" answer.Limit 0
    ∷ refuses "0/0000" answer.Limit 0
    ∷ refuses "0 000000000000000000000/8" answer.Limit 0
    ∷ refuses "000000000000000000000 0/0" answer.Limit 0
    ∷ record { code = units "[>123456789.123456]00000000000000000000.000000000000000%%%%%,,,,,;[hhhhhhhhh]"; says = fine }
    ∷ record { code = units "00000000000000000000.000000000000000E+000"; says = fine }
    ∷ record { code = units "00000000000000000000 00000000000000000000/999"; says = fine }
    ∷ []

pub judgements-right : All (λ (j : Judged). verdict j.code ≡ j.says) judgements
unfolding judgements evaluated
judgements-right = all-equal (λ (j : Judged). verdict j.code) (λ (j : Judged). j.says) judgements refl

-- a section of a code: where it starts, and its units
pub record Part : Type 0 where
  pub code : String
  pub section : ℕ
  pub start : ℕ
  pub units : String

abbrev pub part : String → ℕ → ℕ → String → Part
part code section start us = record { code = code; section = section; start = start; units = us }

-- without its semicolons, one in quotes being none; an empty section; a missing one; a section of a refused code
unfoldable pub parts : List Part
parts =
    part "0;\"a;b\";d" 0 0 "0"
    ∷ part "0;\"a;b\";d" 1 2 "\"a;b\""
    ∷ part "0;\"a;b\";d" 2 8 "d"
    ∷ part "0;;0" 1 2 ""
    ∷ part "0;;0" 3 0 ""
    ∷ part "0;@;0" 2 0 ""
    ∷ []

-- the span of a section, and the units that stand there
abbrev pub Cut : Part → Type 0
Cut p =
    (section_span p.section (units p.code) ≡ record { start = p.start; size = length (units p.units) })
    × (section_part p.section (units p.code) ≡ units p.units)

pub parts-right : All Cut parts
unfolding parts evaluated
parts-right = ((refl, refl), ((refl, refl), ((refl, refl), ((refl, refl), ((refl, refl), ((refl, refl), tt))))))
