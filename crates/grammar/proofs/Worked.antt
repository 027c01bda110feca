-- Codes that the grammar derives, of every kind, and codes that nothing derives.
-- Assumes nothing.
use Prim.Native.String.{String}
use mathlib.Core.Path.{◌≡◌, refl, sym, ap, ◌∙◌}
use mathlib.Core.Bool.{Bool, true, false, true≢false}
use mathlib.Core.List.{List, [], ◌∷◌}
use Rattle.lists.specs.Lists.{every, any, All}
use Rattle.lists.proofs.Bools.{by_cases}
use Rattle.calendar.specs.Names.{units}
use Rattle.formats.specs.Accept.{Verdict, fine, refused, verdict}
use Rattle.formats.proofs.Evaluate.{evaluated}
use Rattle.grammar.specs.Codes.{Derives}
use Rattle.grammar.proofs.Tests.{every-parts}
use Rattle.grammar.proofs.Exact.{accepts-exactly}

unfoldable is_fine : Verdict → Bool
is_fine fine = true
is_fine (refused a k) = false

unfoldable is_taken : String → Bool
is_taken c = is_fine (verdict (units c))

fine-verdict : (v : Verdict) → is_fine v ≡ true → v ≡ fine
unfolding is_fine
fine-verdict fine e = refl
fine-verdict (refused a k) e = absurd (true≢false (sym e))

all-derived : (cs : List String) → every is_taken cs ≡ true → All (λ (c : String). Derives (units c)) cs
unfolding is_taken
all-derived [] e = tt
all-derived (c ∷ cs) e =
    let (a, b) = every-parts is_taken c cs e in
    ((accepts-exactly (units c)).0 (fine-verdict (verdict (units c)) a), all-derived cs b)

none-derived : (cs : List String) → any is_taken cs ≡ false → All (λ (c : String). Derives (units c) → ⊥) cs
unfolding any is_taken is_fine
none-derived [] e = tt
none-derived (c ∷ cs) e =
    by_cases (is_taken c)
    (λ h. absurd (true≢false (rw h at e)))
    (λ h. ((λ d. true≢false (ap is_fine (sym ((accepts-exactly (units c)).1 d)) ∙ h)), none-derived cs (rw h at e)))

-- A number in two sections, a date, an elapsed time, text, General and a literal; scientific ones, with a condition, with literals before the
-- E and among the exponent places, with a `/` that is not directly between places; fractions, with and without integer places, with places and
-- with a number below, with a blank beside the literal, with a `/` behind; and where 01 and 004 part, what 01 takes. Added:
-- percents at both ends, a comma and other points in a date, a bare literal, a `/` in a number that is not directly between
-- places, a comma behind a bare point. 004's own: an empty section. The rule for m: an elapsed m beside a month, which a day keeps from the
-- seconds.
unfoldable pub taken : List String
taken =
    "#,##0;[Red](0.0)" ∷ "h:mm AM/PM" ∷ "[mm]:ss.00" ∷ "0;0;0;@\"x\"" ∷ "[<1]General" ∷ "\\x"
    ∷ "[<1]##0.00E+000;0E-#" ∷ "0.\"x\"E+0_x0" ∷ "0/E+/0"
    ∷ "#?/?" ∷ "0-0 00/???" ∷ "_x?/?" ∷ "[<1]0_x\" \"0/80;0/8/" ∷ "0/999" ∷ "0*x/0*y"
    ∷ "%0%" ∷ "d, mmm. yy" ∷ "ss./" ∷ "$0" ∷ "0,/0" ∷ "0.," ∷ "0;" ∷ "[m] m" ∷ "[m] m d s" ∷ []

pub taken-derived : All (λ (c : String). Derives (units c)) taken
unfolding taken is_taken is_fine evaluated
taken-derived = all-derived taken refl

-- A whole run of three y, and text that does not stand last; and what 01 cuts: a locale, an exponent in a
-- condition, a date beside General, half-day marks outside dates, a number without a place, a second point, other commas, parts
-- of a second, a split run, a literal before a colour. The rule for m: an elapsed m beside minutes. And what
-- 02 cuts of scientific: an E without its sign; no integer place, no exponent place, more than three of them; a comma, a percent, a second E, a
-- second point; a point and a `?` behind the E; a `/` directly between places; an E beside a date or text; the fourth section. Of fractions: a number that
-- begins with 0, or does not stand directly behind a `/` behind a place; a second solidus, a place behind, a number among places; a point, a comma,
-- a percent, an E, a date, text; a blank or a fill instead of a literal, a fill that breaks the run; the limits; the fourth section.
unfoldable pub cut : List String
cut =
    "yyy" ∷ "0;@;0" ∷ "[$-409]0" ∷ "[>1E+1]General" ∷ "d General" ∷ "0 AM/PM" ∷ "@ A/P" ∷ "." ∷ "0.0.0"
    ∷ ",0" ∷ "0.0,0" ∷ "h.0" ∷ "s*x.0" ∷ "hhh" ∷ " [Red]0" ∷ "[m] m s"
    ∷ "0E0" ∷ ".0E+0" ∷ "0E+" ∷ "0E+0000" ∷ "0,0E+0" ∷ "0%E+0" ∷ "0E+0E+0" ∷ "0..E+0" ∷ "0E+0." ∷ "0E+?" ∷ "0/0E+0" ∷ "0E+0/0"
    ∷ "d E+0" ∷ "@E+0" ∷ "0;;;0E+0"
    ∷ "0/08" ∷ "\\0/8" ∷ "0 /8" ∷ "0/8/8" ∷ "0/0/0" ∷ "0/0 0" ∷ "0/8?" ∷ "?/1?" ∷ "0.0/8" ∷ "0,0/0" ∷ "0/8%" ∷ "0E+0/8" ∷ "s.0/8" ∷ "0/8@"
    ∷ "0_x0/0" ∷ "0*x0/0" ∷ "0 0*x0/0*y" ∷ "0/0000" ∷ "0/1000" ∷ "0/10000000000000000" ∷ "000000000000000000000/0" ∷ "000000000000000000000 0/0"
    ∷ "0;;;0/0" ∷ []

pub cut-underived : All (λ (c : String). Derives (units c) → ⊥) cut
unfolding cut is_taken is_fine evaluated
cut-underived = none-derived cut refl
