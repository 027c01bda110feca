-- What is named as the reason for what a reading shows holds.
-- Assumes nothing.
use mathlib.Core.Path.{◌≡◌, refl, sym, ap, subst, ◌∙◌}
use Prim.Native.Nat.{ℕ, ◌-◌, ◌*◌, ◌^◌, ◌≤◌, ◌<◌}
use native.Mathlib.Nat.{mul_assoc}
use native.Mathlib.Omega.{arith}
use mathlib.Core.Bool.{Bool, true, false, cond, not, ◌&&◌}
use mathlib.Core.List.{List, [], ◌∷◌}
use mathlib.Core.Option.{none, some}
use borrow.Author.Tests.{le-ltb}
use lib.Dec.{T, leb, eqb, leb→le, ltb→lt}
use lib.ListN.{length}
use lib.IntN.{nat_abs}
use Rattle.values.specs.declared.Number.{Number}
use Rattle.values.specs.declared.Day.{Day}
use Rattle.values.specs.declared.Millisecond.{Millisecond}
use Rattle.values.specs.declared.Value.{Value}
use Rattle.values.specs.declared.Value.TheVariants as value
use Rattle.values.specs.declared.Ask.{Ask}
use Rattle.values.specs.Ranges.{number_in_range, value_in_range, in_range}
use Rattle.lists.specs.Lists.{every, count, is_empty}
use Rattle.lists.proofs.Bools.{by_cases, cond_both, cond-case, and_left, and_right, true-T}
use Rattle.calendar.specs.Clock.{since_day_zero}
use Rattle.figures.specs.Rounding.{Magnitude, scaled, rounds_exactly}
use Rattle.figures.specs.General.{general_decimals, general_exactly, general_too_wide}
use Rattle.figures.proofs.Tens.{ten-pos, ten-split}
use Rattle.exponents.specs.Exponent.{decimal, divided_by, mantissa_exactly}
use Rattle.cuts.specs.Cut.{whole_at, decimals_cut, general_cut, mantissa_cut}
use Rattle.cuts.specs.Beyond.{CutOf}
use Rattle.cuts.proofs.Least.{whole_by, cut_of, exact-uncut}
use Rattle.cuts.proofs.Reach.{mantissa-enough, scaled-enough, scaled-pos, divided-pos}
use Rattle.formats.specs.Items.{is_unit, Section, literal_kind, date_kind, number_kind, scientific_kind, fraction_kind, kind_of, items_fit, exponent_fits, is_percent, integer_places, decimal_places}
use Rattle.formats.specs.Limits.{section_within}
use Rattle.formats.specs.WellFormed.{section_fits, section_formed, well_formed}
use Rattle.formats.specs.Choice.{number_exact, instant_exact, zero_exact, smaller, less_than, counted, Reason, Choice, nothing, chosen, choose, TextChoice, itself, text_in, fourth_from, text_from, choose_text}
use Rattle.formats.specs.Minus.{Sign, minus, not_negative, no_item, for_negatives, nought, is_own, first_has_condition, exception_a, sign_for, sign_units}
use Rattle.formats.specs.Where.{is_text}
use Rattle.formats.specs.Text.{section_units}
use Rattle.formats.specs.Reading.{Look, Reading, refused, shown, look_of, within, takes_number, takes_instant, shows_general, section_exponent, instant_context, text_context, shows_nought, number_sign, number_units, number_exactly, instant_exactly, read_number, read_instant, read_text, read_value, reading, read_accepted, code_reading}
use Rattle.formats.specs.Accept.{sections_in, Accepted, sections, refusal, accept}
use Rattle.formats.proofs.Accepted.{accepted-sections, accepted-formed}
use Rattle.formats.proofs.Exactness.{exactly-number, exactly-general, exactly-scientific}
use Rattle.formats.proofs.Chosen.{chosen-passes}
use Rattle.formats.proofs.Cutting.{scientific-some, exponent-rules}
use Rattle.grounds.specs.declared.ChosenBy.TheVariants as by
use Rattle.grounds.specs.declared.Minus.{Minus}
use Rattle.grounds.specs.declared.Minus.TheVariants as held
use Rattle.grounds.specs.declared.Grounds.{Grounds}
use Rattle.grounds.specs.Numbers.{minus_number}
use Rattle.grounds.specs.Why.{minus_of, number_cut, chosen_grounds, untried, number_grounds, instant_grounds, text_grounds, grounds_of, why_read, why_of, why_accepted, code_why}
use Rattle.grounds.specs.Because.{section_named, minus_units, shown_through, named_text, ChosenBecause, FirstOf, minus_tests, CutBecause, NumberBecause, TextTakenBy, fourth, text, no_section, Because, WhyHolds}
use Rattle.grounds.proofs.Taking.{own-named, tried-none, Went, chosen-went}

-- ---- the minus
-- the first of the four tests that holds is the one named, and a text is none
sign-first : (a b c d : Bool)
    → FirstOf (false ∷ a ∷ b ∷ c ∷ d ∷ []) (minus_number (minus_of (cond a not_negative (cond b no_item (cond c for_negatives (cond d nought minus))))))
unfolding minus_of every
sign-first true b c d = record { applies = λ h. refl; not_earlier = refl; none = λ e. absurd (omega arith) }
sign-first false true c d = record { applies = λ h. refl; not_earlier = refl; none = λ e. absurd (omega arith) }
sign-first false false true d = record { applies = λ h. refl; not_earlier = refl; none = λ e. absurd (omega arith) }
sign-first false false false true = record { applies = λ h. refl; not_earlier = refl; none = λ e. absurd (omega arith) }
sign-first false false false false = record { applies = λ h. absurd (omega arith); not_earlier = refl; none = λ e. refl }

sign-named : (g : Sign) → sign_units g ≡ minus_units (minus_of g)
unfolding sign_units minus_units minus_of
sign-named minus = refl
sign-named not_negative = refl
sign-named no_item = refl
sign-named for_negatives = refl
sign-named nought = refl

-- ---- the section
module _ (ss : List Section) (i : ℕ) (s : Section) (why : Reason) (m : Minus) (cut : ℕ) where
  abbrev g : Grounds
  g = chosen_grounds ss i why m cut

  chosen-because : (look : Look) → look.section ≡ i → {x : _} → Went ss x i s why → ChosenBecause ss x s look g
  unfolding chosen_grounds
  chosen-because look e w =
      record {
        shown = e;
        section = w.named;
        choice = w.choice;
        earlier = record {
          few = w.few;
          first = λ h. w.rejected 0 h;
          second = λ h. w.rejected 1 h;
          no_first = λ h. tried-none ss i 0 (omega arith);
          no_second = λ h. tried-none ss i 1 (omega arith);
        };
      }

-- ---- the decimals cut
-- the rules that a section's decimals need
record Rules (s : Section) : Type 0 where
  formed : T (section_formed s)
  decimals : decimal_places s.items ≤ 15
  thousands : s.thousands ≤ 5

rules : (ss : List Section) (x : Number) (i : ℕ) (s : Section) (why : Reason) → T (well_formed ss) → choose ss (number_exact x) ≡ chosen i s why → Rules s
unfolding well_formed section_formed section_fits section_within
rules ss x i s why formed e =
    let all : T (every section_formed ss) = search (and_left, and_right) in
    let one : T (section_formed s) = chosen-passes section_formed ss (number_exact x) i s why all e in
    search (and_left, and_right, leb→le) depth 16

scientific-places : (s : Section) → T (section_formed s) → kind_of s ≡ scientific_kind → 1 ≤ integer_places s.items
unfolding section_formed section_fits items_fit kind_of
scientific-places s formed kind =
    let fits : T (exponent_fits s.items) = search (and_left, and_right) depth 16 in
    (exponent-rules s.items (scientific-some s.items kind) fits).integer

-- a number that thirty decimals write
cut-because : (m : Magnitude) (kept : ℕ) (look : Look) (g : Grounds) → kept ≤ 15 → 0 < m.below → whole_at m 30 ≡ true
    → g.cut ≡ decimals_cut m kept → look.exact ≡ rounds_exactly m kept → CutBecause m kept look g
cut-because m kept look g most pos enough ec ee =
    record {
      cut = subst (CutOf m kept) (sym ec) (cut_of m kept enough pos);
      exact = ee ∙ exact-uncut m kept most pos enough ∙ ap (λ (n : ℕ). eqb n 0) (sym ec);
    }

-- the number itself
decimal-enough : (m s : ℕ) → s ≤ 15 → whole_at (decimal m s) 30 ≡ true
decimal-enough m s h =
    whole_by (decimal m s) 30 (m * 10 ^ (30 - s)) (ap (λ (p : ℕ). m * p) (ten-split s 30 (omega arith)) ∙ sym (mul_assoc m (10 ^ (30 - s)) (10 ^ s)))

general-most : (x : Magnitude) → general_decimals x ≤ 15
unfolding general_decimals
general-most x = omega arith

-- by the kind of the section
module _ (s : Section) (x : Number) where
  pub cut-general : shows_general (kind_of s) ≡ true → number_cut s x ≡ general_cut (number_exact x).size
  unfolding number_cut
  cut-general shows = rw shows

  pub cut-scientific : kind_of s ≡ scientific_kind
      → number_cut s x ≡ mantissa_cut (number_exact x).size (integer_places s.items) (decimal_places s.items)
  unfolding number_cut shows_general
  cut-scientific kind = rw kind

  pub cut-number : kind_of s ≡ number_kind
      → number_cut s x
      ≡ decimals_cut (scaled (nat_abs x.coefficient) x.scale (count is_percent s.items) s.thousands) (decimal_places s.items)
  unfolding number_cut shows_general
  cut-number kind = rw kind

  pub cut-fraction : kind_of s ≡ fraction_kind → number_cut s x ≡ 0
  unfolding number_cut shows_general
  cut-fraction kind = rw kind

  pub cut-literal : kind_of s ≡ literal_kind → number_cut s x ≡ 0
  unfolding number_cut shows_general
  cut-literal kind = rw kind

  -- which shows no number
  pub cut-date : kind_of s ≡ date_kind → number_cut s x ≡ 0
  unfolding number_cut shows_general
  cut-date kind = rw kind

-- ---- a number
module _ (ss : List Section) (x : Number) (i : ℕ) (s : Section) (why : Reason) (formed : T (well_formed ss)) (range : T (number_in_range x))
    (e : choose ss (number_exact x) ≡ chosen i s why) where
  abbrev look : Look
  look = look_of (number_units ss i s why x) s.colour i (number_exactly s x)

  abbrev because : Grounds
  because = chosen_grounds ss i why (minus_of (number_sign ss i s why x)) (number_cut s x)

  small : nat_abs x.coefficient < 10 ^ 15
  small = search (and_left, ltb→lt)

  scale : x.scale ≤ 15
  scale = search (and_right, leb→le)

  went : Went ss (number_exact x) i s why
  went = chosen-went ss (number_exact x) formed i s why e

  minus-because : FirstOf (minus_tests ss x s because) (minus_number because.minus)
  unfolding minus_tests number_sign sign_for chosen_grounds
  minus-because =
      rw (← own-named (counted ss) why)
      (sign-first (not (less_than (number_exact x) zero_exact)) (is_empty s.items) (exception_a (counted ss) i (is_own why) (first_has_condition ss)) (shows_nought s x))

  number-because : NumberBecause ss x look because
  unfolding chosen_grounds section_exponent general_cut mantissa_cut general_exactly mantissa_exactly number_exact
  number-because =
      let r : Rules s = rules ss x i s why formed e in
      let m : ℕ = nat_abs x.coefficient in
      record {
        taker = s;
        chosen = chosen-because ss i s why (minus_of (number_sign ss i s why x)) (number_cut s x) look refl went;
        minus = minus-because;
        number = λ kind.
            cut-because (scaled m x.scale (count is_percent s.items) s.thousands) (decimal_places s.items) look because r.decimals
            (scaled-pos m x.scale (count is_percent s.items) s.thousands)
            (scaled-enough m x.scale (count is_percent s.items) s.thousands scale r.thousands)
            (cut-number s x kind) (exactly-number s x kind);
        scientific = λ kind.
            cut-because (divided_by (decimal m x.scale) (section_exponent s x)) (decimal_places s.items) look because r.decimals
            (divided-pos m x.scale (section_exponent s x))
            (mantissa-enough m x.scale (integer_places s.items) (decimal_places s.items) small scale (scientific-places s r.formed kind) r.decimals)
            (cut-scientific s x kind) (exactly-scientific s x kind);
        general = λ shows.
            cut-because (decimal m x.scale) (general_decimals (decimal m x.scale)) look because (general-most (decimal m x.scale))
            (ten-pos x.scale) (decimal-enough m x.scale scale) (cut-general s x shows) (exactly-general s x shows);
        literal = cut-literal s x;
        fraction = cut-fraction s x;
      }

  number-text : (lent : List ℕ) → look.text ≡ named_text ss (value.Number x) lent because.section because.minus
  unfolding chosen_grounds named_text shown_through number_units
  number-text lent = rw (went.named, sign-named (number_sign ss i s why x)) refl

-- ---- an instant
instant-above : (d : Day) (m : Millisecond) → less_than (instant_exact d m) zero_exact ≡ false
unfolding less_than instant_exact smaller
instant-above d m = le-ltb (since_day_zero d.0 m.0 * 1) (0 * 86400000) (omega arith)

module _ (ss : List Section) (d : Day) (m : Millisecond) (i : ℕ) (s : Section) (why : Reason) (formed : T (well_formed ss))
    (e : choose ss (instant_exact d m) ≡ chosen i s why) where
  abbrev dated : Look
  dated = look_of (section_units (instant_context s d m) s.items) s.colour i (instant_exactly s m)

  instant-because : (lent : List ℕ) → Because ss (value.Instant d m) lent dated (chosen_grounds ss i why held.NotBelow 0)
  unfolding chosen_grounds named_text shown_through minus_units
  instant-because lent =
      let w : Went ss (instant_exact d m) i s why = chosen-went ss (instant_exact d m) formed i s why e in
      record {
        text = rw w.named refl;
        facts = record {
          taker = s;
          chosen = chosen-because ss i s why held.NotBelow 0 dated refl w;
          minus = refl;
          not_below = instant-above d m;
          cut = refl;
        };
      }

-- ---- a text
-- the section that it goes to, which is one of them, or none
abbrev TextGoes : List Section → TextChoice → Type 0
TextGoes ss itself = (TextTakenBy ss 4 by.NoSection) × (section_named ss 4 ≡ none)
TextGoes ss (text_in i s) = (TextTakenBy ss i by.TextSection) × (section_named ss i ≡ some s)

text-goes : (ss : List Section) → TextGoes ss (choose_text ss)
unfolding choose_text fourth_from text_from section_named every
text-goes [] = (no_section refl refl, refl)
text-goes (a ∷ []) = by_cases (is_text a) (λ h. rw h (text 0 a refl refl h, refl)) (λ h. rw h (no_section refl (rw h refl), refl))
text-goes (a ∷ b ∷ []) =
    by_cases (is_text a) (λ h. rw h (text 0 a refl refl h, refl))
    (λ h. by_cases (is_text b) (λ k. rw (h, k) (text 1 b refl refl k, refl)) (λ k. rw (h, k) (no_section refl (rw (h, k) refl), refl)))
text-goes (a ∷ b ∷ c ∷ []) =
    by_cases (is_text a) (λ h. rw h (text 0 a refl refl h, refl))
    (λ h. by_cases (is_text b) (λ k. rw (h, k) (text 1 b refl refl k, refl))
    (λ k. by_cases (is_text c) (λ l. rw (h, k, l) (text 2 c refl refl l, refl)) (λ l. rw (h, k, l) (no_section refl (rw (h, k, l) refl), refl))))
text-goes (a ∷ b ∷ c ∷ d ∷ ss) = (fourth d refl, refl)

-- ---- what a reading shows
abbrev WhereShown : (Look → Type 0) → Reading → Type 0
WhereShown P (refused a) = Unit {0}
WhereShown P (shown look) = P look

module _ (ss : List Section) (lent : List ℕ) (room : ℕ) where
  number-shown : (x : Number) → T (well_formed ss) → T (number_in_range x) → (c : Choice) → choose ss (number_exact x) ≡ c
      → WhereShown (λ (look : Look). Because ss (value.Number x) lent look (number_grounds ss x c)) (read_number ss x room c)
  unfolding read_number within number_grounds
  number-shown x formed range nothing e = tt
  number-shown x formed range (chosen i s why) e =
      let P : Reading → Type 0 = WhereShown (λ (look : Look). Because ss (value.Number x) lent look (number_grounds ss x (chosen i s why))) in
      cond_both P (not (takes_number (kind_of s))) tt
      (cond_both P (shows_general (kind_of s) && general_too_wide (number_exact x).size) tt
      (cond_both P (leb (length (number_units ss i s why x)) room)
      (record { text = number-text ss x i s why formed range e lent; facts = number-because ss x i s why formed range e }) tt))

  instant-shown : (d : Day) (m : Millisecond) → T (well_formed ss) → (c : Choice) → choose ss (instant_exact d m) ≡ c
      → WhereShown (λ (look : Look). Because ss (value.Instant d m) lent look (instant_grounds ss c)) (read_instant d m room c)
  unfolding read_instant within instant_grounds
  instant-shown d m formed nothing e = tt
  instant-shown d m formed (chosen i s why) e =
      let P : Reading → Type 0 = WhereShown (λ (look : Look). Because ss (value.Instant d m) lent look (instant_grounds ss (chosen i s why))) in
      cond_both P (not (takes_instant (kind_of s))) tt
      (cond_both P (leb (length (section_units (instant_context s d m) s.items)) room) (instant-because ss d m i s why formed e lent) tt)

  text-shown : (c : TextChoice) → TextGoes ss c → WhereShown (λ (look : Look). Because ss value.Text lent look (text_grounds c)) (read_text lent room c)
  unfolding read_text within text_grounds untried named_text shown_through minus_units
  text-shown itself (taken, none-there) =
      cond_both (WhereShown (λ (look : Look). Because ss value.Text lent look (text_grounds itself))) (leb (length lent) room)
      (record {
        text = rw none-there refl;
        facts = record { shown = refl; choice = taken; first = refl; second = refl; minus = refl; cut = refl };
      }) tt
  text-shown (text_in i s) (taken, there) =
      cond_both (WhereShown (λ (look : Look). Because ss value.Text lent look (text_grounds (text_in i s))))
      (leb (length (section_units (text_context lent) s.items)) room)
      (record {
        text = rw there refl;
        facts = record { shown = refl; choice = taken; first = refl; second = refl; minus = refl; cut = refl };
      }) tt

  value-shown : (v : Value) → T (well_formed ss) → T (value_in_range v lent)
      → WhereShown (λ (look : Look). Because ss v lent look (grounds_of ss v)) (read_value ss v lent room)
  unfolding read_value grounds_of
  value-shown (value.Number x) formed range = number-shown x formed range (choose ss (number_exact x)) refl
  value-shown (value.Instant d m) formed range = instant-shown d m formed (choose ss (instant_exact d m)) refl
  value-shown value.Text formed range = text-shown (choose_text ss) (text-goes ss)

  -- the reason for what sections show holds
  because-shown : (ask : Ask) → T (well_formed ss) → WhereShown (λ (look : Look). Because ss ask.value lent look (grounds_of ss ask.value)) (reading ss ask lent room)
  unfolding reading
  because-shown ask formed =
      cond-case (WhereShown (λ (look : Look). Because ss ask.value lent look (grounds_of ss ask.value))) (in_range ask lent)
      (λ h. value-shown ask.value formed (true-T h)) (λ h. tt)

-- what is answered why of a reading, where what is shown has these grounds
pub why-read : (ss : List Section) (v : Value) (lent : List ℕ) (g : Grounds) (r : Reading)
    → WhereShown (λ (look : Look). Because ss v lent look g) r → WhyHolds ss v lent r (why_read r g)
unfolding why_read
why-read ss v lent g (refused a) h = refl
why-read ss v lent g (shown look) h = record { look = look; seen = refl; because = h }

-- the law of the reason that sections give
pub why-holds : (ss : List Section) (ask : Ask) (lent : List ℕ) (room : ℕ) → T (well_formed ss)
    → WhyHolds ss ask.value lent (reading ss ask lent room) (why_of ss ask lent room)
unfolding why_of
why-holds ss ask lent room formed =
    why-read ss ask.value lent (grounds_of ss ask.value) (reading ss ask lent room) (because-shown ss lent room ask formed)

-- and of the one that a code gives
accepted-holds : (code : List ℕ) (ask : Ask) (lent : List ℕ) (room : ℕ) → T (every is_unit code) → (a : Accepted) → accept code ≡ a
    → WhyHolds (sections_in code) ask.value lent (read_accepted a ask lent room) (why_accepted a ask lent room)
unfolding read_accepted why_accepted
accepted-holds code ask lent room known (refusal a k) h = refl
accepted-holds code ask lent room known (sections ss) h =
    rw (accepted-sections code ss h).1 (why-holds ss ask lent room (accepted-formed code ss known h))

pub code-why-holds : (code : List ℕ) (ask : Ask) (lent : List ℕ) (room : ℕ) → T (every is_unit code)
    → WhyHolds (sections_in code) ask.value lent (code_reading code ask lent room) (code_why code ask lent room)
unfolding code_reading code_why
code-why-holds code ask lent room known = accepted-holds code ask lent room known (accept code) refl
