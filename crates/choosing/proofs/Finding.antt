-- Where a chosen section lies, for what reason it was chosen, and what the answers of the chooser say.
-- Assumes nothing.
use Prim.Native.Nat.{ℕ, suc, ◌+◌, ◌-◌, ◌≤◌, ◌<◌}
use native.Mathlib.Omega.{arith}
use mathlib.Core.Path.{◌≡◌, refl, sym, ap, subst, ◌∙◌}
use mathlib.Core.Bool.{Bool, true, false, cond, not, ◌&&◌, ◌||◌, and-false}
use mathlib.Core.List.{List, [], ◌∷◌}
use lib.ListN.{length, get_or}
use lib.Dec.{eqb}
use borrow.Author.Tests.{eqb-true}
use Rattle.lists.proofs.Bools.{by_cases, cond_both, cond-case}
use Rattle.formats.specs.Items.{Section}
use Rattle.formats.specs.Where.{has_condition, is_text}
use Rattle.formats.specs.Choice.{Exact, counted, Reason, as_general, reason_for, reason_holds, Choice, nothing, chosen, choose_from, choose_first, choose, TextChoice, itself, text_in, fourth_from, text_from, choose_text}
use Rattle.formats.specs.Minus.{is_own, exception_a}
use Rattle.tables.specs.Decode.{decode}
use Rattle.std.specs.Prelude.{Some, None}
use Rattle.table_words.specs.Sections.{no_section, section_in}
use Rattle.table_words.proofs.Heads.{sections-length}
use Rattle.choosing.specs.Seeking.{found_of, text_found_of}
use Rattle.choosing.proofs.Choosing.{reason-own}

-- section s lies at place j of the sections from place i on
pub record Lies (i : ℕ) (ss : List Section) (d : Section) (j : ℕ) (s : Section) : Type 0 where
  pub from : i ≤ j
  pub within : j < i + length ss
  pub there : s ≡ get_or ss (j - i) d

lies-first : (i : ℕ) (ss : List Section) (d s : Section) → Lies i (s ∷ ss) d i s
lies-first i ss d s =
    let z : i - i ≡ 0 = omega arith in
    record { from = omega arith; within = omega arith; there = rw z }

lies-later : (i : ℕ) (ss : List Section) (d t : Section) (j : ℕ) (s : Section) → Lies (suc i) ss d j s → Lies i (t ∷ ss) d j s
lies-later i ss d t j s l =
    let e : j - i ≡ suc (j - suc i) = omega arith in
    record { from = omega arith; within = omega arith; there = rw e l.there }

-- the section of a number or an instant, with its reason
abbrev Chosen : ℕ → ℕ → List Section → Section → Choice → Type 0
Chosen n i ss d nothing = Unit {0}
Chosen n i ss d (chosen j s why) = Lies i ss d j s × (why ≡ reason_for n j s)

chosen-later : (n i : ℕ) (ss : List Section) (d t : Section) (c : Choice) → Chosen n (suc i) ss d c → Chosen n i (t ∷ ss) d c
chosen-later n i ss d t nothing l = tt
chosen-later n i ss d t (chosen j s why) l = (lies-later i ss d t j s l.0, l.1)

from-chosen : (n i : ℕ) (ss : List Section) (d : Section) (x : Exact) → Chosen n i ss d (choose_from n i ss x)
unfolding choose_from
from-chosen n i [] d x = tt
from-chosen n i (s ∷ ss) d x =
    cond_both (Chosen n i (s ∷ ss) d) (not (is_text s || eqb i 3) && reason_holds (reason_for n i s) s x)
    (lies-first i ss d s, refl)
    (chosen-later n i ss d s (choose_from n (suc i) ss x) (from-chosen n (suc i) ss d x))

-- where a chosen section lies, and why it was chosen
pub record Placement (ss : List Section) (d : Section) (i : ℕ) (s : Section) (why : Reason) : Type 0 where
  pub within : i < length ss
  pub there : s ≡ get_or ss i d
  pub reason : why ≡ cond (eqb (counted ss) 0) as_general (reason_for (counted ss) i s)

abbrev Placements : List Section → Section → Choice → Type 0
Placements ss d nothing = Unit {0}
Placements ss d (chosen i s why) = Placement ss d i s why

first-placed : (ss : List Section) (d : Section) → eqb (counted ss) 0 ≡ true → Placements ss d (choose_first ss)
unfolding choose_first
first-placed [] d e = tt
first-placed (s ∷ ss) d e = record { within = omega arith; there = refl; reason = rw e }

from-placed : (ss : List Section) (d : Section) (c : Choice) → eqb (counted ss) 0 ≡ false → Chosen (counted ss) 0 ss d c → Placements ss d c
from-placed ss d nothing e l = tt
from-placed ss d (chosen j s why) e l =
    let z : j - 0 ≡ j = omega arith in
    record { within = omega (arith, l.0); there = l.0.there ∙ rw z; reason = rw e l.1 }

choice-placed : (ss : List Section) (d : Section) (x : Exact) → Placements ss d (choose ss x)
unfolding choose
choice-placed ss d x =
    cond-case (Placements ss d) (eqb (counted ss) 0)
    (λ e. first-placed ss d e)
    (λ e. from-placed ss d (choose_from (counted ss) 0 ss x) e (from-chosen (counted ss) 0 ss d x))

pub chosen-placed : (ss : List Section) (d : Section) (x : Exact) (i : ℕ) (s : Section) (why : Reason) → choose ss x ≡ chosen i s why
    → Placement ss d i s why
chosen-placed ss d x i s why e = subst (Placements ss d) e (choice-placed ss d x)

-- a section that has a condition is taken by that alone: exception (a) may be told by whether it has one
pub chosen-exception : (ss : List Section) (x : Exact) (i : ℕ) (s : Section) (why : Reason) (first_has : Bool) → choose ss x ≡ chosen i s why
    → exception_a (counted ss) i (has_condition s) first_has ≡ exception_a (counted ss) i (is_own why) first_has
unfolding exception_a
chosen-exception ss x i s why first_has e =
    let n : ℕ = counted ss in
    let p : Placement ss s i s why = chosen-placed ss s x i s why e in
    by_cases (eqb n 0)
    (λ z. rw (eqb-true n 0 z) (and-false (eqb i 1 && not (has_condition s)) ∙ sym (and-false (eqb i 1 && not (is_own why)))))
    (λ z. ap (λ (own : Bool). exception_a n i own first_has) (sym (rw z at (ap is_own p.reason) ∙ reason-own n i s)))

-- the section of a text
abbrev TextLies : ℕ → List Section → Section → TextChoice → Type 0
TextLies i ss d itself = Unit {0}
TextLies i ss d (text_in j s) = Lies i ss d j s

text-later : (i : ℕ) (ss : List Section) (d t : Section) (c : TextChoice) → TextLies (suc i) ss d c → TextLies i (t ∷ ss) d c
text-later i ss d t itself l = tt
text-later i ss d t (text_in j s) l = lies-later i ss d t j s l

text-lies : (i : ℕ) (ss : List Section) (d : Section) → TextLies i ss d (text_from i ss)
unfolding text_from
text-lies i [] d = tt
text-lies i (s ∷ ss) d =
    cond_both (TextLies i (s ∷ ss) d) (is_text s) (lies-first i ss d s) (text-later i ss d s (text_from (suc i) ss) (text-lies (suc i) ss d))

fourth-either : (P : TextChoice → Type 0) (i : ℕ) (ss : List Section) (d : Section) (other : TextChoice) → P other
    → ((j : ℕ) (s : Section) → Lies i ss d j s → P (text_in j s)) → P (fourth_from i ss other)
unfolding fourth_from
fourth-either P i [] d other p f = p
fourth-either P i (s ∷ ss) d other p f =
    cond_both P (eqb i 3) (f i s (lies-first i ss d s))
    (fourth-either P (suc i) ss d other p (λ j t l. f j t (lies-later i ss d s j t l)))

text-choice-lies : (ss : List Section) (d : Section) → TextLies 0 ss d (choose_text ss)
unfolding choose_text
text-choice-lies ss d = fourth-either (TextLies 0 ss d) 0 ss d (text_from 0 ss) (text-lies 0 ss d) (λ j s l. l)

pub text-placed : (ss : List Section) (d : Section) (i : ℕ) (s : Section) → choose_text ss ≡ text_in i s → (i < length ss) × (s ≡ get_or ss i d)
text-placed ss d i s e =
    let l : Lies 0 ss d i s = subst (TextLies 0 ss d) e (text-choice-lies ss d) in
    let z : i - 0 ≡ i = omega arith in
    (omega arith, l.there ∙ rw z)

-- what the answers for a number or an instant say
pub found_nothing : (ws : List ℕ) (x : Exact) → None ≡ found_of (choose (decode ws) x) → choose (decode ws) x ≡ nothing
unfolding found_of
found_nothing ws x e = go (choose (decode ws) x) e
  where
    go : (c : Choice) → None ≡ found_of c → c ≡ nothing
    go nothing e = refl
    go (chosen i s why) e = let z : ◌≡◌ {A = ℕ} 0 1 = cc in absurd (omega arith)

pub found_at : {P : Type 0} (ws : List ℕ) (x : Exact) (i : ℕ) → Some i ≡ found_of (choose (decode ws) x)
    → ((why : Reason) → choose (decode ws) x ≡ chosen i (section_in ws i) why → i < get_or ws 0 0 → P) → P
unfolding found_of section_in
found_at {P} ws x i e f = go (choose (decode ws) x) refl e
  where
    go : (c : Choice) → choose (decode ws) x ≡ c → Some i ≡ found_of c → P
    go nothing h e = let z : ◌≡◌ {A = ℕ} 0 1 = cc in absurd (omega arith)
    go (chosen j s why) h e =
        let p : Placement (decode ws) no_section j s why = chosen-placed (decode ws) no_section x j s why h in
        let a : i ≡ j = cc in
        let m : length (decode ws) ≡ get_or ws 0 0 = sections-length ws in
        f why (rw a (h ∙ ap (λ (t : Section). chosen j t why) p.there)) (omega (arith, p.within))

-- what the answers for a text say
pub text-itself : (ws : List ℕ) → None ≡ text_found_of (choose_text (decode ws)) → choose_text (decode ws) ≡ itself
unfolding text_found_of
text-itself ws e = go (choose_text (decode ws)) e
  where
    go : (c : TextChoice) → None ≡ text_found_of c → c ≡ itself
    go itself e = refl
    go (text_in i s) e = let z : ◌≡◌ {A = ℕ} 0 1 = cc in absurd (omega arith)

pub text_at : (ws : List ℕ) (i : ℕ) → Some i ≡ text_found_of (choose_text (decode ws))
    → (choose_text (decode ws) ≡ text_in i (section_in ws i)) × (i < get_or ws 0 0)
unfolding text_found_of section_in
text_at ws i e = go (choose_text (decode ws)) refl e
  where
    go : (c : TextChoice) → choose_text (decode ws) ≡ c → Some i ≡ text_found_of c
        → (choose_text (decode ws) ≡ text_in i (get_or (decode ws) i no_section)) × (i < get_or ws 0 0)
    go itself h e = let z : ◌≡◌ {A = ℕ} 0 1 = cc in absurd (omega arith)
    go (text_in j s) h e =
        let p : (j < length (decode ws)) × (s ≡ get_or (decode ws) j no_section) = text-placed (decode ws) no_section j s h in
        let a : i ≡ j = cc in
        let m : length (decode ws) ≡ get_or ws 0 0 = sections-length ws in
        (rw a (h ∙ ap (λ (t : Section). text_in j t) p.1), omega arith)
