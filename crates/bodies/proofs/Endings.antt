-- Where a section ends.
-- Assumes nothing.
use Prim.Native.Nat.{ℕ, suc}
use mathlib.Core.Path.{◌≡◌, refl, ap, ◌∙◌}
use mathlib.Core.Bool.{not}
use mathlib.Core.List.{List, [], ◌∷◌}
use native.Mathlib.Omega.{arith}
use lib.Dec.{eqb, eqb-suc-suc}
use borrow.Author.Tests.{ne_eqb, ltb-false}
use lib.ListN.{length, take, drop}
use Rattle.lists.proofs.Bools.{by_cases}
use Rattle.formats.specs.Tokens.{Token}
use Rattle.formats.specs.Kinds.{is_semicolon}
use Rattle.formats.specs.Accept.{joined, split}
use Rattle.marks.specs.declared.Mark.{Mark}
use Rattle.marks.specs.Marks.{marked, token_at, tokens_in}
use Rattle.bodies.specs.Sections.{first_section, later_sections, SectionEnd}
use Rattle.marks.proofs.ByForm.{semicolon-form}
use Rattle.std.specs.List.{position, position_or_len}
use Rattle.std.specs.Option.{unwrap_or}
use Rattle.std.proofs.lemmas.List.Sums.{prefix_len-le-length}
use Rattle.std.proofs.Common.{nat_lt}

-- the first section and the others
pub split-first : (ts : List Token) → split ts ≡ take (first_section ts) ts ∷ later_sections (first_section ts) ts
unfolding split first_section later_sections joined
split-first [] = refl
split-first (t ∷ ts) = by_cases (is_semicolon t) (λ e. rw (e, ne_eqb 0 (suc (length ts)) (omega arith))) (λ e. rw (e, eqb-suc-suc (first_section ts) (length ts)) (ap (joined t) (split-first ts)))

-- the semicolon is found by its form
first-mark : (code : List ℕ) (ms : List Mark) → position_or_len (λ (m : Mark). eqb m.form 11) ms ≡ first_section (tokens_in code ms)
unfolding first_section tokens_in marked token_at
first-mark code [] = refl
first-mark code (m ∷ ms) =
    rw (semicolon-form m.form m.argument (drop (suc m.start) code))
    (by_cases (eqb m.form 11) (λ e. rw e) (λ e. rw e (omega (arith, first-mark code ms))))

pub section-found : (ms : List Mark) (r : ℕ) → r ≡ unwrap_or (position (λ (m : Mark). eqb m.form 11) ms) (length ms) → SectionEnd ms r
section-found ms r e =
    let p = position_or_len (λ (m : Mark). eqb m.form 11) ms in
    let q : r ≡ p = by_cases (nat_lt p (length ms)) (λ h. e ∙ rw h) (λ h. let l = ltb-false p (length ms) h in e ∙ rw h (omega (arith, prefix_len-le-length (λ (m : Mark). not (eqb m.form 11)) ms))) in
    record { same = λ code. q ∙ first-mark code ms; inside = omega (arith, prefix_len-le-length (λ (m : Mark). not (eqb m.form 11)) ms) }
