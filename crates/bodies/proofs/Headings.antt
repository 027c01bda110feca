-- The heading of a section's tokens.
-- Assumes nothing.
use Prim.Native.Nat.{ℕ, suc, ◌+◌, ◌-◌, ◌≤◌, ◌<◌}
use mathlib.Core.Path.{◌≡◌, refl, sym, ◌∙◌}
use mathlib.Core.List.{List, [], ◌∷◌}
use native.Mathlib.Omega.{arith}
use native.Mathlib.Numerals.{add-one}
use borrow.Author.Tests.{eq-eqb, ne_eqb}
use lib.ListN.{length, drop, get_or, drop_of_length-le}
use Rattle.std.proofs.Common.{Some, None}
use Rattle.std.proofs.lemmas.Option.{none-some, same_Some}
use Rattle.formats.specs.Kinds.{after_colour, parts_of}
use Rattle.marks.specs.declared.Mark.{Mark}
use Rattle.marks.specs.Marks.{marked, token_at, tokens_in}
use Rattle.bodies.specs.declared.sections.Heading.{Heading}
use Rattle.bodies.specs.Sections.{condition_marked, heading_parts, AfterColour, HeadingOf}
use Rattle.marks.proofs.ByForm.{colour-form, condition-form, colour-argument}
use Rattle.marks.proofs.Buffer.{tokens-first, tokens-drop, tokens-length}

abbrev bare_heading : ℕ → ℕ → Heading
bare_heading colour tokens = record { colour = colour; condition = None; tokens = tokens }

module _ (ms : List Mark) (colour passed : ℕ) (inside : passed ≤ length ms) where
  at-token : (code : List ℕ) (m : Mark) → passed < length ms → m ≡ get_or ms passed m → drop passed (tokens_in code ms) ≡ marked code m ∷ drop (suc passed) (tokens_in code ms)
  at-token code m h e =
      sym (tokens-drop code ms passed) ∙ tokens-first code ms passed m h ∙ rw (← e, tokens-drop code ms (suc passed))

  bare : ((code : List ℕ) → after_colour colour (drop passed (tokens_in code ms)) ≡ heading_parts code (bare_heading colour passed) (tokens_in code ms))
      → AfterColour ms colour passed (bare_heading colour passed)
  bare same = record { same = same; few = omega arith; inside = inside; read = λ m e. absurd (none-some m e) }

  pub heading-end : length ms ≤ passed → AfterColour ms colour passed (bare_heading colour passed)
  unfolding after_colour heading_parts condition_marked
  heading-end h = bare (λ code. rw (drop_of_length-le (tokens_in code ms) {i = passed} (rw (tokens-length code ms) h)))

  module _ (m : Mark) (h : passed < length ms) (e : m ≡ get_or ms passed m) where
    pub heading-bare : (m.form ≡ 24 → ⊥) → AfterColour ms colour passed (bare_heading colour passed)
    unfolding after_colour heading_parts condition_marked marked token_at
    heading-bare l = bare (λ code. rw (at-token code m h e, condition-form m.form m.argument (drop (suc m.start) code), ne_eqb m.form 24 l))

    pub heading-condition : m.form ≡ 24 → AfterColour ms colour passed (record { colour = colour; condition = Some m; tokens = passed + 1 })
    unfolding after_colour heading_parts condition_marked marked token_at
    heading-condition l =
        let k : passed + 1 - 1 ≡ passed = omega arith in
        let here : get_or ms (passed + 1 - 1) m ≡ m = rw k (sym e) in
        record {
          same = λ code. rw (at-token code m h e, condition-form m.form m.argument (drop (suc m.start) code), eq-eqb m.form 24 l, add-one passed);
          few = omega arith;
          inside = omega arith;
          read = λ n q. let z = same_Some m n q in (omega arith, rw (← z) l, rw (← z) here);
        }

none-first : (code : List ℕ) (ms : List Mark) → length ms ≤ 0 → parts_of (tokens_in code ms) ≡ after_colour 0 (tokens_in code ms)
unfolding tokens_in parts_of after_colour
none-first code [] h = refl
none-first code (m ∷ ms) h = absurd (omega arith)

module _ (ms : List Mark) (r : Heading) where
  pub headed-none : length ms ≤ 0 → AfterColour ms 0 0 r → HeadingOf ms r
  unfolding parts_of
  headed-none h e =
      record {
        same = λ code. none-first code ms h ∙ e.same code;
        few = omega arith;
        inside = e.inside;
        read = e.read;
      }

  module _ (m : Mark) (h : 0 < length ms) (f : m ≡ get_or ms 0 m) where
    first : (code : List ℕ) → tokens_in code ms ≡ marked code m ∷ drop 1 (tokens_in code ms)
    first code = at-token ms 0 0 (omega arith) code m h f

    pub headed-other : (m.form ≡ 23 → ⊥) → AfterColour ms 0 0 r → HeadingOf ms r
    unfolding parts_of marked token_at
    headed-other n e =
        record {
          same = λ code. parts-other code ∙ e.same code;
          few = omega arith;
          inside = e.inside;
          read = e.read;
        }
      where
        parts-other : (code : List ℕ) → parts_of (tokens_in code ms) ≡ after_colour 0 (tokens_in code ms)
        parts-other code = rw (first code, colour-form m.form m.argument (drop (suc m.start) code), ne_eqb m.form 23 n)

    pub headed-colour : m.form ≡ 23 → AfterColour ms m.argument 1 r → HeadingOf ms r
    unfolding parts_of marked token_at
    headed-colour q e =
        record {
          same = λ code. parts-colour code ∙ e.same code;
          few = omega arith;
          inside = e.inside;
          read = e.read;
        }
      where
        parts-colour : (code : List ℕ) → parts_of (tokens_in code ms) ≡ after_colour m.argument (drop 1 (tokens_in code ms))
        parts-colour code =
            let us = drop (suc m.start) code in
            rw (first code, colour-form m.form m.argument us, eq-eqb m.form 23 q, colour-argument m.form m.argument us q)
