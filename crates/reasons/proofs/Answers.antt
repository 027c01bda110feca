-- What a show answers says of the reading: it is shown where nothing refuses it.
-- Assumes nothing.
use mathlib.Core.Path.{◌≡◌, refl, ap, ◌∙◌}
use Prim.Native.Nat.{ℕ}
use mathlib.Core.Bool.{true}
use mathlib.Core.List.{List, []}
use lib.Dec.{T}
use Rattle.std.specs.Prelude.{Ok, Err}
use Rattle.answers.specs.declared.Refusal.{Refusal}
use Rattle.answers.specs.declared.Shown.{Shown}
use Rattle.values.specs.declared.Value.{Value}
use Rattle.values.specs.declared.Value.TheVariants as value
use Rattle.values.specs.declared.Ask.{Ask}
use Rattle.values.specs.Ranges.{value_in_range, in_range}
use Rattle.lists.proofs.Bools.{by_cases, true-T}
use Rattle.formats.specs.Reading.{Reading, refused, shown, reading}
use Rattle.tables.specs.Decode.{decode}
use Rattle.tables.specs.Rules.{passes}
use Rattle.tables.specs.Calls.{table_reading, shown_as, showing}
use Rattle.grounds.specs.declared.Grounds.{Grounds}
use Rattle.grounds.specs.Why.{grounds_of, why_read}
use Rattle.reasons.specs.Table.{table_why}

-- ---- what is answered why, by what the show answers
answer-refused : (r : Reading) (g : Grounds) {a : Refusal} → Err a ≡ shown_as r → Err a ≡ why_read r g
unfolding shown_as why_read
answer-refused (refused b) g e = cc
answer-refused (shown look) g e = cc

answer-because : (r : Reading) (g : Grounds) {s : Shown} → Ok s ≡ shown_as r → Ok g ≡ why_read r g
unfolding shown_as why_read
answer-because (refused b) g e = cc
answer-because (shown look) g e = refl

-- the units of a text do not matter to what is no text
without-text : (v : Value) (text : List ℕ) → T (value_in_range v text) → T (value_in_range v [])
without-text (value.Number x) text t = t
without-text (value.Instant d m) text t = t
without-text value.Text text t = tt

module _ (ws : List ℕ) (ask : Ask) (text : List ℕ) (size : ℕ) where
  pub why-refused : {a : Refusal} → Err a ≡ showing ws ask text size → Err a ≡ table_why ws ask text size
  unfolding table_why showing
  why-refused e = answer-refused (table_reading ws ask text size) (grounds_of (decode ws) ask.value) e

  module _ {s : Shown} (e : Ok s ≡ showing ws ask text size) where
    pub why-because : {g : Grounds} → g ≡ grounds_of (decode ws) ask.value → Ok g ≡ table_why ws ask text size
    unfolding table_why showing
    why-because eg = ap Ok eg ∙ answer-because (table_reading ws ask text size) (grounds_of (decode ws) ask.value) e

    done-passes : passes ws ≡ true
    unfolding showing table_reading shown_as
    done-passes = by_cases (passes ws) (λ h. h) (λ h. let f = rw h at e in cc)

    done-ranged : in_range ask text ≡ true
    unfolding showing table_reading reading shown_as
    done-ranged = by_cases (in_range ask text) (λ h. h) (λ h. let f = rw (done-passes, h) at e in cc)

    pub why-passes : T (passes ws)
    why-passes = true-T done-passes

    pub why-ranged : T (value_in_range ask.value [])
    why-ranged = without-text ask.value text (true-T done-ranged)
