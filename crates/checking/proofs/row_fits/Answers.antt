-- `checking::row_fits` meets its contract.
-- Assumes nothing.
use native.Mathlib.Omega.{arith}
use Prim.Native.Nat.{ℕ, ◌<◌}
use mathlib.Core.Path.{◌≡◌, sym, ap, ◌∙◌}
use mathlib.Core.Bool.{Bool, not}
use mathlib.Core.List.{List}
use Rattle.tables.specs.Words.{Entry}
use Rattle.tables.proofs.Ranges.{head-ranges}
use Rattle.table_words.specs.Sections.{head_from}
use Rattle.lists.proofs.Bools.{carry}
use Rattle.tallies.specs.Tally.{items_of}
use Rattle.checking.proofs.Rows.{Front, refused, no_number_lem, number-answer, no-dated, dated-answer, no_bare, bare-answer, rowed, cut-rowed, front_of, number-again, other-again}
use Rattle.checking.proofs.row_fits.Goals as goal

-- what `bare_fits` says of a kind that is none of those before
bare : (kind : ℕ) (es : List Entry) (r : Bool) → kind < 5 → ((kind ≡ 5 → ⊥) → (kind ≡ 6 → ⊥) → r ≡ items_of kind es) → r ≡ items_of kind es
bare kind es r m e = e (λ x. absurd (omega (arith, m, x))) (λ x. absurd (omega (arith, m, x)))

pub returns-then-h-gt56 : goal.returns-then-h-gt56
returns-then-h-gt56 c =
    rowed _ _ _ _ c.head_at-h.ensures
    (refused (head_from c.head_at-h.result) _ (λ r t. absurd (omega (arith, (head-ranges (head_from c.head_at-h.result) r.head).colour))))

pub returns-then-not-condition_fits : goal.returns-then-not-condition_fits
returns-then-not-condition_fits c =
    rowed _ _ _ _ c.head_at-h.ensures
    (refused (head_from c.head_at-h.result) _ (λ r t. carry (sym c.condition_fits.ensures ∙ c.if-not-condition_fits.true) t))

pub returns-in_default : goal.returns-in_default
returns-in_default c =
    let h = c.head_at-h in
    let front : Front (head_from h.result) = front_of h.result _ h.ensures c.requires.2 (omega arith) (omega arith) (sym c.condition_fits.ensures ∙ c.if-not-condition_fits.false) in
    rowed _ _ _ _ h.ensures (no_number_lem (head_from h.result) _ c.if-h-eq-NUMBER.true front c.in_default.ensures)

pub returns-then-h-eq-NUMBER : goal.returns-then-h-eq-NUMBER
returns-then-h-eq-NUMBER c =
    let h = c.head_at-h in
    let front : Front (head_from h.result) = front_of h.result _ h.ensures c.requires.2 (omega arith) (omega arith) (sym c.condition_fits.ensures ∙ c.if-not-condition_fits.false) in
    rowed _ _ _ _ h.ensures
    (number-answer (head_from h.result) _ c.if-h-eq-NUMBER.true front _ c.in-Some.ensures _
    (number-again _ _ _ h.ensures c.head_at.ensures _ _ _ _ c.number_fits.ensures))

pub returns-in_default-dated_row : goal.returns-in_default-dated_row
returns-in_default-dated_row c =
    let h = c.head_at-h in
    rowed _ _ _ _ h.ensures (no-dated (head_from h.result) _ c.if-h-eq-DATE_TIME.true c.in_default-dated_row.ensures)

pub returns-then-h-eq-DATE_TIME : goal.returns-then-h-eq-DATE_TIME
returns-then-h-eq-DATE_TIME c =
    let h = c.head_at-h in
    let front : Front (head_from h.result) = front_of h.result _ h.ensures c.requires.2 (omega arith) (omega arith) (sym c.condition_fits.ensures ∙ c.if-not-condition_fits.false) in
    rowed _ _ _ _ h.ensures
    (dated-answer (head_from h.result) _ c.if-h-eq-DATE_TIME.true front _ c.in-Some-dated_row.ensures _
    (other-again _ _ _ h.ensures c.head_at-then-h-eq-DATE_TIME.ensures _ _ c.other_fits.ensures))

pub returns-then-h-ge-SCIENTIFIC : goal.returns-then-h-ge-SCIENTIFIC
returns-then-h-ge-SCIENTIFIC c =
    let h = c.head_at-h in
    let front : Front (head_from h.result) = front_of h.result _ h.ensures c.requires.2 (omega arith) (omega arith) (sym c.condition_fits.ensures ∙ c.if-not-condition_fits.false) in
    cut-rowed h.result _ _ _ h.ensures c.if-h-ge-SCIENTIFIC.true front c.cut_fits.ensures

pub returns-then-not-bare_fits : goal.returns-then-not-bare_fits
returns-then-not-bare_fits c =
    let m = c.if-h-ge-SCIENTIFIC.false in
    let h = c.head_at-h in
    rowed _ _ _ _ h.ensures
    (no_bare (head_from h.result) _ c.if-h-eq-NUMBER.false m _ (bare _ _ _ m (c.bare_fits.ensures c.if-h-eq-NUMBER.false c.if-h-eq-DATE_TIME.false)) (ap not c.if-not-bare_fits.true))

pub returns : goal.returns
returns c =
    let m = c.if-h-ge-SCIENTIFIC.false in
    let h = c.head_at-h in
    let front : Front (head_from h.result) = front_of h.result _ h.ensures c.requires.2 (omega arith) (omega arith) (sym c.condition_fits.ensures ∙ c.if-not-condition_fits.false) in
    rowed _ _ _ _ h.ensures
    (bare-answer (head_from h.result) _ c.if-h-eq-NUMBER.false m c.if-h-eq-DATE_TIME.false front _
    (bare _ _ _ m (c.bare_fits.ensures c.if-h-eq-NUMBER.false c.if-h-eq-DATE_TIME.false)) (ap not c.if-not-bare_fits.false) _
    (other-again _ _ _ h.ensures c.head_at-2.ensures _ _ c.other_fits-2.ensures))
