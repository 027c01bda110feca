-- The rows made from sections that are formed: they read back as the sections, and they fit.
-- Assumes nothing.
use Prim.Native.Nat.{ℕ, suc, ◌≤◌}
use native.Mathlib.Omega.{arith}
use mathlib.Core.Path.{◌≡◌, refl, sym}
use mathlib.Core.Bool.{Bool, false, cond}
use mathlib.Core.List.{List, [], ◌∷◌, map}
use lib.ListN.{length}
use lib.Dec.{T, eqb→eq, eqb_refl}
use Rattle.lists.specs.Lists.{every, count}
use Rattle.lists.proofs.Bools.{and_in, by_cases, every-head, every-tail, every-cons}
use Rattle.formats.specs.Items.{Section, number_kind, same_kind, kind_of, is_percent}
use Rattle.formats.specs.WellFormed.{dividing_fits, section_formed, items_in_all}
use Rattle.tables.specs.Encode.{kind_word, shift_word, flags_word, no_minus, has_half, decimals_word, head_of, entries_of, row_of, rows_from}
use Rattle.tables.specs.Decode.{thousands_at, section_at}
use Rattle.tables.specs.Rules.{head_in_range, entry_in_range, row_in_range, shift_fits, kind_fits, decimals_fit, flags_fit, flags_from, row_fits}
use Rattle.tables.proofs.Words.{Counted}
use Rattle.tables.proofs.MadeItems.{made-back, made-length, made-in-range, powers-run-down}
use Rattle.tables.proofs.MadeHeads.{Formed, formed, within-limits, says, condition-back, condition-fits, grouped-back, thousands-back, shift-tells, head-in-range}

-- only a number section divides
undivided : (s : Section) → T (dividing_fits s) → same_kind (kind_of s) number_kind ≡ false → s.thousands ≡ 0
unfolding dividing_fits
undivided s t e = eqb→eq s.thousands 0 (rw e at t)

-- the thousands that a section's shift tells
thousands-at : (s : Section) → Formed s
    → cond (same_kind (kind_of s) number_kind) (thousands_at (shift_word s) (count is_percent s.items)) 0 ≡ s.thousands
unfolding shift_word
thousands-at s f =
    by_cases (same_kind (kind_of s) number_kind)
    (λ e. rw e (thousands-back (count is_percent s.items) s.thousands (within-limits s f.within).thousands-most))
    (λ e. rw e (sym (undivided s f.dividing e)))

pub section-back : (n i : ℕ) (first_has : Bool) (s : Section) → T (section_formed s) → section_at (row_of n i first_has s) ≡ s
unfolding section_at row_of head_of kind_of
section-back n i first_has s t =
    let f = formed s t in
    rw (
      made-back s.items,
      condition-back (head_of n i first_has s) s.condition (says n i first_has s),
      grouped-back s.grouped (no_minus n i first_has s) (has_half s.items),
      thousands-at s f,
    )

-- a row made from a section that is formed
module _ (n i : ℕ) (first_has : Bool) (s : Section) (t : T (section_formed s)) where
  row-in-range : length s.items ≤ 254 → T (row_in_range (row_of n i first_has s))
  unfolding row_in_range row_of
  row-in-range h =
      let f = formed s t in
      let w = within-limits s f.within in
      and_in (head_in_range (head_of n i first_has s)) (every entry_in_range (entries_of s.items))
      (head-in-range n i first_has s t h)
      (made-in-range s.items f.items-in-range (omega (arith, w.exponents-most)) w.wholes-most w.integers-most)

  kind_fits_lem : T (kind_fits (row_of n i first_has s))
  unfolding kind_fits row_of head_of
  kind_fits_lem = rw (section-back n i first_has s t) (eqb_refl (kind_word (kind_of s)))

  decimals-fit : T (decimals_fit (row_of n i first_has s))
  unfolding decimals_fit row_of head_of
  decimals-fit = rw (section-back n i first_has s t) (eqb_refl (decimals_word s))

  shift_fits_lem : T (shift_fits (row_of n i first_has s))
  unfolding shift_fits shift_word row_of head_of
  shift_fits_lem =
      let w = within-limits s (formed s t).within in
      rw (section-back n i first_has s t)
      (by_cases (same_kind (kind_of s) number_kind)
      (λ e. rw e (shift-tells (count is_percent s.items) s.thousands w.thousands-most))
      (λ e. rw e tt))

  pub flags-fit-row : T (flags_fit n i first_has (row_of n i first_has s))
  unfolding flags_fit row_of head_of
  flags-fit-row =
      rw (section-back n i first_has s t) (eqb_refl (flags_word s.grouped (no_minus n i first_has s) (has_half s.items)))

  pub row_fits_lem : length s.items ≤ 254 → T (row_fits (row_of n i first_has s))
  unfolding row_fits row_of
  row_fits_lem h =
      let f = formed s t in
      let condition = condition-fits (head_of n i first_has s) s.condition (says n i first_has s) f.condition in
      let range = row-in-range h in
      let powers = powers-run-down s.items in
      rw (section-back n i first_has s t) (search (and_in, kind_fits_lem, shift_fits_lem, decimals-fit) depth 14)

pub flags-fit : (n i : ℕ) (first_has : Bool) (ss : List Section) → T (every section_formed ss)
    → T (flags_from n i first_has (rows_from n i first_has ss))
unfolding flags_from rows_from
flags-fit n i first_has [] t = tt
flags-fit n i first_has (s ∷ ss) t =
    and_in (flags_fit n i first_has (row_of n i first_has s)) (flags_from n (suc i) first_has (rows_from n (suc i) first_has ss))
    (flags-fit-row n i first_has s (every-head section_formed s ss t))
    (flags-fit n (suc i) first_has ss (every-tail section_formed s ss t))

pub rows-sections : (n i : ℕ) (first_has : Bool) (ss : List Section) → T (every section_formed ss)
    → map section_at (rows_from n i first_has ss) ≡ ss
unfolding rows_from
rows-sections n i first_has [] t = refl
rows-sections n i first_has (s ∷ ss) t =
    rw (section-back n i first_has s (every-head section_formed s ss t), rows-sections n (suc i) first_has ss (every-tail section_formed s ss t))

pub rows_fit : (n i : ℕ) (first_has : Bool) (ss : List Section) → T (every section_formed ss) → items_in_all ss ≤ 254
    → T (every row_fits (rows_from n i first_has ss))
unfolding rows_from items_in_all every
rows_fit n i first_has [] t h = tt
rows_fit n i first_has (s ∷ ss) t h =
    every-cons row_fits (row_of n i first_has s) (rows_from n (suc i) first_has ss)
    (row_fits_lem n i first_has s (every-head section_formed s ss t) (omega arith))
    (rows_fit n (suc i) first_has ss (every-tail section_formed s ss t) (omega arith))

pub made_counted : (n i : ℕ) (first_has : Bool) (ss : List Section) → Counted (rows_from n i first_has ss)
unfolding rows_from row_of head_of
made_counted n i first_has [] = tt
made_counted n i first_has (s ∷ ss) =
    (sym (made-length s.items), made_counted n (suc i) first_has ss)
