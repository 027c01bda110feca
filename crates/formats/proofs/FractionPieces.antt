-- The text of each item of a fraction section (R135): pieces that together are the section's text, and how the denominator's are read.
-- Assumes nothing.
use mathlib.Core.Path.{◌≡◌, refl, sym, ap, subst, ◌∙◌}
use Prim.Native.Nat.{ℕ, zero, suc, ◌+◌, ◌-◌, ◌*◌, ◌^◌, ◌≤◌, ◌<◌}
use native.Mathlib.Omega.{arith}
use mathlib.Core.Bool.{Bool, true, false, cond, ◌&&◌, ◌||◌, or-false}
use mathlib.Core.List.{List, [], ◌∷◌, ◌++◌, append_assoc, append-nil, map, flatten}
use lib.Dec.{T, eqb}
use lib.ListN.{length, take, drop, replicate, length-map}
use Rattle.values.specs.declared.Number.{Number}
use Rattle.lists.specs.Lists.{every, any, count, is_empty}
use Rattle.lists.proofs.Bools.{no, by_cases, cond_both, and_parts, every-head, every-tail, every_append, T_true, or_right}
use Rattle.lists.proofs.Counts.{any-map, any_same, every_map, every-same, every-weaker}
use Rattle.figures.specs.Digits.{width}
use Rattle.calendar.specs.Names.{units}
use Rattle.fractions.specs.declared.Mixed.{Mixed}
use Rattle.formats.specs.Tokens.{Place, zero_place, hash_place, is_digit, digit_of}
use Rattle.formats.specs.Items.{Item, item_row, blank, place, solidus, fraction_kind, item_allowed, is_place, is_point, is_space, is_solidus, is_fixed, is_cut, from_cut, integer_places, start_places, behind_start, numerator_items, whole_items, main_items}
use Rattle.formats.specs.Text.{Context, item_units, digit_after, along, first_of, item_pieces, items_units, section_units}
use Rattle.formats.specs.Reading.{is_parted, whole_context, spare_places, spaceless, denominator_units, below_units, blanked, fraction_units}
use Rattle.formats.specs.Figures.{read_from, units_read, Counts, is_blank, is_figure, is_below, PieceOf, of_literal, of_blank, of_fill, of_place, of_solidus, of_fixed, PiecesOf, empty, more, units_of, figure_pieces}
use Rattle.formats.proofs.FigureUnits.{place-plain}
use Rattle.formats.proofs.Each.{by_place}
use Rattle.formats.proofs.Cutting.{Solidus, whole-joins, places-integers}
use Rattle.formats.proofs.FigureItems.{whole-read}
use Rattle.formats.proofs.ExponentUnits.{items-digits}
use Rattle.formats.proofs.Pieces.{along-length, units-all, flatten-joins, pieces-join}
use Rattle.formats.proofs.FractionParts.{place-case, held-case, every-parts, places-none, start-places, start-joins, FractionItems}

-- the text of each of the items that show the whole number n
abbrev pub whole_pieces : ℕ → List Item → List (List ℕ)
whole_pieces n is = item_pieces (whole_context n (integer_places is) false) (first_of (integer_places is)) is

-- ---- a fraction that is blank
unfoldable pub blank_piece : Item → List ℕ
blank_piece i =
    cond (is_place i || is_solidus i) (32 ∷ []) (cond (is_fixed i) (replicate (width (item_row i).argument) 32) (item_units (whole_context 0 0 false) 0 i))

spaces : (n : ℕ) → T (every is_blank (replicate n 32))
unfolding every
spaces zero = tt
spaces (suc n) = spaces n

module _ (c : Context) (q : ℕ) where
  blanks-text : (n : ℕ) (is : List Item) → items_units c q (replicate n (blank 32) ++ is) ≡ replicate n 32 ++ items_units c q is
  unfolding items_units along item_units digit_after flatten
  blanks-text zero is = refl
  blanks-text (suc n) is = ap (λ (us : List ℕ). 32 ∷ us) (blanks-text n is)

  blank-text : (is : List Item) (i : Item) → T (item_allowed fraction_kind i) → items_units c q (blanked i ++ is) ≡ blank_piece i ++ items_units c q is
  unfolding items_units along item_units digit_after flatten blanked blank_piece
  blank-text is =
      held-case (λ (i : Item). items_units c q (blanked i ++ is) ≡ blank_piece i ++ items_units c q is) (λ u. refl) (λ u. refl) (λ u. refl) (λ p. refl) refl
      (λ n. blanks-text (width n) is)

  blank-texts : (is : List Item) → T (every (item_allowed fraction_kind) is) → items_units c q (flatten (map blanked is)) ≡ flatten (map blank_piece is)
  unfolding flatten items_units along
  blank-texts [] t = refl
  blank-texts (i ∷ is) t =
      blank-text (flatten (map blanked is)) i (every-head (item_allowed fraction_kind) i is t)
      ∙ ap (λ (us : List ℕ). blank_piece i ++ us) (blank-texts is (every-tail (item_allowed fraction_kind) i is t))

-- each unit of what is blank is a space
abbrev is_of_fraction : Item → Bool
is_of_fraction i = is_solidus i || is_below i

blank-spaces : (i : Item) → T (item_allowed fraction_kind i) → T (every is_blank (cond (is_of_fraction i) (blank_piece i) []))
unfolding blank_piece every
blank-spaces =
    held-case (λ (i : Item). T (every is_blank (cond (is_of_fraction i) (blank_piece i) []))) (λ u. tt) (λ u. tt) (λ u. tt) (λ p. tt) tt (λ n. spaces (width n))

pub blanks-spaces : (is : List Item) → T (every (item_allowed fraction_kind) is) → T (every is_blank (units_of is_of_fraction is (map blank_piece is)))
unfolding units_of every
blanks-spaces [] t = tt
blanks-spaces (i ∷ is) t =
    every_append is_blank (cond (is_of_fraction i) (blank_piece i) []) _ (blank-spaces i (every-head (item_allowed fraction_kind) i is t))
    (blanks-spaces is (every-tail (item_allowed fraction_kind) i is t))

module _ (x : Number) (added below exact : Bool) where
  blank-piece : (i : Item) → T (item_allowed fraction_kind i) → PieceOf x added below exact i (blank_piece i)
  unfolding blank_piece item_units every is_digit
  blank-piece =
      held-case (λ (i : Item). PieceOf x added below exact i (blank_piece i)) of_literal of_blank of_fill (λ p. of_place p (32 ∷ []) tt) (of_solidus true) (of_fixed true)

  pub blank-pieces : (is : List Item) → T (every (item_allowed fraction_kind) is) → PiecesOf x added below exact is (map blank_piece is)
  blank-pieces [] t = empty
  blank-pieces (i ∷ is) t =
      more i (blank_piece i) is (map blank_piece is) (blank-piece i (every-head (item_allowed fraction_kind) i is t))
      (blank-pieces is (every-tail (item_allowed fraction_kind) i is t))

-- ---- the denominator's places: what is behind them belongs to the last
unfoldable pub end_with : List ℕ → List (List ℕ) → List (List ℕ)
end_with us [] = []
end_with us (vs ∷ ps) = (vs ++ cond (is_empty ps) us []) ∷ end_with us ps

end-text : (us : List ℕ) (ps : List (List ℕ)) → (is_empty ps ≡ true → us ≡ []) → flatten (end_with us ps) ≡ flatten ps ++ us
unfolding flatten end_with is_empty
end-text us [] none = sym (none refl)
end-text us (vs ∷ []) none = rw (append-nil (vs ++ us), append-nil vs)
end-text us (vs ∷ ws ∷ ps) none = rw (append-nil vs, end-text us (ws ∷ ps) no) (sym (append_assoc vs (flatten (ws ∷ ps)) us))

end-length : (us : List ℕ) (ps : List (List ℕ)) → length (end_with us ps) ≡ length ps
unfolding end_with
end-length us [] = refl
end-length us (vs ∷ ps) = ap suc (end-length us ps)

-- its spare spaces
abbrev spare : ℕ → List Item → List ℕ
spare d is = replicate (count is_space (spare_places d is)) 32

abbrev pub denominator_pieces : ℕ → List Item → List (List ℕ)
denominator_pieces d is = end_with (spare d is) (whole_pieces d (map spaceless is))

pub denominator-length : (d : ℕ) (is : List Item) → length (denominator_pieces d is) ≡ length is
denominator-length d is =
    end-length _ (whole_pieces d (map spaceless is)) ∙ along-length (item_units _) _ _ (map spaceless is) ∙ length-map is spaceless

take_none : (n : ℕ) → take {A = Item} n [] ≡ []
take_none zero = refl
take_none (suc n) = refl

spare-none : (d : ℕ) (is : List Item) → is_empty (whole_pieces d (map spaceless is)) ≡ true → spare d is ≡ []
unfolding spare_places count along is_empty
spare-none d [] e = rw (take_none (0 - width d))
spare-none d (i ∷ is) e = no e

pub denominator-text : (d : ℕ) (is : List Item) → flatten (denominator_pieces d is) ≡ denominator_units d is
unfolding denominator_units section_units items_units whole_context
denominator-text d is = end-text (spare d is) (whole_pieces d (map spaceless is)) (spare-none d is)

-- a place shows as one without `?` does
spaceless-place : (i : Item) → is_place (spaceless i) ≡ is_place i
unfolding spaceless
spaceless-place i = by_cases (is_space i) (λ e. rw e (sym (and_parts (is_place i) _ e).0)) (λ e. rw e)

spaceless-space : (i : Item) → is_space (spaceless i) ≡ false
unfolding spaceless
spaceless-space i = by_cases (is_space i) (λ e. rw e) (λ e. rw (e, e))

spaceless-count : (is : List Item) → count is_place (map spaceless is) ≡ count is_place is
unfolding count
spaceless-count [] = refl
spaceless-count (i ∷ is) = rw (spaceless-place i, spaceless-count is)

spaceless-none : (is : List Item) → any is_space (map spaceless is) ≡ false
unfolding any
spaceless-none [] = refl
spaceless-none (i ∷ is) = rw (spaceless-space i) (spaceless-none is)

none-figures : T (every is_figure [])
unfolding every
none-figures = tt

spare-plain : (d : ℕ) (is : List Item) → T (every is_figure (spare d is))
spare-plain d is = every-weaker is_blank is_figure (λ u t. or_right (is_digit u || eqb u 44) (is_blank u) t) _ (spaces (count is_space (spare_places d is)))

module _ (x : Number) (added below exact : Bool) (c : Context) (us : List ℕ) (plain : T (every is_figure us)) where
  abbrev after : ℕ → Item → ℕ
  after q i = digit_after (first_of c.integer_places) q i

  spaceless-plain : (q : ℕ) (p : Place) → T (every is_figure (item_units c q (spaceless (place p))))
  unfolding spaceless item_units
  spaceless-plain q =
      by_place (λ (p : Place). T (every is_figure (item_units c q (spaceless (place p))))) (place-plain c zero_place q) (place-plain c hash_place q)
      (place-plain c hash_place q)

  places-pieces : (q : ℕ) (is : List Item) → T (every is_place is) → PiecesOf x added below exact is (end_with us (item_pieces c q (map spaceless is)))
  unfolding end_with along
  places-pieces q [] t = empty
  places-pieces q (i ∷ is) t =
      let P : Item → Type 0 = λ (j : Item). PiecesOf x added below exact (j ∷ is) (end_with us (item_pieces c q (map spaceless (j ∷ is)))) in
      place-case P
      (λ p.
      more (place p) _ is _
      (of_place p _ (every_append is_figure (item_units c q (spaceless (place p))) _ (spaceless-plain q p)
      (cond_both (λ (vs : List ℕ). T (every is_figure vs)) (is_empty (item_pieces c (after q (spaceless (place p))) (map spaceless is))) plain none-figures)))
      (places-pieces (after q (spaceless (place p))) is (every-tail is_place i is t)))
      i (every-head is_place i is t)

-- spaces are set aside
spaces-aside : (behind : Bool) (v w : ℕ) (us : List ℕ) (n : ℕ) → read_from behind v w (us ++ replicate n 32) ≡ read_from behind v w us
unfolding read_from is_digit
spaces-aside behind v w [] zero = refl
spaces-aside behind v w [] (suc n) = ap (λ (b : Bool). read_from b v w (replicate n 32)) (or-false behind) ∙ spaces-aside behind v w [] n
spaces-aside behind v w (u ∷ us) n =
    spaces-aside (behind || eqb u 46) (cond (is_digit u) (v * 10 + digit_of u) v) (cond (is_digit u && behind) (w * 10) w) us n

-- what the denominator's places show is read as it, and is digits with spaces behind them
module _ (d : ℕ) (is : List Item) (places : T (every is_place is)) where
  abbrev ks : List Item
  ks = map spaceless is

  spaceless-places : T (every is_place ks)
  spaceless-places = rw (every_map is_place spaceless is, every-same _ is_place spaceless-place is) places

  denominator-units : denominator_units d is ≡ figure_pieces ks (whole_pieces d ks) ++ spare d is
  unfolding denominator_units section_units items_units whole_context
  denominator-units =
      ap (λ (us : List ℕ). us ++ spare d is)
      (sym (units-all (λ (i : Item). is_place i || is_point i) ks (whole_pieces d ks)
      (every-weaker is_place _ (λ i t. rw (T_true (is_place i) t) tt) ks spaceless-places) (along-length (item_units _) _ _ ks)))

  no-point : any is_point ks ≡ false
  no-point = places-none is_point (λ p. refl) ks spaceless-places

  no_cut_lem : any is_cut ks ≡ false
  no_cut_lem = places-none is_cut (λ p. refl) ks spaceless-places

  pub denominator-read : d < 10 ^ 25 → count is_place is ≤ 20 → any is_place is ≡ true → Counts (units_read (denominator_units d is)) (d * 10 ^ 15)
  unfolding units_read
  denominator-read small most some =
      rw (denominator-units, spaces-aside false 0 1 (figure_pieces ks (whole_pieces d ks)) (count is_space (spare_places d is)))
      (whole-read d (integer_places ks) false ks small refl (omega (arith, places-integers ks no-point no_cut_lem, spaceless-count is)) no-point no_cut_lem
      (any-map is_place spaceless is ∙ any_same _ is_place spaceless-place is ∙ some))

  pub denominator-plain : T (every (λ (u : ℕ). is_digit u || is_blank u) (denominator_units d is))
  unfolding whole_context
  denominator-plain =
      let c : Context = whole_context d (integer_places ks) false in
      rw denominator-units
      (every_append (λ (u : ℕ). is_digit u || is_blank u) (figure_pieces ks (whole_pieces d ks)) (spare d is)
      (every-weaker is_digit _ (λ u t. rw (T_true (is_digit u) t) tt) _ (items-digits c refl (first_of (integer_places ks)) ks no-point (spaceless-none is)))
      (every-weaker is_blank _ (λ u t. or_right (is_digit u) (is_blank u) t) _ (spaces (count is_space (spare_places d is)))))

-- ---- the whole section
-- what stands behind the solidus
abbrev pub below_pieces : ℕ → List Item → List (List ℕ)
below_pieces d is = denominator_pieces d (start_places is) ++ whole_pieces 0 (behind_start is)

-- a fraction that is not blank, from the numerator on
abbrev pub written_pieces : ℕ → ℕ → List Item → List (List ℕ)
written_pieces above d is = whole_pieces above (numerator_items is) ++ ((47 ∷ []) ∷ below_pieces d (drop 1 (from_cut is)))

abbrev pub fraction_pieces : Mixed → List Item → List (List ℕ)
fraction_pieces f is =
    whole_pieces f.whole (whole_items is)
    ++ cond (is_parted is && eqb f.above 0) (map blank_piece (main_items is)) (written_pieces f.above f.below is)

-- together they are the text
below-text : (d : ℕ) (is : List Item) → 47 ∷ flatten (below_pieces d is) ≡ below_units d (solidus ∷ is)
unfolding below_units section_units items_units whole_context along item_units units flatten integer_places
below-text d is =
    ap (λ (us : List ℕ). 47 ∷ us)
    (flatten-joins (denominator_pieces d (start_places is)) (whole_pieces 0 (behind_start is))
    ∙ ap (λ (us : List ℕ). us ++ flatten (whole_pieces 0 (behind_start is))) (denominator-text d (start_places is)))

written-text : (above d : ℕ) (is : List Item) (c : Solidus is)
    → flatten (written_pieces above d is) ≡ flatten (whole_pieces above (numerator_items is)) ++ below_units d (from_cut is)
unfolding flatten
written-text above d is c =
    rw c.from
    (flatten-joins (whole_pieces above (numerator_items is)) ((47 ∷ []) ∷ below_pieces d c.behind)
    ∙ ap (λ (us : List ℕ). flatten (whole_pieces above (numerator_items is)) ++ us) (below-text d c.behind))

module _ (f : Mixed) (is : List Item) (r : FractionItems is) where
  pub fraction-text : flatten (fraction_pieces f is) ≡ fraction_units f is
  unfolding fraction_units section_units items_units whole_context
  fraction-text =
      flatten-joins (whole_pieces f.whole (whole_items is)) _
      ∙ ap (λ (us : List ℕ). flatten (whole_pieces f.whole (whole_items is)) ++ us)
      (by_cases (is_parted is && eqb f.above 0) (λ e. rw e (sym (blank-texts _ _ (main_items is) r.main_held)))
      (λ e. rw e (written-text f.above f.below is r.parts)))

  -- a piece an item, where that holds of items that show a whole number
  module _ (x : Number) (added below exact : Bool)
      (each : (n : ℕ) (js : List Item) → T (every (item_allowed fraction_kind) js) → PiecesOf x added below exact js (whole_pieces n js)) where
    below_each : (is : List Item) → T (every (item_allowed fraction_kind) is) → PiecesOf x added below exact is (below_pieces f.below is)
    below_each is held =
        subst (λ (js : List Item). PiecesOf x added below exact js (below_pieces f.below is)) (start-joins is)
        (pieces-join x added below exact
        (places-pieces x added below exact _ (spare f.below (start_places is)) (spare-plain f.below (start_places is)) _ (start_places is) (start-places is))
        (each 0 (behind_start is) (every-parts (item_allowed fraction_kind) (start_places is) (behind_start is) (start-joins is) held).1))

    written-each : PiecesOf x added below exact (main_items is) (written_pieces f.above f.below is)
    written-each =
        let b : List Item = r.parts.behind in
        let held = every-parts (item_allowed fraction_kind) (numerator_items is) (solidus ∷ b) (sym r.main) r.main_held in
        rw (r.main, r.parts.from)
        (pieces-join x added below exact (each f.above (numerator_items is) held.0)
        (more solidus (47 ∷ []) b _ (of_solidus false) (below_each b (every-tail (item_allowed fraction_kind) solidus b held.1))))

    pub fraction-each : PiecesOf x added below exact is (fraction_pieces f is)
    fraction-each =
        subst (λ (js : List Item). PiecesOf x added below exact js (fraction_pieces f is)) (whole-joins is)
        (pieces-join x added below exact
        (each f.whole (whole_items is) r.whole_held)
        (cond_both (PiecesOf x added below exact (main_items is)) (is_parted is && eqb f.above 0) (blank-pieces x added below exact (main_items is) r.main_held) written-each))
