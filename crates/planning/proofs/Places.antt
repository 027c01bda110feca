-- The integer places of a section: the argument of its first place is 15 more.
-- Assumes nothing.
use Prim.Native.Nat.{ℕ, suc, ◌+◌, ◌≤◌}
use native.Mathlib.Omega.{arith}
use mathlib.Core.Path.{◌≡◌, refl, sym, ap, ◌∙◌}
use Rattle.std.specs.Borrow.{Bor}
use Rattle.std.specs.Prelude.{Option, Some, None, MatchOption}
use Rattle.std.specs.Option.{option_map, option_map_or}
use Rattle.std.specs.List.{find}
use mathlib.Core.Bool.{true, false, ◌||◌}
use mathlib.Core.List.{List, [], ◌∷◌}
use lib.Dec.{T, eqb→eq}
use lib.ListN.{get_or}
use Rattle.values.specs.Ranges.{between}
use Rattle.lists.specs.Lists.{any}
use Rattle.lists.proofs.Bools.{and_left, and_right, by_cases, cond_both}
use Rattle.lists.proofs.Counts.{any-either}
use Rattle.formats.specs.Items.{Item, fraction_kind, same_kind, kind_of, is_place, is_point, is_exponent, is_solidus, is_cut, integer_places}
use Rattle.formats.specs.Text.{digit_after, along, first_of}
use Rattle.formats.proofs.Cutting.{no-solidus, main-all}
use Rattle.tables.specs.Words.{Entry, entries_in}
use Rattle.tables.specs.Decode.{item_at, items_at}
use Rattle.tables.specs.Rules.{power_fits, powers_from, run_powers, all_of}
use Rattle.tables.proofs.BackEntries.{place-tag, powers-all}
use Rattle.table_words.specs.declared.TableSection.{TableSection}
use Rattle.table_words.specs.Sections.{ItemsOf}
use Rattle.table_words.specs.Tabled.{section_of}
use Rattle.table_words.proofs.Bodies.{section-allowed, section-limits, section-exponent}
use Rattle.table_words.proofs.Pairs.{entry_of}
use Rattle.planning.specs.Number.{first_argument}

-- a place's argument, and that an item which is no place, no E and no solidus changes no power
first-argument : (a q : ℕ) (e : Entry) (es : List Entry) → is_place (item_at e) ≡ true → T (powers_from a q (e ∷ es)) → e.argument ≡ suc q
unfolding powers_from along all_of
first-argument a q e es h t =
    let p = and_left (power_fits q e) (powers_from a (digit_after a q (item_at e)) es) t in eqb→eq e.argument (suc q) (rw h at p)

powers-behind : (a q : ℕ) (e : Entry) (es : List Entry) → is_place (item_at e) ≡ false → is_cut (item_at e) ≡ false
    → T (powers_from a q (e ∷ es)) → T (powers_from a q es)
unfolding powers_from digit_after along all_of
powers-behind a q e es h g t =
    let p = and_right (power_fits q e) (powers_from a (digit_after a q (item_at e)) es) t in rw (g, h) at p

places-most : (i : Item) (is : List Item) → is_place i ≡ false → integer_places (i ∷ is) ≤ integer_places is
unfolding integer_places
places-most i is h = cond_both (λ (n : ℕ). n ≤ integer_places is) (is_point i || is_cut i) (omega arith) (rw h (omega arith))

-- items that have an E or a solidus have an integer place
abbrev Placed : List Item → Type 0
Placed is = any is_cut is ≡ true → 1 ≤ integer_places is

marked-places : (i : Item) (is : List Item) → is_cut i ≡ true → integer_places (i ∷ is) ≡ 0
unfolding integer_places
marked-places i is e = by_cases (is_point i) (λ t. rw t) (λ t. rw (t, e))

unmarked : (i : Item) (is : List Item) → Placed (i ∷ is) → is_cut i ≡ false
unfolding any
unmarked i is p = by_cases (is_cut i) (λ e. let some = p (rw e) in absurd (omega (arith, some, marked-places i is e))) (λ e. e)

placed-behind : (i : Item) (is : List Item) → is_place i ≡ false → Placed (i ∷ is) → Placed is
unfolding any
placed-behind i is h p t = omega (arith, places-most i is h, p (rw (unmarked i is p) t))

-- powers run down from n integer places: the first place has the highest
first-is : (a n : ℕ) (es : List Entry) → T (powers_from a (first_of n) es) → (integer_places (items_at es) ≡ 0 → n ≡ 0) → Placed (items_at es)
    → first_argument es ≡ 15 + n
unfolding first_argument items_at integer_places
first-is a n [] t z p = rw (z refl)
first-is a n (e ∷ es) t z p =
    let k = sym (place-tag e.tag e.argument) in
    by_cases (is_place (item_at e))
    (λ h. rw (k ∙ h) (omega (arith, first-argument a (first_of n) e es h t)))
    (λ h. rw (k ∙ h)
    (first-is a n es (powers-behind a (first_of n) e es h (unmarked (item_at e) (items_at es) p) t)
    (λ y. z (omega (arith, places-most (item_at e) (items_at es) h))) (placed-behind (item_at e) (items_at es) h p)))

-- of a section that is no fraction
module _ (z : TableSection) (k : same_kind (kind_of (section_of z)) fraction_kind ≡ false) where
  no_fraction : any is_solidus (section_of z).items ≡ false
  no_fraction = no-solidus (kind_of (section_of z)) (section_of z).items k (section-allowed _ _ z.table.passes z.there)

  pub integers-most : integer_places (section_of z).items ≤ 20
  integers-most = rw (main-all (section_of z).items no_fraction) at (section-limits _ _ z.table.passes z.there).integers-most

  section-placed : Placed (section_of z).items
  section-placed some =
      (section-exponent _ _ z.table.passes z.there
      (by_cases (any is_exponent (section_of z).items) (λ e. e) (λ e. sym (any-either is_exponent is_solidus (section_of z).items ∙ rw (e, no_fraction)) ∙ some))).integer

  -- its integer places, from the words of its items
  pub argument_is : {words : List ℕ} {r : ℕ} → ItemsOf (section_of z) words → r ≡ first_argument (entries_in words)
      → r ≡ 15 + integer_places (section_of z).items
  unfolding run_powers
  argument_is {words} o e =
      e ∙ rw o.items
      (first-is _ (integer_places (items_at (entries_in words))) (entries_in words)
      (powers-all (entries_in words) (rw o.items at no_fraction) o.powers) (λ y. y) (rw o.items at section-placed))

-- ---- the argument of the first place, as it is found among the entries
first-found : (es : List Entry) → first_argument es ≡ option_map_or (λ (e : Entry). e.argument) (find (λ (e : Entry). between 4 6 e.tag) es) 15
unfolding first_argument
first-found [] = refl
first-found (e ∷ es) = by_cases (between 4 6 e.tag) (λ t. rw t) (λ t. rw t (first-found es))

read-off : (o : Option (Bor (List ℕ))) (r : ℕ) → MatchOption o (r ≡ 15) (λ x. r ≡ get_or x.now 1 0) → r ≡ option_map_or (λ (e : Entry). e.argument) (option_map entry_of o) 15
read-off None r m = m
read-off (Some x) r m = m

pub argument-found : (es : List Entry) (o : Option (Bor (List ℕ))) (r : ℕ) → option_map entry_of o ≡ find (λ (e : Entry). between 4 6 e.tag) es
    → MatchOption o (r ≡ 15) (λ x. r ≡ get_or x.now 1 0) → r ≡ first_argument es
argument-found es o r f m =
    read-off o r m ∙ ap (λ (e : Option Entry). option_map_or (λ (x : Entry). x.argument) e 15) f ∙ sym (first-found es)
