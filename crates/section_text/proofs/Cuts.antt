-- What a part of a section's items holds, cut at the first E or solidus, and the powers of its entries.
-- Assumes nothing.
use Prim.Native.Nat.{ℕ, ◌-◌}
use mathlib.Core.Path.{◌≡◌, refl, sym, ap, ◌∙◌}
use mathlib.Core.Bool.{Bool, true, false, true≢false, not, cond, ◌&&◌, ◌||◌}
use mathlib.Core.List.{List, [], ◌∷◌, ◌++◌, head-eq_of_cons-eq}
use lib.Dec.{T}
use borrow.Author.Tests.{ne_eqb, eqb-false}
use Rattle.lists.specs.Lists.{any, every}
use Rattle.lists.proofs.Bools.{no, by_cases, and_left, and_right, and_in, carry, every-head, every-tail, every-cons}
use Rattle.formats.specs.Items.{Item, Kind, kind_row, scientific_kind, fraction_kind, number_kind, same_kind, item_allowed, is_fixed, is_cut, is_place}
use Rattle.formats.specs.Text.{digit_after, along}
use Rattle.formats.proofs.Each.{by-item}
use Rattle.formats.proofs.Cutting.{cut-case, held-bare}
use Rattle.tables.specs.Words.{Entry}
use Rattle.tables.specs.Decode.{item_at, items_at}
use Rattle.tables.specs.Rules.{power_fits, powers_from, all_of}

-- kinds differ either way
pub other-kind : (j k : Kind) → same_kind j k ≡ false → same_kind k j ≡ false
other-kind j k h = ne_eqb (kind_row k).number (kind_row j).number (λ e. eqb-false (kind_row j).number (kind_row k).number h (sym e))

-- a section of another kind holds no E and no solidus
pub uncut-bare : (k : Kind) (es : List Entry) → same_kind scientific_kind k ≡ false → same_kind fraction_kind k ≡ false
    → T (every (item_allowed k) (items_at es)) → any is_cut (items_at es) ≡ false
uncut-bare k es h g = held-bare k (items_at es) (other-kind scientific_kind k h) (other-kind fraction_kind k g)

-- what a scientific section holds beside the E, or a fraction beside the solidus and the fixed number, a number section may hold
plain-held : (i : Item) → is_cut i ≡ false → T (item_allowed scientific_kind i || (item_allowed fraction_kind i && not (is_fixed i))) → T (item_allowed number_kind i)
unfolding item_allowed
plain-held =
    by-item (λ (i : Item). is_cut i ≡ false → T (item_allowed scientific_kind i || (item_allowed fraction_kind i && not (is_fixed i))) → T (item_allowed number_kind i))
    (λ u e t. tt) (λ u e t. tt) (λ u e t. tt) (λ p e t. tt) (λ e t. tt) (λ e t. tt) (λ e. absurd) (λ e. absurd)
    (λ n e. absurd) (λ n e. absurd) (λ n e. absurd) (λ n e. absurd) (λ n e. absurd) (λ n e. absurd) (λ n e. absurd) (λ d n e. absurd) (λ h e. absurd)
    (λ m e t. absurd (true≢false e)) (λ e t. absurd (true≢false e)) (λ n e. absurd)

pub plain-allowed : (f : Item → Bool) → ((i : Item) → T (f i) → T (item_allowed scientific_kind i || (item_allowed fraction_kind i && not (is_fixed i))))
    → (is : List Item) → any is_cut is ≡ false → T (every f is) → T (every (item_allowed number_kind) is)
unfolding any every
plain-allowed f h [] bare t = tt
plain-allowed f h (i ∷ is) bare t =
    by_cases (is_cut i) (λ e. absurd (true≢false (rw e at bare)))
    (λ e. every-cons (item_allowed number_kind) i is (plain-held i e (h i (every-head f i is t))) (plain-allowed f h is (rw e at bare) (every-tail f i is t)))

-- without them the power anew does not matter
pub powers-anew : (a b q : ℕ) (es : List Entry) → any is_cut (items_at es) ≡ false → powers_from a q es ≡ powers_from b q es
unfolding powers_from along all_of items_at any digit_after
powers-anew a b q [] bare = refl
powers-anew a b q (e ∷ es) bare =
    by_cases (is_cut (item_at e)) (λ t. absurd (true≢false (rw t at bare)))
    (λ t. rw t (ap (λ r. power_fits q e && r) (powers-anew a b (cond (is_place (item_at e)) (q - 1) q) es (rw t at bare))))

-- ---- powers of a part of some entries
pub powers-front : (a q : ℕ) (es fs : List Entry) → T (powers_from a q (es ++ fs)) → T (powers_from a q es)
unfolding powers_from along all_of
powers-front a q [] fs t = tt
powers-front a q (e ∷ es) fs t =
    and_in (power_fits q e) (powers_from a (digit_after a q (item_at e)) es)
    (and_left (power_fits q e) (powers_from a (digit_after a q (item_at e)) (es ++ fs)) t)
    (powers-front a (digit_after a q (item_at e)) es fs (and_right (power_fits q e) (powers_from a (digit_after a q (item_at e)) (es ++ fs)) t))

-- from an E or solidus on it does not matter which power was before it
cut-powers : (a p q : ℕ) (fs : List Entry) (i : Item) (js : List Item) → is_cut i ≡ true → items_at fs ≡ i ∷ js → powers_from a p fs ≡ powers_from a q fs
unfolding powers_from along all_of items_at digit_after
cut-powers a p q [] i js c e = refl
cut-powers a p q (f ∷ fs) i js c e =
    cut-case (λ (j : Item). is_cut j ≡ true → item_at f ≡ j → powers_from a p (f ∷ fs) ≡ powers_from a q (f ∷ fs))
    (λ m t g. rw g) (λ t g. rw g) (λ j n t. no (sym n ∙ t)) i c (head-eq_of_cons-eq e)

pub powers-behind : (a p q : ℕ) (es fs : List Entry) (i : Item) (js : List Item) → is_cut i ≡ true → items_at fs ≡ i ∷ js
    → T (powers_from a q (es ++ fs)) → T (powers_from a p fs)
unfolding powers_from along all_of
powers-behind a p q [] fs i js c h t = carry (cut-powers a q p fs i js c h) t
powers-behind a p q (e ∷ es) fs i js c h t =
    powers-behind a p (digit_after a q (item_at e)) es fs i js c h
    (and_right (power_fits q e) (powers_from a (digit_after a q (item_at e)) (es ++ fs)) t)
