-- The solidus among a body's items: whether one is there, and whether the items fit by what their tally and their tokens say.
-- Assumes nothing.
use Prim.Native.Nat.{ℕ, ◌≤◌}
use native.Mathlib.Omega.{arith}
use mathlib.Core.Path.{◌≡◌, refl, sym, ◌∙◌, ap}
use mathlib.Core.Bool.{Bool, true, false, cond, ◌&&◌, true≢false, and-false}
use mathlib.Core.List.{List, [], ◌∷◌, ◌++◌, map}
use lib.Dec.{T, ltb, eqb}
use borrow.Author.Tests.{le-ltb, lt-ltb, eqb-true, eqb-false}
use Rattle.lists.specs.Lists.{every, any}
use Rattle.lists.proofs.Bools.{by_cases, cond_both, and_left, T_true, true-T}
use Rattle.lists.proofs.Counts.{any_append, positive-count}
use Rattle.formats.specs.Tokens.{Token, Letter}
use Rattle.formats.specs.Items.{Item, literal, point, date_kind, fraction_kind, same_kind, item_allowed, is_solidus, fraction_fits, items_fit, settled}
use Rattle.formats.specs.Kinds.{Piece, whole, second_part, pieces_from, body_kind, run_item, token_items, piece_items, plain_items, date_items, body_items, last_fill}
use Rattle.formats.proofs.Each.{by_token, by-letter}
use Rattle.formats.proofs.Cutting.{no-solidus}
use Rattle.formats.proofs.FormedKinds.{kind-of-body}
use Rattle.grammar.proofs.Kept.{any-kept, allowed-kept}
use Rattle.grammar.proofs.Fractions.{parts-kept}
use Rattle.tables.specs.Words.{Entry}
use Rattle.tables.specs.Encode.{run_entries}
use Rattle.tables.specs.Decode.{items_at}
use Rattle.tables.proofs.MadeItems.{items_back}
use Rattle.tallies.specs.Tally.{makes_fraction, tally_of, allowed_told, items_fit_told}
use Rattle.tallies.proofs.Held.{no_fraction}
use Rattle.tallies.proofs.Told.{allowed-told, items-fit-told, bare-items-told}

-- ---- a fixed number stands only behind a solidus
abbrev Alike : List Item → Type 0
Alike is = any is_solidus is ≡ any makes_fraction is

literals-alike : (us : List ℕ) → Alike (map literal us)
unfolding any
literals-alike [] = refl
literals-alike (u ∷ us) = literals-alike us

token-alike : (date : Bool) (t : Token) → Alike (token_items date t)
unfolding any token_items run_item
token-alike date =
    by_token (λ (t : Token). Alike (token_items date t)) literals-alike (λ u. refl) (λ u. refl) (λ u. refl) (λ p. refl)
    (cond_both (λ (i : Item). Alike (i ∷ [])) date {x = literal 46} {y = point} refl refl)
    (cond_both Alike date {x = literal 44 ∷ []} {y = []} refl refl)
    refl refl refl refl (λ h. refl) (λ l n. by-letter (λ (k : Letter). Alike (run_item k n ∷ [])) refl refl refl refl refl l)
    (λ e n. refl) (λ n. refl) (λ w. refl) (λ m. refl) (λ p. refl) (λ p n. refl)

joined-alike : (xs ys : List Item) → Alike xs → Alike ys → Alike (xs ++ ys)
joined-alike xs ys a b = any_append is_solidus xs ys ∙ rw (a, b) (sym (any_append makes_fraction xs ys))

plain-alike : (ts : List Token) → Alike (plain_items ts)
unfolding plain_items any
plain-alike [] = refl
plain-alike (t ∷ ts) = joined-alike (token_items false t) (plain_items ts) (token-alike false t) (plain-alike ts)

date-alike : (ps : List Piece) → Alike (date_items ps)
unfolding date_items piece_items any
date-alike [] = refl
date-alike (whole t ∷ ps) = joined-alike (token_items true t) (date_items ps) (token-alike true t) (date-alike ps)
date-alike (second_part n ∷ ps) = date-alike ps

module _ (ts : List Token) where
  abbrev pub items : List Item
  items = settled (last_fill (body_items ts))

  abbrev pub entries : List Entry
  entries = run_entries items

  pub entries-back : items_at entries ≡ items
  unfolding run_entries
  entries-back = items_back _ _ items

  fraction-kept : any makes_fraction items ≡ any makes_fraction (body_items ts)
  fraction-kept = any-kept makes_fraction (λ u. refl) (λ n. refl) (body_items ts)

  alike : any is_solidus items ≡ any makes_fraction items
  unfolding body_items
  alike =
      any-kept is_solidus (λ u. refl) (λ n. refl) (body_items ts)
      ∙ cond_both Alike (same_kind (body_kind ts) date_kind) (date-alike (pieces_from false 0 ts)) (plain-alike ts)
      ∙ sym fraction-kept

  -- ---- whether a solidus is there is told by the tally
  solidus-told : any is_solidus items ≡ ltb 0 (tally_of entries).solidi
  unfolding tally_of
  solidus-told = alike ∙ ap (any makes_fraction) (sym entries-back) ∙ sym (positive-count makes_fraction (items_at entries))

  pub solidus-none : (tally_of entries).solidi ≤ 0 → any is_solidus items ≡ false
  solidus-none h = solidus-told ∙ le-ltb 0 _ h

  pub solidus-some : ((tally_of entries).solidi ≡ 0 → ⊥) → any is_solidus items ≡ true
  solidus-some h = solidus-told ∙ lt-ltb 0 (tally_of entries).solidi (omega (arith, h))

  -- ---- whether the items fit
  pub bare-fits : (tally_of entries).solidi ≤ 0 → items_fit_told (tally_of entries) ≡ (fraction_fits (body_items ts) && items_fit items)
  bare-fits h = rw (no_fraction (body_items ts) (sym fraction-kept ∙ sym alike ∙ solidus-none h)) (bare-items-told entries h ∙ rw entries-back)

  fit-told : items_fit items ≡ (items_fit_told (tally_of entries) && fraction_fits items)
  fit-told = sym (rw entries-back at (items-fit-told entries))

  held : items_fit_told (tally_of entries) ≡ true → every (item_allowed (body_kind ts)) items ≡ true
  held h =
      let allowed : T (allowed_told (tally_of entries)) = and_left (allowed_told (tally_of entries)) _ (true-T h) in
      sym (rw (entries-back, kind-of-body ts) at (allowed-told entries)) ∙ T_true _ allowed

  -- those of a fraction do that keep its rules; no other kind holds a solidus
  pub cut_fits : (cond (same_kind (body_kind ts) fraction_kind) (fraction_fits (body_items ts)) (eqb (tally_of entries).solidi 0) && items_fit_told (tally_of entries))
      ≡ (fraction_fits (body_items ts) && items_fit items)
  cut_fits =
      by_cases (same_kind (body_kind ts) fraction_kind)
      (λ k. rw (k, fit-told) (by_cases (items_fit_told (tally_of entries))
      (λ a. by_cases (fraction_fits (body_items ts))
      (λ f. rw (f, a) (sym (parts-kept (body_kind ts) (body_items ts) (sym (allowed-kept (body_kind ts) (body_items ts)) ∙ held a) f).fits)) (λ f. rw f))
      (λ a. rw a)))
      (λ k. rw k (by_cases (eqb (tally_of entries).solidi 0)
      (λ z. rw z (bare-fits (omega (arith, eqb-true (tally_of entries).solidi 0 z))))
      (λ z. rw (z, fit-told) (by_cases (items_fit_told (tally_of entries))
      (λ a. absurd (true≢false (sym (solidus-some (eqb-false (tally_of entries).solidi 0 z)) ∙ no-solidus (body_kind ts) items k (true-T (held a)))))
      (λ a. rw a (sym (and-false (fraction_fits (body_items ts)))))))))
