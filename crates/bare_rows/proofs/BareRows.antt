-- The items of a literal, General or text section by their words.
-- Assumes nothing.
use Prim.Native.Nat.{ℕ, zero, suc, ◌+◌, ◌≤◌, ◌<◌}
use native.Mathlib.Omega.{arith}
use mathlib.Core.Path.{◌≡◌, refl, sym, ◌∙◌, ap}
use mathlib.Core.Bool.{Bool, true, false, cond, ◌&&◌, and-false}
use mathlib.Core.List.{List, [], ◌∷◌}
use lib.Dec.{T, leb, ltb, eqb, leb→le, le→leb, ltb→lt, eqb→eq}
use Rattle.std.specs.Int.{from_bool}
use borrow.Author.Tests.{eq-eqb, ne_eqb, lt-ltb, lt-leb, leb-true, leb-false, eqb-true, eqb-false}
use Rattle.lists.specs.Lists.{every, any, count}
use Rattle.lists.proofs.Bools.{no, and_left, and_right, and_in, by_cases, same_test, carry, true-T}
use Rattle.lists.proofs.Counts.{every_map, every-same, every-and, positive-count}
use Rattle.formats.specs.Items.{Item, Kind, text_kind, general_kind, date_kind, scientific_kind, fraction_kind, literal_kind, same_kind, shows_places, item_makes, items_kind, item_allowed, is_fill, is_general}
use Rattle.formats.proofs.ByNumber.{numbered}
use Rattle.tables.specs.Words.{Entry, entries_in}
use Rattle.tables.specs.Encode.{entry, kind_word}
use Rattle.tables.specs.Decode.{item_at, items_at}
use Rattle.tables.specs.Rules.{entry_in_range}
use Rattle.tables.proofs.BackEntries.{Span, span-at, late-tag}
use Rattle.tables.proofs.Standing.{kind-most}
use Rattle.tallies.specs.Tally.{makes_text, sound_entries, items_of}
use Rattle.scans.specs.Scans.{tagged}
use Rattle.bare_rows.specs.BareRows.{own_tag, bare_entry, owns_fit}
use Rattle.scans.proofs.Scanned.{tag_is, count-tagged}
use Rattle.tallies.proofs.Held.{is_made, holds, holds-back}

abbrev pub bare_test : ℕ → List Entry → Bool
bare_test kind es =
    every (bare_entry (own_tag kind)) es && (leb (count (tagged 3) es) 1 && owns_fit kind (count (tagged (own_tag kind)) es))

-- ---- what such a section holds
abbrev held_entry : Kind → Entry → Bool
held_entry k e = item_allowed k (item_at e) && entry_in_range e

-- tests that agree on the first n numbers
span-equal : (f g : ℕ → Bool) (k n : ℕ) → numbered f k n ≡ numbered g k n → Span (λ (t : ℕ). f t ≡ g t) k n
span-equal f g k zero e = tt
span-equal f g k (suc n) e = (cc, span-equal f g (suc k) n cc)

module _ (k : Kind) (own : ℕ) where
  abbrev ours : ℕ → ℕ → Bool
  ours a t = bare_entry own (entry t a)

  abbrev theirs : ℕ → ℕ → Bool
  theirs a t = held_entry k (entry t a)

  abbrev Same : Type 0
  Same = (a : ℕ) → numbered (ours a) 0 26 ≡ numbered (theirs a) 0 26

  entry-fits : Same → own < 26 → same_kind date_kind k ≡ false → (e : Entry) → bare_entry own e ≡ held_entry k e
  entry-fits rows few undated e =
      let t = e.tag in
      let a = e.argument in
      by_cases (leb t 25)
      (λ h. span-at (λ (t : ℕ). ours a t ≡ theirs a t) 0 26 t (span-equal (ours a) (theirs a) 0 26 (rows a)) (omega arith) (omega (arith, leb-true t 25 h)))
      (λ h. let late = leb-false t 25 h in
      rw (late-tag t a late) (unfold bare_entry item_allowed in
      (rw (lt-leb t 3 (omega arith), and-false (leb 1 t), ne_eqb t own (λ x. absurd (omega arith)), undated))))

  module _ (es : List Entry) (b : Bool) where
    abbrev is : List Item
    is = items_at es

    -- what makes the section, and that General is there once
    abbrev Made : Type 0
    Made = T (is_made k is) × (same_kind general_kind k ≡ true → count is_general is ≤ 1)

    bare-items : Same → own < 26 → same_kind date_kind k ≡ false → shows_places k ≡ false → same_kind scientific_kind k ≡ false → same_kind fraction_kind k ≡ false → (T b → Made) → (Made → T b)
        → (every (bare_entry own) es && (leb (count (tagged 3) es) 1 && b)) ≡ items_of (kind_word k) es
    bare-items rows few d f x s out back =
        let held : every (bare_entry own) es ≡ (every (item_allowed k) is && every entry_in_range es) =
        every-same (bare_entry own) (held_entry k) (entry-fits rows few d) es ∙ every-and (λ (e : Entry). item_allowed k (item_at e)) entry_in_range es
        ∙ unfold items_at in rw (every_map (item_allowed k) item_at es) in
        let fills : count is_fill is ≡ count (tagged 3) es = count-tagged is_fill 3 (λ e. tag_is is_fill 3 e refl (omega arith) refl) es in
        rw (← fills, held)
        (same_test _ (items_of (kind_word k) es)
        (λ t. let m = out (search and_right) in
        holds-back k es (record {
          items = search (and_left, and_right);
          made = m.0;
          ranges = search (and_left, and_right);
          fill = search (and_left, and_right, leb→le);
          general = m.1;
          figures = λ e. no (sym f ∙ e);
          exponent = λ e. no (sym x ∙ e);
          fraction = λ e. no (sym s ∙ e);
          dates = λ e. no (sym d ∙ e);
        }))
        (λ t. let h = holds k es t in
        let made = back (h.made, h.general) in
        search (and_in, le→leb)))

-- ---- by the kind word
module _ (es : List Entry) where
  generals-are : count is_general (items_at es) ≡ count (tagged 9) es
  generals-are = count-tagged is_general 9 (λ e. tag_is is_general 9 e refl (omega arith) refl) es

  texts-are : count makes_text (items_at es) ≡ count (tagged 10) es
  texts-are = count-tagged makes_text 10 (λ e. tag_is makes_text 10 e (unfold item_makes in refl) (omega arith) (unfold item_makes in refl)) es

  literal-items : bare_test 0 es ≡ items_of 0 es
  unfolding bare_entry item_allowed item_at entry_in_range kind_word
  literal-items = bare-items literal_kind 1 es true (λ a. refl) (omega arith) refl refl refl refl (λ t. (tt, λ e. no e)) (λ m. tt)

  general-items : bare_test 1 es ≡ items_of 1 es
  unfolding bare_entry item_allowed item_at entry_in_range kind_word
  general-items =
      let n = count (tagged 9) es in
      let made : any is_general (items_at es) ≡ ltb 0 n = sym (positive-count is_general (items_at es)) ∙ rw generals-are in
      bare-items general_kind 9 es (eqb n 1) (λ a. refl) (omega arith) refl refl refl refl
      (λ t. let one = eqb→eq n 1 t in (carry (sym made) (true-T (lt-ltb 0 n (omega arith))), λ e. omega (arith, generals-are)))
      (λ m. let some = ltb→lt 0 n (carry made m.0) in let most = m.1 refl in true-T (eq-eqb n 1 (omega (arith, generals-are))))

  text-items : bare_test 3 es ≡ items_of 3 es
  unfolding bare_entry item_allowed item_at entry_in_range kind_word
  text-items =
      let n = count (tagged 10) es in
      let made : any makes_text (items_at es) ≡ ltb 0 n = sym (positive-count makes_text (items_at es)) ∙ rw texts-are in
      bare-items text_kind 10 es (ltb 0 n) (λ a. refl) (omega arith) refl refl refl refl (λ t. (carry (sym made) t, λ e. no e)) (λ m. carry made m.0)

  -- a number of no kind
  no_items : (kind : ℕ) → 6 < kind → items_of kind es ≡ false
  unfolding items_of
  no_items kind h =
      rw (ne_eqb kind (kind_word (items_kind (items_at es))) (λ e. absurd (omega (arith, kind-most (items_kind (items_at es))))), and-false (sound_entries es))

  pub bare-told : (kind : ℕ) → (kind ≡ 2 → ⊥) → (kind ≡ 4 → ⊥) → (kind ≡ 5 → ⊥) → (kind ≡ 6 → ⊥) → bare_test kind es ≡ items_of kind es
  bare-told kind n₂ n₄ n₅ n₆ =
      by_cases (eqb kind 0) (λ e. rw (eqb-true kind 0 e) literal-items)
      (λ e₀. by_cases (eqb kind 1) (λ e. rw (eqb-true kind 1 e) general-items)
      (λ e₁. by_cases (eqb kind 3) (λ e. rw (eqb-true kind 3 e) text-items)
      (λ e₃. let late : 6 < kind = none-such kind (eqb-false kind 0 e₀) (eqb-false kind 1 e₁) (eqb-false kind 3 e₃) n₂ n₄ n₅ n₆ in
      rw (e₀, e₁, e₃, no_items kind late, and-false (leb (count (tagged 3) es) 1), and-false (every (bare_entry 1) es)))))
    where
      five : (kind : ℕ) → (kind ≡ 0 → ⊥) → (kind ≡ 1 → ⊥) → (kind ≡ 3 → ⊥) → (kind ≡ 2 → ⊥) → (kind ≡ 4 → ⊥) → (kind ≡ 5 → ⊥) → 5 < kind
      five kind n₀ n₁ n₃ n₂ n₄ n₅ = omega arith

      six : (kind : ℕ) → 5 < kind → (kind ≡ 6 → ⊥) → 6 < kind
      six kind h n = omega arith

      none-such : (kind : ℕ) → (kind ≡ 0 → ⊥) → (kind ≡ 1 → ⊥) → (kind ≡ 3 → ⊥) → (kind ≡ 2 → ⊥) → (kind ≡ 4 → ⊥) → (kind ≡ 5 → ⊥) → (kind ≡ 6 → ⊥) → 6 < kind
      none-such kind n₀ n₁ n₃ n₂ n₄ n₅ n₆ = let late = five kind n₀ n₁ n₃ n₂ n₄ n₅ in six kind late n₆

-- ---- the loop, with these entries left: how many fills were met, and how many of the section's own items
pub record Baring (words : List ℕ) (own fills owns : ℕ) (left : List Entry) : Type 0 where
  pub same : every (bare_entry own) (entries_in words) ≡ every (bare_entry own) left
  pub fill : count (tagged 3) (entries_in words) ≡ fills + count (tagged 3) left
  pub owned : count (tagged own) (entries_in words) ≡ owns + count (tagged own) left

pub baring-start : (words : List ℕ) (own : ℕ) → Baring words own 0 0 (entries_in words)
baring-start words own = record { same = refl; fill = omega arith; owned = omega arith }

count-front : (p : Entry → Bool) (e : Entry) (es : List Entry) → count p (e ∷ es) ≡ from_bool (p e) + count p es
unfolding count
count-front p e es = by_cases (p e) (λ h. rw h (omega arith)) (λ h. rw h (omega arith))

pub bool-most : (b : Bool) → from_bool b ≤ 1
bool-most true = omega arith
bool-most false = omega arith

module _ {words : List ℕ} {own fills owns : ℕ} {left : List Entry} (inv : Baring words own fills owns left) where
  module _ (here : Entry) (rest : List Entry) (front : left ≡ here ∷ rest) where
    every_front : every (bare_entry own) (entries_in words) ≡ cond (bare_entry own here) (every (bare_entry own) rest) false
    unfolding every
    every_front = inv.same ∙ ap (every (bare_entry own)) front

    counted : (t : ℕ) → count (tagged t) left ≡ from_bool (tagged t here) + count (tagged t) rest
    counted t = ap (count (tagged t)) front ∙ count-front (tagged t) here rest

    pub baring-step : bare_entry own here ≡ true → Baring words own (fills + from_bool (tagged 3 here)) (owns + from_bool (tagged own here)) rest
    baring-step b =
        record { same = every_front ∙ rw b; fill = omega (arith, inv.fill, counted 3); owned = omega (arith, inv.owned, counted own) }

    pub baring-fault : (kind : ℕ) → own ≡ own_tag kind → bare_entry own here ≡ false
        → (kind ≡ 2 → ⊥) → (kind ≡ 4 → ⊥) → (kind ≡ 5 → ⊥) → (kind ≡ 6 → ⊥) → false ≡ items_of kind (entries_in words)
    baring-fault kind e b n₂ n₄ n₅ n₆ =
        let none : every (bare_entry own) (entries_in words) ≡ false = every_front ∙ rw b in
        rw (rw e at none) at (bare-told (entries_in words) kind n₂ n₄ n₅ n₆)

  pub baring-end : (kind : ℕ) → own ≡ own_tag kind → left ≡ [] → (kind ≡ 2 → ⊥) → (kind ≡ 4 → ⊥) → (kind ≡ 5 → ⊥) → (kind ≡ 6 → ⊥)
      → (leb fills 1 && owns_fit kind owns) ≡ items_of kind (entries_in words)
  unfolding every count
  baring-end kind e none n₂ n₄ n₅ n₆ =
      let all : every (bare_entry own) (entries_in words) ≡ true = inv.same ∙ rw none in
      let fill : count (tagged 3) (entries_in words) ≡ fills = inv.fill ∙ rw none (omega arith) in
      let owned : count (tagged own) (entries_in words) ≡ owns = inv.owned ∙ rw none (omega arith) in
      rw (rw e at all, fill, rw e at owned) at (bare-told (entries_in words) kind n₂ n₄ n₅ n₆)
