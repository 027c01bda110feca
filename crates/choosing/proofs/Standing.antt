-- The choice where sections stand as the rules say: text last, conditions on the first two. At most four sections are gone through one
-- by one.
-- Assumes nothing.
use Prim.Native.Nat.{ℕ, suc, ◌-◌, ◌≤◌, ◌<◌}
use native.Mathlib.Omega.{arith}
use mathlib.Core.Path.{◌≡◌, refl, sym, ◌∙◌}
use mathlib.Core.Bool.{Bool, true, false, cond, not, true≢false}
use mathlib.Core.List.{List, [], ◌∷◌}
use lib.ListN.{length, get_or}
use lib.Dec.{T, eqb, ltb, eqb→eq, ltb→lt}
use borrow.Author.Tests.{eq-eqb, ne_eqb, not-true}
use Rattle.lists.proofs.Bools.{and_left, and_right, implied, true-T, T_true, by_cases}
use Rattle.formats.specs.Items.{Section}
use Rattle.formats.specs.Where.{implies, has_condition, is_text, stands_at}
use Rattle.formats.specs.Choice.{Exact, counted_from, counted, Reason, fallback, reason_for, reason_holds, Choice, chosen, choose_from, choose_first, choose, fourth_from, text_from, choose_text}
use Rattle.tables.specs.Decode.{decode}
use Rattle.tables.specs.Rules.{passes}
use Rattle.table_words.specs.Sections.{no_section, section_in}
use Rattle.table_words.proofs.Heads.{sections-length, Long, long, section-stands}
use Rattle.std.specs.Prelude.{Option, Some, None}
use Rattle.choosing.specs.Seeking.{found_of, text_found_of, takes}

-- every section stands where it may
record Stand (ss : List Section) : Type 0 where
  at : (i : ℕ) → i < length ss → T (stands_at (length ss) i (get_or ss i no_section))

module _ {ss : List Section} (st : Stand ss) (i : ℕ) (h : i < length ss) where
  abbrev here : Section
  here = get_or ss i no_section

  plain : suc i < length ss → is_text here ≡ false
  unfolding stands_at
  plain l =
      let t = st.at i h in
      let rule : T (implies (is_text here) (eqb (suc i) (length ss))) = search (and_left) in
      by_cases (is_text here) (λ e. absurd (omega (arith, eqb→eq (suc i) (length ss) (implied (is_text here) (eqb (suc i) (length ss)) rule (true-T e))))) (λ e. e)

  unconditional : 2 ≤ i → has_condition here ≡ false
  unfolding stands_at
  unconditional l =
      let t = st.at i h in
      let rule : T (implies (has_condition here) (ltb i 2)) = search (and_left, and_right) in
      by_cases (has_condition here) (λ e. absurd (omega (arith, ltb→lt i 2 (implied (has_condition here) (ltb i 2) rule (true-T e))))) (λ e. e)

  conditional : has_condition here ≡ true → is_text here ≡ false
  unfolding stands_at
  conditional c =
      let t = st.at i h in
      let rule : T (implies (is_text here) (not (has_condition here))) = search (and_left, and_right) in
      by_cases (is_text here) (λ e. absurd (true≢false (sym c ∙ not-true (has_condition here) (T_true _ (implied (is_text here) (not (has_condition here)) rule (true-T e)))))) (λ e. e)

-- ---- N
counted_is : (ss : List Section) → Stand ss → 1 ≤ length ss → length ss ≤ 4
    → counted ss ≡ cond (ltb 3 (length ss)) 3 (cond (is_text (get_or ss (length ss - 1) no_section)) (length ss - 1) (length ss))
unfolding counted counted_from
counted_is [] st l m = absurd (omega arith)
counted_is (a ∷ []) st l m = by_cases (is_text a) (λ e. rw e) (λ e. rw e)
counted_is (a ∷ b ∷ []) st l m = rw (plain st 0 (omega arith) (omega arith)) (by_cases (is_text b) (λ e. rw e) (λ e. rw e))
counted_is (a ∷ b ∷ c ∷ []) st l m =
    rw (plain st 0 (omega arith) (omega arith), plain st 1 (omega arith) (omega arith)) (by_cases (is_text c) (λ e. rw e) (λ e. rw e))
counted_is (a ∷ b ∷ c ∷ d ∷ []) st l m =
    rw (plain st 0 (omega arith) (omega arith), plain st 1 (omega arith) (omega arith), plain st 2 (omega arith) (omega arith))
    (by_cases (is_text d) (λ e. rw e) (λ e. rw e))
counted_is (a ∷ b ∷ c ∷ d ∷ e ∷ ss) st l m = absurd (omega arith)

-- ---- the section of a number or an instant
-- what is found, where N sections count, by what the first two take
abbrev answer : ℕ → Section → Section → Exact → Option ℕ
answer n a b x =
    cond (takes n 0 a x) (Some 0)
    (cond (eqb n 1) None (cond (takes n 1 b x) (Some 1) (cond (eqb n 2) None (Some 2))))

either : (b : Bool) (i : ℕ) (s : Section) (why : Reason) (c : Choice) {r : Option ℕ} → found_of c ≡ r → found_of (cond b (chosen i s why) c) ≡ cond b (Some i) r
unfolding found_of
either true i s why c e = refl
either false i s why c e = e

-- a section alone that has a condition
alone : (a : Section) → Stand (a ∷ []) → has_condition a ≡ true → counted (a ∷ []) ≡ 1
alone a st h = counted_is (a ∷ []) st (omega arith) (omega arith) ∙ rw (conditional st 0 (omega arith) h)

-- the choice, unless a section stands alone and has no condition
choice-is : (ss : List Section) → Stand ss → length ss ≤ 4 → (x : Exact) → (length ss ≡ 1 → has_condition (get_or ss 0 no_section) ≡ true) → 1 ≤ length ss
    → found_of (choose ss x) ≡ answer (counted ss) (get_or ss 0 no_section) (get_or ss 1 no_section) x
unfolding choose choose_from reason_for fallback reason_holds takes found_of
choice-is [] st m x p l = absurd (omega arith)
choice-is (a ∷ []) st m x p l = rw (alone a st (p refl), conditional st 0 (omega arith) (p refl)) (either (takes 1 0 a x) 0 a _ _ refl)
choice-is (a ∷ b ∷ []) st m x p l =
    let n = counted_is (a ∷ b ∷ []) st (omega arith) m in
    by_cases (is_text b)
    (λ e. rw (n, plain st 0 (omega arith) (omega arith), e) (either (takes 1 0 a x) 0 a _ _ refl))
    (λ e. rw (n, plain st 0 (omega arith) (omega arith), e) (either (takes 2 0 a x) 0 a _ _ (either (takes 2 1 b x) 1 b _ _ refl)))
choice-is (a ∷ b ∷ c ∷ []) st m x p l =
    let n = counted_is (a ∷ b ∷ c ∷ []) st (omega arith) m in
    by_cases (is_text c)
    (λ e. rw (n, plain st 0 (omega arith) (omega arith), plain st 1 (omega arith) (omega arith), e) (either (takes 2 0 a x) 0 a _ _ (either (takes 2 1 b x) 1 b _ _ refl)))
    (λ e. rw (n, plain st 0 (omega arith) (omega arith), plain st 1 (omega arith) (omega arith), e, unconditional st 2 (omega arith) (omega arith))
    (either (takes 3 0 a x) 0 a _ _ (either (takes 3 1 b x) 1 b _ _ refl)))
choice-is (a ∷ b ∷ c ∷ d ∷ []) st m x p l =
    rw (counted_is (a ∷ b ∷ c ∷ d ∷ []) st (omega arith) m, plain st 0 (omega arith) (omega arith), plain st 1 (omega arith) (omega arith), plain st 2 (omega arith) (omega arith), unconditional st 2 (omega arith) (omega arith))
    (either (takes 3 0 a x) 0 a _ _ (either (takes 3 1 b x) 1 b _ _ refl))
choice-is (a ∷ b ∷ c ∷ d ∷ e ∷ ss) st m x p l = absurd (omega arith)

many : (ss : List Section) → Stand ss → (length ss ≡ 1 → has_condition (get_or ss 0 no_section) ≡ true) → 1 ≤ length ss → (counted ss ≡ 1 → ⊥)
    → 2 ≤ length ss
many [] st p l apart = absurd (omega arith)
many (a ∷ []) st p l apart = absurd (apart (alone a st (p refl)))
many (a ∷ b ∷ ss) st p l apart = omega arith

single : (ss : List Section) (x : Exact) → length ss ≡ 1 → has_condition (get_or ss 0 no_section) ≡ false → found_of (choose ss x) ≡ Some 0
unfolding choose choose_first choose_from counted counted_from reason_for fallback reason_holds found_of
single [] x e h = absurd (omega arith)
single (a ∷ []) x e h = by_cases (is_text a) (λ t. rw t) (λ t. rw (t, h))
single (a ∷ b ∷ ss) x e h = absurd (omega arith)

-- ---- the section of a text
text-is : (ss : List Section) → Stand ss → 1 ≤ length ss → length ss ≤ 4
    → text_found_of (choose_text ss) ≡ cond (eqb (length ss) 4) (Some 3) (cond (is_text (get_or ss (length ss - 1) no_section)) (Some (length ss - 1)) None)
unfolding choose_text fourth_from text_from text_found_of
text-is [] st l m = absurd (omega arith)
text-is (a ∷ []) st l m = by_cases (is_text a) (λ e. rw e) (λ e. rw e)
text-is (a ∷ b ∷ []) st l m = rw (plain st 0 (omega arith) (omega arith)) (by_cases (is_text b) (λ e. rw e) (λ e. rw e))
text-is (a ∷ b ∷ c ∷ []) st l m =
    rw (plain st 0 (omega arith) (omega arith), plain st 1 (omega arith) (omega arith)) (by_cases (is_text c) (λ e. rw e) (λ e. rw e))
text-is (a ∷ b ∷ c ∷ d ∷ []) st l m = refl
text-is (a ∷ b ∷ c ∷ d ∷ e ∷ ss) st l m = absurd (omega arith)

-- ---- of a table
module _ (ws : List ℕ) (t : T (passes ws)) where
  few : (1 ≤ length (decode ws)) × (length (decode ws) ≤ 4)
  few = let x : Long ws = long ws t in (omega (arith, sections-length ws), omega (arith, sections-length ws))

  stand : Stand (decode ws)
  unfolding section_in
  stand = record { at = λ i h. true-T (section-stands ws i t (omega (arith, sections-length ws))) }

  module _ {n : ℕ} (en : n ≡ get_or ws 0 0) where
    size : length (decode ws) ≡ n
    size = sections-length ws ∙ sym en

    pub bounds : (1 ≤ n) × (n ≤ 4)
    bounds = rw (← size) few

    pub counted-told : counted (decode ws) ≡ cond (ltb 3 n) 3 (cond (is_text (section_in ws (n - 1))) (n - 1) n)
    unfolding section_in
    counted-told = rw size at (counted_is (decode ws) stand few.0 few.1)

    pub text-told : text_found_of (choose_text (decode ws)) ≡ cond (eqb n 4) (Some 3) (cond (is_text (section_in ws (n - 1))) (Some (n - 1)) None)
    unfolding section_in
    text-told = rw size at (text-is (decode ws) stand few.0 few.1)

    pub single-told : (x : Exact) → n ≡ 1 → has_condition (section_in ws 0) ≡ false → Some 0 ≡ found_of (choose (decode ws) x)
    unfolding section_in
    single-told x e h = sym (single (decode ws) x (size ∙ e) h)

  -- no section stands alone without a condition
  module _ (alone : get_or ws 0 0 ≡ 1 → has_condition (section_in ws 0) ≡ true) {m : ℕ} (em : m ≡ counted (decode ws)) where
    choice-told : (x : Exact) → found_of (choose (decode ws) x) ≡ answer m (section_in ws 0) (section_in ws 1) x
    unfolding section_in
    choice-told x = rw em (choice-is (decode ws) stand few.1 x (λ e. alone (sym (sections-length ws) ∙ e)) few.0)

    pub second-there : (m ≡ 1 → ⊥) → 1 < get_or ws 0 0
    unfolding section_in
    second-there apart =
        rw (sections-length ws) at (many (decode ws) stand (λ e. alone (sym (sections-length ws) ∙ e)) few.0 (λ e. apart (em ∙ e)))

    -- the five answers
    module _ (x : Exact) {one : Bool} (eo : one ≡ takes m 0 (section_in ws 0) x) where
      pub found_first : one ≡ true → Some 0 ≡ found_of (choose (decode ws) x)
      found_first a = sym (choice-told x ∙ rw (← eo, a))

      pub found-none-of-one : one ≡ false → m ≡ 1 → None ≡ found_of (choose (decode ws) x)
      found-none-of-one a e = sym (choice-told x ∙ rw (← eo, a, eq-eqb m 1 e))

      module _ (a : one ≡ false) (apart : m ≡ 1 → ⊥) {two : Bool} (et : two ≡ takes m 1 (section_in ws 1) x) where
        pub found-second : two ≡ true → Some 1 ≡ found_of (choose (decode ws) x)
        found-second b = sym (choice-told x ∙ rw (← eo, a, ne_eqb m 1 apart, ← et, b))

        pub found-none-of-two : two ≡ false → m ≡ 2 → None ≡ found_of (choose (decode ws) x)
        found-none-of-two b e = sym (choice-told x ∙ rw (← eo, a, ne_eqb m 1 apart, ← et, b, eq-eqb m 2 e))

        pub found-third : two ≡ false → (m ≡ 2 → ⊥) → Some 2 ≡ found_of (choose (decode ws) x)
        found-third b e = sym (choice-told x ∙ rw (← eo, a, ne_eqb m 1 apart, ← et, b, ne_eqb m 2 e))
