-- What a section's tokens and items say of it is what its draft tells.
-- Assumes nothing.
use Prim.Native.Nat.{ℕ, suc, ◌+◌, ◌-◌, ◌*◌, ◌/◌, ◌%◌, ◌≤◌}
use native.Mathlib.Omega.{arith}
use mathlib.Core.Path.{◌≡◌, refl, sym, ◌∙◌, ap}
use mathlib.Core.Bool.{Bool, true, false, ◌&&◌, ◌||◌, and_assoc, true≢false}
use mathlib.Core.List.{List, [], ◌++◌}
use mathlib.Core.Option.{none, some}
use lib.ListN.{length, take, drop, length-drop}
use lib.Seq.{take_all}
use lib.Dec.{T, leb→le, ltb, eqb}
use Rattle.lists.specs.Lists.{every, any}
use Rattle.lists.proofs.Bools.{and_left, and_right, and_parts, T_true, true-T, cond_both, by_cases, or-false}
use Rattle.formats.specs.Tokens.{Token, Written}
use Rattle.formats.specs.Items.{same_kind, fraction_kind, is_solidus, integer_places, fraction_fits, items_fit}
use Rattle.formats.specs.Kinds.{is_comma, no_bracket, Parts, parts_of, condition_of, section_of, fits, commas_fit, body_kind, body_items}
use Rattle.formats.proofs.Cutting.{whole-none, main-all}
use Rattle.formats.specs.Limits.{written_within, section_within, within_limits}
use Rattle.tables.specs.Words.{entries_in}
use Rattle.tables.specs.Encode.{operator_word, negative_word, whole_part, millionths_part, bit, low_word, high_word, entries_of, shift_word}
use Rattle.tables.specs.Decode.{items_at}
use Rattle.tables.specs.Standing.{shift_of}
use Rattle.tables.proofs.Words.{length-entries, entries-in-words}
use Rattle.tables.proofs.Standing.{section_kind, shift_word_lem}
use Rattle.tables.proofs.MadeItems.{made-length}
use Rattle.std.proofs.Common.{Option, Some, None, unwrap_or}
use Rattle.std.specs.Option.{is_some as is_there}
use Rattle.std.proofs.lemmas.Option.{same_Some}
use Rattle.marks.specs.declared.Mark.{Mark}
use Rattle.marks.specs.Marks.{marked, tokens_in}
use Rattle.writing.specs.Put.{Put}
use Rattle.bodies.specs.declared.conditions.Amount.{Amount}
use Rattle.bodies.specs.declared.conditions.Compared.{Compared}
use Rattle.bodies.specs.declared.facts.Facts.{Facts}
use Rattle.bodies.specs.declared.commas.Commas.{Commas}
use Rattle.bodies.specs.declared.sections.Heading.{Heading}
use Rattle.bodies.specs.Conditions.{written_inside, ComparedBy}
use Rattle.bodies.specs.Bodies.{facts_of}
use Rattle.bodies.specs.Uses.{commas_of}
use Rattle.bodies.specs.Fraction.{has_units}
use Rattle.bodies.specs.Sections.{condition_marked, heading_parts, HeadingOf}
use Rattle.bodies.proofs.Inside.{condition-at}
use Rattle.marks.proofs.Buffer.{tokens-drop}
use Rattle.numbering.specs.declared.Numbered.{Numbered}
use Rattle.tallies.specs.declared.Tally.{Tally}
use Rattle.tallies.specs.Tally.{tally_of, has_exponent, has_solidus, Uncut, Cut, kind_told, items_fit_told, within_told, fraction_told}
use Rattle.tallies.proofs.Told.{percents-are, half-told, uncut-told, within-told, fraction-within-told, decimals-told, section-kind-told}
use Rattle.drafting.specs.declared.Body.{Body}
use Rattle.drafting.specs.declared.drafts.Read.{Read}
use Rattle.drafting.specs.declared.Draft.{Draft}
use Rattle.drafting.specs.Draft.{body_words, settled_words, AmountAs, ConditionAs, thousands_by, commas_fit_by, body_by, bare_body, kept_by, Parted, BodyRead, BodyOf, Drafts, DraftOf, shift_told}
use Rattle.drafting.proofs.Settled.{body-size, words-bare, put-read, put-over}
use Rattle.drafting.proofs.Solidus.{items, entries, entries-back, solidus-none, solidus-some, bare-fits, cut_fits}
use borrow.Author.Tests.{ltb-false}

-- ---- the condition
conditioned : (w : Written) (r : Compared) → ComparedBy w r → ConditionAs (some w) r
unfolding condition_of operator_word negative_word whole_part millionths_part
conditioned w r h = record {
  operator = h.operator;
  within = h.amount.within;
  amount = λ a e. let m = h.amount.measures a e in record {
    negative = ap bit m.negative;
    whole = rw m.number (omega (arith, m.millionths));
    millionths = rw m.number (omega (arith, m.millionths));
  };
}

abbrev nothing : Amount
nothing = record { negative = false; whole = 0; millionths = 0 }

module _ (code : List ℕ) where
  pub condition-none : ConditionAs (condition_marked code None) (record { operator = 0; amount = Some nothing })
  unfolding condition_marked condition_of operator_word negative_word whole_part millionths_part bit written_within
  condition-none = record {
    operator = refl;
    within = refl;
    amount = λ a e. rw (← (same_Some _ a e)) (record { negative = refl; whole = refl; millionths = refl });
  }

  pub condition-some : (m : Mark) → m.form ≡ 24 → (r : Compared) → ComparedBy (written_inside (take m.argument (drop (suc m.start) code))) r → ConditionAs (condition_marked code (Some m)) r
  unfolding condition_marked marked
  condition-some m e r b = rw (e, condition-at code m.argument m.start) (conditioned _ r b)

pub body-length : (ts : List Token) → length (body_words ts) ≡ 2 * length (items ts)
body-length ts = omega (arith, length-entries (entries_of (items ts)) [], made-length (items ts))

-- ---- the body
pub within-bounds : (t : Tally) (thousands : ℕ) → within_told t thousands ≡ true → (t.percents ≤ 5) × (thousands ≤ 5)
within-bounds t thousands e =
    let w : T (within_told t thousands) = true-T e in
    (search (and_left, and_right, leb→le), search (and_left, and_right, leb→le))

-- a section with an E or a solidus is no number section, and is not shifted
pub no_shift : (t : Tally) (within : Bool) (thousands : ℕ) → Cut t → shift_told t within thousands ≡ 0
unfolding shift_of
no_shift t within thousands h =
    let Other : ℕ → Type 0 = λ (k : ℕ). eqb k 2 ≡ false in
    let none : eqb (kind_told t) 2 ≡ false =
    cond_both Other t.texts refl (cond_both Other (ltb 0 t.generals) refl (cond_both Other t.dating refl
    (by_cases (has_exponent t) (λ e. rw e) (λ e. rw (e, T_true (has_solidus t) (rw e at h)))))) in
    cond_both (λ (n : ℕ). n ≡ 0) within (rw none) refl

module _ (p : Parts) where
  section-items : (section_of p).items ≡ items_at (entries p.body)
  unfolding section_of
  section-items = sym (entries-back p.body)

  thousands-same : thousands_by (facts_of p.body) (commas_of p.body) ≡ (section_of p).thousands
  unfolding section_of facts_of commas_of
  thousands-same = refl

  fits-same : (fit : Bool) → fit ≡ (fraction_fits (body_items p.body) && items_fit (items p.body))
      → ((facts_of p.body).plain && commas_fit_by (facts_of p.body) (commas_of p.body) && fit) ≡ fits p
  unfolding fits commas_fit facts_of commas_of section_of
  fits-same fit e = rw e (sym (and_assoc (every no_bracket p.body && commas_fit p.body) (fraction_fits (body_items p.body)) (items_fit (items p.body))))

  kind-same : kind_told (tally_of (entries p.body)) ≡ section_kind (section_of p)
  kind-same = section-kind-told (entries p.body) (section_of p) section-items

  shift_same : shift_of (kind_told (tally_of (entries p.body))) (tally_of (entries p.body)).percents (section_of p).thousands ≡ shift_word (section_of p)
  shift_same = rw (kind-same, percents-are (entries p.body), ← section-items) (sym (shift_word_lem (section_of p)))

  body-drafted : (fit within : Bool) → fit ≡ (fraction_fits (body_items p.body) && items_fit (items p.body)) → within ≡ section_within (section_of p)
      → BodyOf p (body_by (facts_of p.body) (commas_of p.body) (tally_of (entries p.body)) fit within (length (items p.body)))
  body-drafted fit within e w = record {
    fits = fits-same fit e;
    within = w;
    kind = kind-same;
    shift = λ t. rw t (rw thousands-same shift_same);
    grouped = unfold section_of facts_of commas_of in refl;
    twelve = half-told (entries p.body) ∙ rw (← section-items);
    decimals = decimals-told (entries p.body) (section_of p) section-items;
    items = unfold section_of in refl;
  }

-- ---- the parts of its places
module _ (ts : List Token) {t : Tally} (e : t ≡ tally_of (entries ts)) where
  pub bare-parted : t.solidi ≤ 0 → Parted ts (record { wholes = 0; numerators = t.integers }) (settled_words ts)
  unfolding tally_of integer_places
  bare-parted h =
      let none = solidus-none ts (rw e at h) in
      record { wholes = rw (whole-none (items ts) none); numerators = rw (e, main-all (items ts) none, entries-back ts); words = words-bare ts none }

  pub solidus-there : (t.solidi ≡ 0 → ⊥) → any is_solidus (items ts) ≡ true
  solidus-there h = solidus-some ts (rw e at h)

-- ---- the body by what the passes over it gave
module _ (ts : List Token) {r : Read} (read : BodyRead ts r) where
  pub uncut-read : (has_exponent r.tally || has_solidus r.tally) ≡ false → Uncut r.tally
  uncut-read h =
      let none = or-false (has_exponent r.tally) (has_solidus r.tally) h in
      rw read.tally (uncut-told (entries ts) (rw read.tally at (ltb-false 0 r.tally.exponents none.0)) (rw read.tally at (ltb-false 0 r.tally.solidi none.1)))

  -- with an E or a solidus, and with neither
  pub cut-drafted : (b : Body) (kept : Bool) {n : Numbered} {out : List ℕ} → Parted ts n out → kept ≡ kept_by ts r.facts r.tally
      → b ≡ body_by r.facts r.commas r.tally (kept && items_fit_told r.tally) (fraction_told r.tally (thousands_by r.facts r.commas) n.wholes n.numerators) r.items → Drafts ts b
  cut-drafted b kept parted k e p q =
      rw (e, k, read.facts, read.commas, read.tally, read.items, parted.wholes, parted.numerators, ← q)
      (body-drafted p _ _ (unfold facts_of in cut_fits p.body)
      (rw (thousands-same p) (rw (entries-back p.body) at (fraction-within-told (entries p.body) (section_of p) (section-items p)))))

  pub bare-drafted : r.tally.solidi ≤ 0 → (b : Body) → b ≡ bare_body r.facts r.commas r.tally r.items → Drafts ts b
  bare-drafted h b e p q =
      rw (e, read.facts, read.commas, read.tally, read.items, ← q)
      (body-drafted p _ _ (bare-fits p.body (rw (read.tally, ← q) at h))
      (rw (thousands-same p) (within-told (entries p.body) (section_of p) (section-items p) (rw (entries-back p.body, q) (solidus-none ts (rw read.tally at h))))))

-- ---- what the passes over a body gave
pub facts-fraction : (f : Facts) (ts : List Token) → f ≡ facts_of ts → f.fraction ≡ same_kind (body_kind ts) fraction_kind
unfolding facts_of
facts-fraction f ts e = ap (λ (g : Facts). g.fraction) e

pub facts-commas : (f : Facts) (ts : List Token) → f ≡ facts_of ts → f.commas ≡ any is_comma ts
unfolding facts_of
facts-commas f ts e = ap (λ (g : Facts). g.commas) e

-- ---- the words that were put
module _ (ts : List Token) {old out : List ℕ} {at end : ℕ} (put : Put old at (settled_words ts) end out) (room : at + length (settled_words ts) ≤ length old) where
  pub body-read : {f : Facts} {c : Commas} {t : Tally} → T (every has_units ts) → f ≡ facts_of ts → c ≡ commas_of ts
      → t ≡ tally_of (entries_in (take (end - at) (drop at out))) → BodyRead ts (record { facts = f; commas = c; tally = t; items = (end - at) / 2 })
  body-read u f c t = record {
    units = u;
    facts = f;
    commas = c;
    tally = t ∙ rw (put-read put room, entries-in-words (entries ts));
    items = omega (arith, put.next, body-length ts, body-size ts);
  }

  body_end : {b : Body} → Drafts ts b → at + 2 * b.items ≡ end
  unfolding section_of
  body_end d = omega (arith, (d (record { colour = 0; condition = none; body = ts }) refl).items, put.next, body-length ts, body-size ts)

  pub cut-put : (ws : List ℕ) (b : Body) → Drafts ts b × (ws ≡ body_words ts)
      → Drafts ts b × Put old at (body_words ts) (at + 2 * b.items) (take at out ++ (ws ++ drop (end - at) (drop at out)))
  cut-put ws b (d, e) = (d, rw (body_end d, e) (put-over put (body-size ts) room))

  pub bare-put : (b : Body) → Drafts ts b × (settled_words ts ≡ body_words ts) → Drafts ts b × Put old at (body_words ts) (at + 2 * b.items) out
  bare-put b (d, e) = (d, rw (body_end d, ← e) put)

-- ---- the section
abbrev pub draft_by : ℕ → Compared → Amount → Body → Draft
draft_by colour w a b =
    record {
      colour = colour;
      operator = w.operator;
      negative = a.negative;
      whole_low = a.whole % 65536;
      whole_high = a.whole / 65536;
      millionths_low = a.millionths % 65536;
      millionths_high = a.millionths / 65536;
      within = is_there w.amount && b.within;
      body = b;
    }

amount-there : (o : Option Amount) (d a : Amount) → a ≡ unwrap_or o d → is_there o ≡ true → o ≡ Some a
amount-there None d a e t = absurd (true≢false (sym t))
amount-there (Some x) d a e t = ap (λ (y : Amount). Some y) (sym e)

module _ (code : List ℕ) (ms : List Mark) (h : Heading) (head : HeadingOf ms h) where
  abbrev tokens : List Token
  tokens = tokens_in code ms

  pub heading-body : tokens_in code (take (length ms - h.tokens) (drop h.tokens ms)) ≡ (parts_of tokens).body
  unfolding heading_parts
  heading-body =
      rw (take_all (length ms - h.tokens) (drop h.tokens ms) (rw (length-drop h.tokens ms) (omega arith)), tokens-drop code ms h.tokens, head.same code)

  -- the draft of a section by its heading, its condition and its body
  pub section-drafted : (w : Compared) (d a : Amount) (b : Body) → ConditionAs (condition_marked code h.condition) w → a ≡ unwrap_or w.amount d → BodyOf (parts_of tokens) b
      → DraftOf (parts_of tokens) (draft_by h.colour w a b)
  unfolding heading_parts within_limits low_word high_word
  section-drafted w d a b cw e bw =
      let same = head.same code in
      let x : ConditionAs (parts_of tokens).condition w = rw same cw in
      let told : (is_there w.amount && b.within) ≡ true → AmountAs (parts_of tokens).condition a
      = λ t. x.amount a (amount-there w.amount d a e (and_parts (is_there w.amount) b.within t).0) in
      record {
        colour = rw same;
        operator = x.operator;
        within = rw (x.within, bw.within);
        negative = λ t. (told t).negative;
        whole_low = λ t. ap low_word (told t).whole;
        whole_high = λ t. ap high_word (told t).whole;
        millionths_low = λ t. ap low_word (told t).millionths;
        millionths_high = λ t. ap high_word (told t).millionths;
        body = bw;
      }
