-- The moment of an instant is what the instant's context shows, and the texts of items that are read off a moment.
-- Assumes nothing.
use Prim.Native.Nat.{ℕ, zero, suc, ◌+◌, ◌*◌, ◌/◌, ◌%◌, ◌≤◌, ◌<◌}
use native.Mathlib.Omega.{arith}
use native.Mathlib.Nat.{sub-zero}
use mathlib.Core.Path.{◌≡◌, refl, ap, ◌∙◌}
use mathlib.Core.Bool.{Bool, true, false, cond}
use mathlib.Core.List.{List, [], ◌∷◌}
use lib.Dec.{eqb, ltb}
use lib.ListN.{length, get_or}
use borrow.Author.Tests.{eqb-true, ne_eqb, ltb-true}
use Rattle.values.specs.declared.Day.{Day}
use Rattle.values.specs.declared.Millisecond.{Millisecond}
use Rattle.lists.specs.Lists.{any}
use Rattle.lists.proofs.Bools.{and_parts, cond_both, by_cases}
use Rattle.std.specs.List.{list_any}
use Rattle.date_text.specs.declared.Moment.{Moment}
use Rattle.calendar.specs.Date.{date_of}
use Rattle.calendar.specs.Names.{month_name, weekday_name}
use Rattle.formats.specs.Items.{Section, is_half}
use Rattle.formats.specs.Text.{Context, item_units}
use Rattle.formats.specs.Reading.{instant_context}
use Rattle.tables.specs.Words.{Entry, entries_in}
use Rattle.tables.specs.Encode.{entry}
use Rattle.tables.specs.Decode.{item_at}
use Rattle.tables.proofs.Words.{entries_left, entries-front}
use Rattle.date_text.specs.Letters.{packed, letters_up_to, most_letters}
use Rattle.date_text.specs.Moment.{dated_entry, moment_of, is_named, DateIs, ClockIs}
use Rattle.date_text.proofs.Letters.{month-spelt, weekday-spelt, named-letters}

module _ (twelve dated : Bool) (s : Section) (d : Day) (m : Millisecond) (r : Moment) (e : r ≡ moment_of twelve dated d m) where
  -- whatever tells that the clock is a 12-hour one
  pub clock-instant : twelve ≡ any is_half s.items → ClockIs r (instant_context s d m)
  unfolding instant_context
  clock-instant f = rw (e, f) (record { clock = refl; elapsed = refl; twelve = refl })

  pub date-instant : dated ≡ true → DateIs r (instant_context s d m)
  unfolding instant_context date_of
  date-instant f = rw (e, f) (record { year = refl; month = refl; day_of_month = refl; weekday = refl })

-- a search for an entry that shows the date
pub dated-listed : (es : List Entry) → list_any dated_entry es ≡ any dated_entry es
unfolding any
dated-listed [] = refl
dated-listed (e ∷ es) = by_cases (dated_entry e) (λ t. rw t) (λ t. rw t (dated-listed es))

-- an entry in front that shows the date, and one that does not
pub dated-here : (e : Entry) (es : List Entry) → dated_entry e ≡ true → any dated_entry (e ∷ es) ≡ true
unfolding any
dated-here e es t = rw t

pub dated-later : (e : Entry) (es : List Entry) → dated_entry e ≡ false → any dated_entry (e ∷ es) ≡ any dated_entry es
unfolding any
dated-later e es t = rw t

dated-behind : (e : Entry) (es : List Entry) → any dated_entry es ≡ true → any dated_entry (e ∷ es) ≡ true
unfolding any
dated-behind e es t = cond_both (λ (b : Bool). b ≡ true) (dated_entry e) refl t

-- one of the entries that are left is one of all
all_left : (words : List ℕ) (n k : ℕ) → k ≤ n → any dated_entry (entries_left words n k) ≡ true → any dated_entry (entries_left words n 0) ≡ true
all_left words n zero h t = t
all_left words n (suc k) h t =
    let e : suc k ≡ k + 1 = omega arith in
    all_left words n k (omega arith) (ap (any dated_entry) (entries-front words n k h) ∙ dated-behind _ _ (rw e at t))

pub dated-at : (words : List ℕ) (n k : ℕ) → n ≡ length words / 2 → k < n
    → dated_entry (entry (get_or words (2 * k) 0) (get_or words (2 * k + 1) 0)) ≡ true → any dated_entry (entries_in words) ≡ true
unfolding entries_in
dated-at words n k e h t =
    let r = all_left words n k (omega arith) (ap (any dated_entry) (entries-front words n k h) ∙ dated-here _ _ t) in
    rw (sub-zero n, e) at r

module _ (m : Moment) (c : Context) (q tag n : ℕ) (d : dated_entry (entry tag n) ≡ true → DateIs m c) where
  -- the letters of a month's name, and of a day's
  pub month-item : (letters : ℕ) → is_named tag n ≡ true → tag ≡ 12 → letters ≡ packed (month_name m.month)
      → item_units c q (item_at (entry tag n)) ≡ letters_up_to (most_letters n) letters
  unfolding item_units item_at
  month-item letters b k f =
      rw k (named-letters n _ (month-spelt _ letters (f ∙ ap (λ (x : ℕ). packed (month_name x)) (d (rw k)).month)) (ltb-true 2 n (rw k at b)))

  pub day-item : (letters : ℕ) → is_named tag n ≡ true → ¬ (tag ≡ 12) → letters ≡ packed (weekday_name (m.day_number % 7))
      → item_units c q (item_at (entry tag n)) ≡ letters_up_to (most_letters n) letters
  unfolding item_units item_at
  day-item letters b h f =
      let p = and_parts (eqb tag 13) (ltb 2 n) (rw (ne_eqb tag 12 h) at b) in
      let k = eqb-true tag 13 p.0 in
      rw k (named-letters n _ (weekday-spelt _ letters (f ∙ ap (λ (x : ℕ). packed (weekday_name x)) (d (rw k)).weekday)) (ltb-true 2 n p.1))
