-- What a request is answered, and how much of the rooms that takes.
-- Assumes nothing.
use Prim.Native.Nat.{ℕ, ◌+◌, ◌≤◌, ◌<◌, min}
use native.Mathlib.Omega.{arith}
use native.Mathlib.Decide.{dec_le}
use native.Mathlib.Nat.{min-eq_left}
use mathlib.Core.Path.{◌≡◌, refl, sym, ap, ap₂, subst, ◌∙◌}
use mathlib.Core.Bool.{true}
use mathlib.Core.List.{List, [], map}
use lib.ListN.{length, take, drop, length-append}
use lib.Seq.{take_all, take_at, take-append_seam, length-take-le}
use lib.Dec.{leb}
use borrow.Author.Tests.{leb-true, le-leb, lt-leb}
use Rattle.std.proofs.Common.{Result, Ok, Err}
use Rattle.answers.specs.declared.Refusal.{Refusal}
use Rattle.answers.specs.declared.Refusal.TheVariants as answer
use Rattle.answers.specs.declared.Refused.{Refused}
use Rattle.answers.specs.declared.Shown.{Shown}
use Rattle.values.specs.declared.Ask.{Ask}
use Rattle.lists.specs.Lists.{overlay}
use Rattle.lists.proofs.Bools.{cond-case}
use Rattle.formats.specs.Reading.{Reading, refused, shown, code_reading}
use Rattle.tables.specs.Calls.{written, shown_as, text_as}
use Rattle.writing.specs.Put.{Put}
use Rattle.writing.proofs.Laws.{sets-overlay}
use Rattle.formats.specs.Accept.{accept}
use Rattle.preview.specs.Preview.{place_of, refused_at, previewed, preview_text}
use Rattle.requests.specs.declared.Request.{Request as Parts}
use Rattle.requests.specs.declared.Malformed.{Malformed}
use Rattle.requests.specs.Bytes.{low_byte}
use Rattle.requests.specs.Request.{Request, refused as unasked, request, request_of}
use Rattle.requests.specs.Reads.{part_of, Reads}
use Rattle.requests.proofs.Prefixes.{request-prefix}
use Rattle.responding.specs.declared.Responded.{Responded}
use Rattle.responding.specs.Respond.{numbers_of, five_lines, lines_of, section_of, response_of, responded}
use Rattle.responding.specs.Answers.{Answers}
use Rattle.responding.proofs.Ascii.{response-bytes}

-- ---- how much of the room a preview shows
as-length : (d : Reading) (k : ℕ) (s : Shown) → Ok s ≡ refused_at k (shown_as d) → s.length ≡ length (text_as d)
unfolding shown_as text_as
as-length (refused a) k s e = absurd (cc)
as-length (shown look) k s e = cc

as-none : (d : Reading) (k : ℕ) (r : Refused) → Err r ≡ refused_at k (shown_as d) → text_as d ≡ []
unfolding shown_as text_as
as-none (refused a) k r e = refl
as-none (shown look) k r e = absurd (cc)

-- a request with other lines and sections that are the same
answered-as : {q p : Request} {old out : List ℕ} {t : Responded} → lines_of q ≡ lines_of p → section_of q ≡ section_of p → Answers q old t out → Answers p old t out
answered-as e f a = record { short = a.short; shown = a.shown ∙ f; put = rw e at a.put }

module _ (code : List ℕ) (ask : Ask) (text old : List ℕ) {room : List ℕ} {n : ℕ} (h : room ≡ overlay (preview_text code ask text n) old) (e : length room ≡ n) where
  -- a refusal shows nothing
  pub preview-refused : {before out : List ℕ} {t : Responded} (r : Refused) → n ≡ 4096 → Err r ≡ previewed code ask text n
      → Answers (unasked r.refusal r.place) before t out → Answers (request code ask text) before t out
  unfolding lines_of section_of previewed preview_text
  preview-refused r m g a =
      let none : preview_text code ask text n ≡ [] = as-none (code_reading code ask text n) (place_of (accept code)) r g in
      answered-as (rw (← m, ← g, none)) (rw (← m, ← g)) a

  module _ (s : Shown) (g : Ok s ≡ previewed code ask text n) where
    text-length : s.length ≡ length (preview_text code ask text n)
    unfolding previewed preview_text
    text-length = as-length (code_reading code ask text n) (place_of (accept code)) s g

    -- what previewing shows lies in the room
    pub shown-within : s.length ≤ n
    unfolding overlay
    shown-within =
        let l = ap length h ∙ length-append (preview_text code ask text n) (drop (length (preview_text code ask text n)) old) in
        omega (arith, l, e, text-length)

    -- and is the text
    pub shown-text : take s.length room ≡ preview_text code ask text n
    unfolding overlay
    shown-text = rw (h, text-length) (take-append_seam (preview_text code ask text n) _)

    -- and its lines are those of the request
    pub preview-answered : {out before : List ℕ} {k : ℕ} → n ≡ 4096 → k ≤ 4236 → Put before 0 (five_lines (numbers_of (Ok s)) (take s.length room)) k out
        → Answers (request code ask text) before (record { length = k; section = s.section }) out
    unfolding lines_of section_of
    preview-answered m l p = record { short = l; shown = rw (← m, ← g); put = rw (← m, ← g) (rw shown-text at p) }

-- ---- a request as it is read
module _ (input : List ℕ) {r : Result Parts Malformed} (x : Reads input (request_of input) r) {old out : List ℕ} {t : Responded} where
  pub request-answered : (p : Parts) → r ≡ Ok p → Answers (request (part_of input p.code) p.ask (part_of input p.text)) old t out → Answers (request_of input) old t out
  request-answered p e a = subst (λ (q : Request). Answers q old t out) (rw e at x).same a

  pub malformed-answered : (m : Malformed) → r ≡ Err m → Answers (unasked answer.Line m.0) old t out → Answers (request_of input) old t out
  malformed-answered m e a = subst (λ (q : Request). Answers q old t out) (rw e at x).same a

-- ---- bytes: the first of them in a room of 6,148 units, and their answer in a room of 4,236
module _ (bytes wide old : List ℕ) {units room : List ℕ} {n r : ℕ} (t : Responded) (e : length wide ≡ 6148) (g : n ≡ min (length bytes) 6148)
    (p : Put wide 0 (take n bytes) r units) (size : length old ≡ 4236) (a : Answers (request_of (take n units)) old t room) where
  front : take n units ≡ take n bytes
  unfolding overlay
  front =
      let l : length (take n bytes) ≡ n = length-take-le n bytes (omega arith) in
      rw (p.room ∙ sets-overlay wide (take n bytes) (omega arith)) (take_at (take n bytes) _ n l)

  same-request : request_of (take n units) ≡ request_of bytes
  same-request =
      ap request_of front
      ∙ elim (dec_le (length bytes) n) [
        | yes l ↦ ap request_of (take_all n bytes l)
        | no l ↦ request-prefix bytes n (omega arith)
      ]

  answered : Answers (request_of bytes) old t room
  answered = rw same-request at a

  pub response-length : t.length ≡ length (response_of bytes)
  unfolding response_of
  response-length = let h : t.length ≡ 0 + length (response_of bytes) = answered.put.next in omega (arith, h)

  pub response-short : length (response_of bytes) ≤ 4236
  response-short = omega (arith, response-length, answered.short)

  pub response-taken : take t.length room ≡ response_of bytes
  unfolding response_of overlay
  response-taken =
      let l : length (response_of bytes) ≤ length old = omega (arith, response-short) in
      ap₂ (λ (k : ℕ) (us : List ℕ). take k us) response-length (answered.put.room ∙ sets-overlay old (response_of bytes) l)
      ∙ take-append_seam (response_of bytes) _

  -- all of it is written, or nothing
  pub left_out : (out : List ℕ) → length out < t.length
      → (Err answer.TextRoom ≡ responded bytes (length out))
      × ((out ≡ written (response_of bytes) out) × (length (response_of bytes) ≤ 4236))
  unfolding responded written
  left_out out h =
      let b = lt-leb (length (response_of bytes)) (length out) (omega (arith, response-length)) in
      (rw b, (rw b, response-short))

  pub put_whole : (out : List ℕ) {k : ℕ} {new : List ℕ} → t.length ≤ length out → Put out 0 (map low_byte (take t.length room)) k new
      → (Ok t ≡ responded bytes (length out))
      × ((new ≡ written (response_of bytes) out) × (length (response_of bytes) ≤ 4236))
  unfolding responded written
  put_whole out h q =
      let l : length (response_of bytes) ≤ length out = omega (arith, response-length) in
      let b = le-leb (length (response_of bytes)) (length out) l in
      let whole : t ≡ record { length = length (response_of bytes); section = section_of (request_of bytes) }
      = λ j. record { length = response-length j; section = answered.shown j } in (
        rw b (ap Ok whole),
        (rw b ((rw (response-taken, response-bytes bytes) at q.room) ∙ sets-overlay out (response_of bytes) l), response-short),
      )

-- the first `got` bytes of an input, in a room that takes every answer
module _ (input out : List ℕ) (got : ℕ) {n : ℕ} {new : List ℕ} (e : n ≡ min got (length input)) (size : 4236 ≤ length out)
    (b : new ≡ written (response_of (take n input)) out) (c : length (response_of (take n input)) ≤ 4236) where
  same-front : take n input ≡ take got input
  same-front =
      elim (dec_le got (length input)) [
        | yes l ↦ rw (e ∙ min-eq_left l)
        | no l ↦ take_all n input (omega arith) ∙ sym (take_all got input (omega arith))
      ]

  fits : leb (length (response_of (take n input))) (length out) ≡ true
  fits = le-leb (length (response_of (take n input))) (length out) (omega arith)

  pub front-answered : (r : Responded) → Ok r ≡ responded (take n input) (length out)
      → (r.length ≡ length (response_of (take got input))) × (new ≡ overlay (response_of (take got input)) out)
  unfolding responded written
  front-answered r a = let f = rw fits at a in (rw (← same-front) (cc), rw same-front at (rw fits at b))

-- ---- what is answered lies in the room
pub responded-within : (input : List ℕ) (size : ℕ) {r : Responded} → Ok r ≡ responded input size → r.length ≤ size
unfolding responded
responded-within input size {r} =
    cond-case (λ (q : Result Responded Refusal). Ok r ≡ q → r.length ≤ size) (leb (length (response_of input)) size)
    (λ h e. let l : r.length ≡ length (response_of input) = cc in omega (arith, leb-true (length (response_of input)) size h)) (λ h e. absurd (cc))

-- a room of the longest answer's length takes every one
pub response-taken-whole : (input : List ℕ) (size : ℕ) → length (response_of input) ≤ 4236 → 4236 ≤ size → (a : Refusal) → Err a ≡ responded input size → ⊥
unfolding responded
response-taken-whole input size h l a e = let f = rw (le-leb (length (response_of input)) size (omega arith)) at e in cc

pub front-within : (new old : List ℕ) {out : List ℕ} {n : ℕ} → n ≡ length new → out ≡ overlay new old → n ≤ length out
unfolding overlay
front-within new old e f = omega (arith, e, ap length f ∙ length-append new (drop (length new) old))
