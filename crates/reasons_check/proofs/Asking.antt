-- What a code, a request and a fourth line are answered.
-- Assumes nothing.
use Prim.Native.Nat.{ℕ}
use mathlib.Core.Path.{◌≡◌, sym, ap, ◌∙◌}
use mathlib.Core.Bool.{Bool, true, false}
use mathlib.Core.List.{List}
use lib.ListN.{length, take}
use lib.Dec.{T}
use Rattle.std.proofs.Common.{Result, Ok, Err}
use Rattle.answers.specs.declared.Refusal.{Refusal}
use Rattle.answers.specs.declared.Refusal.TheVariants as answer
use Rattle.answers.specs.declared.Refused.{Refused}
use Rattle.values.specs.declared.Ask.{Ask}
use Rattle.lists.specs.Lists.{every}
use Rattle.formats.specs.Items.{is_unit}
use Rattle.tables.specs.Calls.{prepared, table_after}
use Rattle.grounds.specs.declared.Grounds.{Grounds}
use Rattle.grounds.specs.Why.{why_accepted, code_why}
use Rattle.reasons.specs.Table.{table_why}
use Rattle.reasons.proofs.Holding.{table-code-why}
use Rattle.preview.proofs.Previewing.{refused-code, made, table_taken}
use Rattle.requests.specs.declared.Request.{Request as Parts}
use Rattle.requests.specs.declared.Malformed.{Malformed}
use Rattle.requests.specs.Written.{is_digits, numeral_up_to}
use Rattle.requests.specs.Request.{Request, request_of}
use Rattle.requests.specs.Reads.{part_of, Reads}
use Rattle.reasons_check.specs.Asked.{request_why, room_why}

-- ---- a code, prepared in a table room of 557 words
module _ (code : List ℕ) (u : T (every is_unit code)) {size : ℕ} (room : 557 ≡ size) (ask : Ask) (text : List ℕ) (k : ℕ) where
  pub code-refused : (r : Refused) → Err r ≡ prepared code size → Err r.refusal ≡ code_why code ask text k
  unfolding code_why why_accepted
  code-refused r e = rw (refused-code code u room r e)

  -- the words in front of the room give the code's reason
  pub code-because : (words : ℕ) → Ok words ≡ prepared code size → (before : List ℕ) {after : List ℕ} {w : Result Grounds Refusal} → size ≡ length before
      → after ≡ table_after code before → w ≡ table_why (take words after) ask text k → w ≡ code_why code ask text k
  code-because words e before t f h =
      let d = made code u room words e in
      h ∙ ap (λ ws. table_why ws ask text k) (table_taken code u room d before t f) ∙ table-code-why code d.accepted ask text k u d.is

-- ---- a request as it is read
module _ (lines : List ℕ) {r : Result Parts Malformed} (x : Reads lines (request_of lines) r) (size : ℕ) where
  pub request-asked : {w : Result Grounds Refusal} (p : Parts) → r ≡ Ok p → w ≡ code_why (part_of lines p.code) p.ask (part_of lines p.text) size
      → w ≡ request_why (request_of lines) size
  unfolding request_why
  request-asked p e h = h ∙ ap (λ (q : Request). request_why q size) (rw e at x).same

  pub request-malformed : (m : Malformed) → r ≡ Err m → Err answer.Line ≡ request_why (request_of lines) size
  unfolding request_why
  request-malformed m e = ap (λ (q : Request). request_why q size) (rw e at x).same

-- ---- the room's length
module _ (lines digits : List ℕ) {b : Bool} (e : b ≡ is_digits digits) where
  pub room-asked : {w : Result Grounds Refusal} {n : ℕ} → b ≡ true → n ≡ numeral_up_to 1000000 digits → w ≡ request_why (request_of lines) n → w ≡ room_why lines digits
  unfolding room_why
  room-asked t h k = rw (sym e ∙ t) (rw h at k)

  pub room-malformed : b ≡ false → Err answer.Line ≡ room_why lines digits
  unfolding room_why
  room-malformed t = rw (sym e ∙ t)
