-- What is shown through the table made from a code is what is read off the code.
-- Assumes nothing.
use Prim.Native.Nat.{ℕ, suc, ◌≤◌, ◌<◌}
use native.Mathlib.Omega.{arith}
use mathlib.Core.Path.{◌≡◌, refl, ap, ◌∙◌}
use mathlib.Core.List.{List, [], ◌∷◌}
use lib.ListN.{length, get_or, take}
use lib.Seq.{take-append_seam}
use lib.Dec.{T, lt→ltb}
use borrow.Author.Tests.{le-leb}
use Rattle.std.specs.Prelude.{Result, Ok, Err}
use Rattle.answers.specs.declared.Refusal.{Refusal}
use Rattle.answers.specs.declared.Refused.{Refused}
use Rattle.answers.specs.declared.Shown.{Shown}
use Rattle.values.specs.declared.Ask.{Ask}
use Rattle.lists.specs.Lists.{overlay, every}
use Rattle.lists.proofs.Bools.{every-cons}
use Rattle.formats.specs.Items.{is_unit, Section}
use Rattle.formats.specs.Accept.{Accepted, sections, refusal, accept}
use Rattle.formats.specs.Reading.{read_accepted, code_reading}
use Rattle.tables.specs.Encode.{encode}
use Rattle.tables.specs.Calls.{words_of, table_of, prepared_as, prepared, written, table_after, table_reading, shown_as, text_as, showing, room_after}
use Rattle.tables.proofs.Promise.{table-of-code}
use Rattle.preview.specs.Preview.{place_of, refused_at, previewed, preview_text}

-- the units of a lent run are units
pub units-known : (l : List ℕ) → ((i : ℕ) → get_or l i 0 < 65536) → T (every is_unit l)
unfolding every
units-known [] h = tt
units-known (u ∷ l) h = every-cons is_unit u l (lt→ltb u 65536 (h 0)) (units-known l (λ i. h (suc i)))

-- a code prepared in a table room of 557 words
module _ (code : List ℕ) (u : T (every is_unit code)) {size : ℕ} (room : 557 ≡ size) where
  -- its table fits
  fits : (ss : List Section) → accept code ≡ sections ss → length (encode ss) ≤ size
  unfolding table_of words_of
  fits ss a = omega (arith, room, rw a at (table-of-code code ss u a).most_words)

  -- ---- preparing refused
  refused-by : (x : Accepted) → accept code ≡ x → (r : Refused) → Err r ≡ prepared_as x size → x ≡ refusal r.refusal r.place
  unfolding prepared_as
  refused-by (refusal a k) c r e = cc
  refused-by (sections ss) c r e = let h = rw (le-leb (length (encode ss)) size (fits ss c)) at e in cc

  -- the code is, and so is what is read off it
  module _ (r : Refused) (e : Err r ≡ prepared code size) where
    pub refused-code : accept code ≡ refusal r.refusal r.place
    unfolding prepared
    refused-code = refused-by (accept code) refl r e

    pub refused-shows : (ask : Ask) (text old : List ℕ)
        → (Err r ≡ previewed code ask text (length old)) × (old ≡ overlay (preview_text code ask text (length old)) old)
    unfolding previewed preview_text code_reading read_accepted place_of shown_as text_as overlay
    refused-shows ask text old = (rw refused-code, rw refused-code)

  -- ---- preparing made a table of so many words
  pub record Made (w : ℕ) : Type 0 where
    pub accepted : List Section
    pub is : accept code ≡ sections accepted
    pub words : w ≡ length (table_of code)
    pub within : w ≤ size

  made_by_lem : (x : Accepted) → accept code ≡ x → (words : ℕ) → Ok words ≡ prepared_as x size → Made words
  unfolding prepared_as table_of words_of
  made_by_lem (refusal a k) c words e = absurd cc
  made_by_lem (sections ss) c words e =
      let f : length (encode ss) ≤ size = fits ss c in
      let h : words ≡ length (encode ss) = let g = rw (le-leb (length (encode ss)) size f) at e in cc in
      record { accepted = ss; is = c; words = rw c h; within = omega (arith, h, f) }

  pub made : (words : ℕ) → Ok words ≡ prepared code size → Made words
  unfolding prepared
  made words e = made_by_lem (accept code) refl words e

  -- the words in front of the table room are the table
  module _ {words : ℕ} (d : Made words) (before : List ℕ) {after : List ℕ} (t : size ≡ length before) (f : after ≡ table_after code before) where
    pub table_taken : take words after ≡ table_of code
    unfolding table_after written overlay
    table_taken =
        let l : length (table_of code) ≤ length before = omega (arith, d.words, d.within) in
        rw (f, le-leb (length (table_of code)) (length before) l, d.words) (take-append_seam (table_of code) _)

    -- and what is shown through them is what is read off the code
    module _ (ask : Ask) (text old : List ℕ) where
      same-reading : table_reading (take words after) ask text (length old) ≡ code_reading code ask text (length old)
      same-reading = rw table_taken ((table-of-code code d.accepted u d.is).same_reading ask text (length old))

      pub made-shows : (s : Result Shown Refusal) {out : List ℕ} → s ≡ showing (take words after) ask text (length old)
          → out ≡ room_after (take words after) ask text old
          → (refused_at 0 s ≡ previewed code ask text (length old)) × (out ≡ overlay (preview_text code ask text (length old)) old)
      unfolding showing room_after previewed place_of preview_text
      made-shows s h r = (rw (h ∙ ap shown_as same-reading, d.is), r ∙ rw same-reading)
