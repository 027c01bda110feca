-- A text is shown where the room holds it, and refused where it does not.
-- Assumes nothing.
use Prim.Native.Nat.{ℕ, ◌+◌, ◌*◌, ◌≤◌, ◌<◌}
use native.Mathlib.Omega.{arith}
use mathlib.Core.Path.{◌≡◌, refl}
use mathlib.Core.Bool.{Bool, true, false, not, ◌&&◌}
use mathlib.Core.List.{List, [], ◌∷◌, ◌++◌}
use lib.ListN.{length}
use lib.Dec.{leb, leb→le}
use borrow.Author.Tests.{le-leb, lt-leb}
use Rattle.std.specs.Prelude.{Result, Ok, Err}
use Rattle.answers.specs.declared.Refusal.{Refusal}
use Rattle.answers.specs.declared.Refusal.TheVariants as answer
use Rattle.answers.specs.declared.Shown.{Shown}
use Rattle.lists.proofs.Bools.{no, true-T}
use Rattle.formats.specs.Reading.{Look, refused, shown, look_of, within}
use Rattle.tables.specs.Calls.{shown_as, text_as}
use Rattle.writing.specs.Put.{Put}
use Rattle.writing.proofs.Laws.{put-none}
use Rattle.section_text.specs.Show.{sign_text, Shows}

pub sign-put : {old out : List ℕ} {r : ℕ} (minus : Bool) → minus ≡ true → Put old 0 (45 ∷ []) r out
    → (r ≤ 1) × Put old 0 (sign_text minus) r out
unfolding sign_text
sign-put minus e p = (omega (arith, p.next), rw e p)

pub sign-none : (old : List ℕ) (minus : Bool) → minus ≡ false → (0 ≤ 1) × Put old 0 (sign_text minus) 0 old
unfolding sign_text
sign-none old minus e = (omega arith, rw e (put-none old 0))

pub sign-short : (minus : Bool) (us : List ℕ) (size : ℕ) → length us + 1 ≤ size → length (sign_text minus ++ us) ≤ size
unfolding sign_text
sign-short true us size h = omega arith
sign-short false us size h = omega arith

-- a room that surely takes a text: no text is lent, and it has 82 units for each two words and one for a minus
pub sure : (lent : Bool) (words size : ℕ) → (not lent && leb (41 * words + 1) size) ≡ true → (lent ≡ false) × (41 * words + 1 ≤ size)
sure true words size e = no e
sure false words size e = (refl, leb→le (41 * words + 1) size (true-T e))

-- the place behind a text is its length
pub measured : {old out text : List ℕ} {n : ℕ} → Put old 0 text n out → n ≡ length text
measured p = omega (arith, p.next)

-- a text that is put is shown
pub shows-put : {old out text : List ℕ} {colour i : ℕ} {exact : Bool} {s : Shown} → Put old 0 text s.length out
    → s.colour ≡ colour → s.section ≡ i → s.exact ≡ exact → Shows (shown (look_of text colour i exact)) old (Ok s) out
unfolding shown_as text_as
shows-put p c i e = record { result = rw (c, i, e, measured p); room = p.room }

-- what is told of a look
pub told-length : {old out : List ℕ} {s : Shown} {look : Look} → Shows (shown look) old (Ok s) out → s.length ≡ length look.text
unfolding shown_as
told-length x = cc (x.result)

-- a refusal leaves the room alone
pub shows-refused : (old : List ℕ) (a : Refusal) → Shows (refused a) old (Err a) old
unfolding shown_as text_as
shows-refused old a = record { result = refl; room = refl }

-- a room of so many units refuses a text that it does not take, and shows one that it takes
module _ (size : ℕ) (look : Look) where
  pub shows-none : (old : List ℕ) → size < length look.text → Shows (within size look) old (Err answer.TextRoom) old
  unfolding within
  shows-none old h = rw (lt-leb (length look.text) size h) (shows-refused old answer.TextRoom)

  pub shows-within : {old out : List ℕ} {r : Result Shown Refusal} → length look.text ≤ size → Shows (shown look) old r out → Shows (within size look) old r out
  unfolding within
  shows-within h x = rw (le-leb (length look.text) size h) x

-- a text that a room takes is shown by being put
pub shows-all : {old out : List ℕ} {n : ℕ} (size : ℕ) (text : List ℕ) (colour i : ℕ) (exact : Bool) → length text ≤ size → Put old 0 text n out
    → Shows (within size (look_of text colour i exact)) old (Ok (record { length = n; colour = colour; section = i; exact = exact })) out
shows-all size text colour i exact h p = shows-within size (look_of text colour i exact) h (shows-put p refl refl refl)

-- no minus is no text
pub unsigned : {old out : List ℕ} {r : Result Shown Refusal} (size : ℕ) (text : List ℕ) (colour i : ℕ) (exact : Bool)
    → Shows (within size (look_of text colour i exact)) old r out
    → Shows (within size (look_of (sign_text false ++ text) colour i exact)) old r out
unfolding sign_text
unsigned size text colour i exact x = x
