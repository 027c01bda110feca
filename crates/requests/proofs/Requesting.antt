-- Laws of requests: what each line's reading makes of what follows it.
-- Assumes nothing.
use Prim.Native.Nat.{ℕ, ◌+◌, ◌<◌}
use Rattle.std.proofs.Common.{Option, Some, None, Result, Ok, Err}
use Rattle.std.specs.Option.{ok_or}
use Rattle.std.specs.Result.{result_ok}
use mathlib.Core.Path.{◌≡◌, refl, sym, subst, ap, ◌∙◌}
use mathlib.Core.List.{List}
use native.Mathlib.Omega.{arith}
use lib.ListN.{length, drop, drop_of_length-le}
use lib.Seq.{drop-cons}
use Rattle.values.specs.Ranges.{asked}
use Rattle.values.specs.declared.Value.{Value}
use Rattle.lists.specs.Lists.{is_empty}
use Rattle.calendar.specs.Names.{units}
use Rattle.requests.specs.declared.lines.Part.{Part}
use Rattle.requests.specs.declared.written.Sort.{Sort}
use Rattle.requests.specs.declared.written.Sort.TheVariants as sort
use Rattle.requests.specs.declared.Malformed.{Malformed}
use Rattle.requests.specs.Lines.{field_of}
use Rattle.requests.specs.Written.{sort_of, value_of, text_of}
use Rattle.requests.specs.Request.{Request, malformed, from_end, from_value, from_third, from_kind, from_second, from_first, request_of}
use Rattle.requests.specs.Reads.{part_of, Within, Ended, Content, LineAt, text_part, Reads}

-- ---- a line that was read, or not
line-met : {input : List ℕ} {at : ℕ} {name : List ℕ} {o : Option Part} {p : Part} → LineAt input at name o → o ≡ Some p → Content input at name p
line-met {input} {at} {name} l e = subst (LineAt input at name) e l

-- what `ok_or` makes of it, where the `?` returns and where it goes on
pub gone : {A : Type 0} {o : Option A} {r : Result A Malformed} {n m : Malformed} → r ≡ ok_or o n → r ≡ Err m → (o ≡ None) × (m ≡ n)
gone {o = None} e f = (refl, cc)
gone {o = Some x} e f = absurd (cc)

pub kept : {A : Type 0} {o : Option A} {r : Result A Malformed} {x : A} → o ≡ result_ok r → r ≡ Ok x → o ≡ Some x
kept e f = e ∙ ap result_ok f

-- a malformed line
pub malformed-read : (input : List ℕ) (q : Request) (line : ℕ) (m : Malformed) → q ≡ malformed line → m ≡ record { 0 = line } → Reads input q (Err m)
malformed-read input q line m e f = record { same = rw f (sym e); parts = tt }

-- ---- line after line: what the request is where a line was read, and where not
module _ (input : List ℕ) {o : Option Part} where
  pub code-found : {p : Part} → LineAt input 0 (units "code=") o → o ≡ Some p → (request_of input ≡ from_second (part_of input p) (field_of (units "kind=") (drop (p.end + 1) input))) × Ended input p
  unfolding request_of from_first
  code-found l e = let c = line-met {at = 0} l e in (ap from_first c.found, c.ended)

  pub code-missing : LineAt input 0 (units "code=") o → o ≡ None → request_of input ≡ malformed 1
  unfolding request_of from_first
  code-missing l e = ap from_first (subst (LineAt input 0 (units "code=")) e l)

module _ (input : List ℕ) (at : ℕ) {o : Option Part} where
  pub kind-found : (code : List ℕ) {p : Part} → LineAt input at (units "kind=") o → o ≡ Some p
      → (from_second code (field_of (units "kind=") (drop at input)) ≡ from_kind code (sort_of (part_of input p)) (drop (p.end + 1) input)) × Ended input p
  unfolding from_second
  kind-found code l e = let c = line-met {at = at} l e in (ap (from_second code) c.found, c.ended)

  pub kind-missing : (code : List ℕ) → LineAt input at (units "kind=") o → o ≡ None → from_second code (field_of (units "kind=") (drop at input)) ≡ malformed 2
  unfolding from_second
  kind-missing code l e = ap (from_second code) (subst (LineAt input at (units "kind=")) e l)

  pub value-found : (code : List ℕ) (s : Sort) {p : Part} → LineAt input at (units "value=") o → o ≡ Some p
      → (from_third code s (field_of (units "value=") (drop at input)) ≡ from_value code (value_of s (part_of input p)) (text_of s (part_of input p)) (drop (p.end + 1) input)) × Ended input p
  unfolding from_third
  value-found code s l e = let c = line-met {at = at} l e in (ap (from_third code s) c.found, c.ended)

  pub value-missing : (code : List ℕ) (s : Sort) → LineAt input at (units "value=") o → o ≡ None → from_third code s (field_of (units "value=") (drop at input)) ≡ malformed 3
  unfolding from_third
  value-missing code s l e = ap (from_third code s) (subst (LineAt input at (units "value=")) e l)

module _ (code : List ℕ) where
  pub kind-known : (o : Option Sort) (s : Sort) (rest : List ℕ) → o ≡ Some s → from_kind code o rest ≡ from_third code s (field_of (units "value=") rest)
  unfolding from_kind
  kind-known o s rest e = rw e

  pub kind-unknown : (o : Option Sort) (rest : List ℕ) → o ≡ None → from_kind code o rest ≡ malformed 2
  unfolding from_kind
  kind-unknown o rest e = rw e

  pub value-bad : (o : Option Value) (text rest : List ℕ) → o ≡ None → from_value code o text rest ≡ malformed 3
  unfolding from_value
  value-bad o text rest e = rw e

  pub value-more : (o : Option Value) (v : Value) (text input : List ℕ) (end : ℕ) → o ≡ Some v → end < length input
      → from_value code o text (drop end input) ≡ malformed 4
  unfolding from_value from_end is_empty
  value-more o v text input end e h = rw (e, drop-cons input end 0 h)

  pub value-end : (o : Option Value) (v : Value) (text input : List ℕ) (end : ℕ) → o ≡ Some v → length input ≡ end
      → from_value code o text (drop end input) ≡ Request.request code (asked v) text
  unfolding from_value from_end is_empty
  value-end o v text input end e h = rw (e, drop_of_length-le input {i = end} (omega arith))

-- ---- the text
pub text-of : (s : Sort) (input : List ℕ) (p : Part) → text_of s (part_of input p) ≡ part_of input (text_part s p)
unfolding text_of
text-of sort.Number input p = refl
text-of sort.Instant input p = refl
text-of sort.Text input p = refl

pub text-within : (s : Sort) (input : List ℕ) (p : Part) → Within input p → Within input (text_part s p)
text-within sort.Number input p w = record { ordered = omega arith; inside = omega arith; short = omega arith }
text-within sort.Instant input p w = record { ordered = omega arith; inside = omega arith; short = omega arith }
text-within sort.Text input p w = w
