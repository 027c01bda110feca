-- Inputs of the program worked out: one list, and a single statement over its rows.
-- Assumes nothing.
use Prim.Native.Nat.{ℕ}
use Prim.Native.String.{String}
use mathlib.Core.Path.{◌≡◌, refl}
use mathlib.Core.Bool.{false}
use mathlib.Core.List.{List, [], ◌∷◌, ◌++◌}
use lib.IntN.{pos, negsuc}
use lib.ListN.{replicate}
use Rattle.values.specs.declared.Ask.{Ask}
use Rattle.values.specs.Ranges.{in_range}
use Rattle.lists.specs.Lists.{All, every, is_empty}
use Rattle.calendar.specs.Names.{units}
use Rattle.formats.specs.Tokens.{before, starts_with, same, is_digit, digit_of, number_from}
use Rattle.formats.proofs.Cases.{number, instant, a_text}
use Rattle.requests.specs.Lines.{is_ascii, is_line, field_of}
use Rattle.requests.specs.Written.{sort_of, is_digits, numeral_up_to, signed_by, unsigned_of, number_of, instant_of, value_of, text_of}
use Rattle.requests.specs.Request.{Request, malformed, request, from_end, from_value, from_third, from_kind, from_second, from_first, request_of}

-- to open `worked` is to open every definition that reading a request goes through
unfoldable pub worked : List ℕ → Request
unfolding units every is_empty before starts_with same is_digit digit_of number_from is_ascii is_line field_of sort_of is_digits numeral_up_to signed_by unsigned_of number_of instant_of value_of text_of from_end from_value from_third from_kind from_second from_first request_of
worked input = request_of input

pub record Case : Type 0 where
  pub input : List ℕ
  pub asks : Request

-- an input of a code, a kind and a value, and what it asks
abbrev pub asking : String → Ask → Case
unfolding units
asking input ask = record { input = units input; asks = request (units "#,##0") ask [] }

-- an input and its first malformed line
abbrev pub wrong : String → ℕ → Case
unfolding units
wrong input line = record { input = units input; asks = malformed line }

-- a text of so many units
abbrev pub texted : ℕ → Case
unfolding units
texted n =
    record {
      input = units "code=@\nkind=text\nvalue=" ++ replicate n 97 ++ units "\n";
      asks = request (units "@") a_text (replicate n 97);
    }

unfoldable pub cases : List Case
unfolding units asking wrong texted
cases =
    -- the example of document 01
    asking "code=#,##0\nkind=number\nvalue=12000\n" (number (pos 12000) 0)
    -- a minus, a point, zeros in front, which never make a number too large, and behind, which count
    ∷ asking "code=#,##0\nkind=number\nvalue=-0\n" (number (pos 0) 0)
    ∷ asking "code=#,##0\nkind=number\nvalue=-0.050\n" (number (negsuc 49) 3)
    ∷ asking "code=#,##0\nkind=number\nvalue=00000000000000000000012\n" (number (pos 12) 0)
    ∷ asking "code=#,##0\nkind=instant\nvalue=028086/0053760000\n" (instant 28086 53760000)
    -- too large
    ∷ asking "code=#,##0\nkind=number\nvalue=-1000000000000000.1\n" (number (negsuc 999999999999999) 1)
    ∷ asking "code=#,##0\nkind=number\nvalue=-0.0000000000000000\n" (number (pos 0) 16)
    ∷ asking "code=#,##0\nkind=instant\nvalue=2958466/0\n" (instant 2958466 0)
    -- an empty text is well formed, and so is one too long; 2,048 bytes are a line
    ∷ texted 0
    ∷ texted 1025
    ∷ texted 2042
    -- an empty number is malformed, and so are half a number, an instant with a minus and other kinds
    ∷ wrong "code=0\nkind=number\nvalue=\n" 3
    ∷ wrong "code=0\nkind=number\nvalue=-\n" 3
    ∷ wrong "code=0\nkind=number\nvalue=.5\n" 3
    ∷ wrong "code=0\nkind=number\nvalue=5.\n" 3
    ∷ wrong "code=0\nkind=number\nvalue=1.2.3\n" 3
    ∷ wrong "code=0\nkind=instant\nvalue=-1/0\n" 3
    ∷ wrong "code=0\nkind=instant\nvalue=1\n" 3
    ∷ wrong "code=0\nkind=instant\nvalue=1/\n" 3
    ∷ wrong "code=0\nkind=Text\nvalue=\n" 2
    -- the first malformed line is told
    ∷ wrong "code=0\nkind=date\nvalue\n" 2
    ∷ wrong "kind=number\ncode=0\nvalue=1\n" 1
    -- a byte above 127 makes its line malformed; any other is a unit
    ∷ wrong "code=é\nkind=number\nvalue=1\n" 1
    ∷ record { input = units "code=\t\r\nkind=text\nvalue=\n"; asks = request (9 ∷ 13 ∷ []) a_text [] }
    -- each line needs its line feed, and nothing follows the third
    ∷ wrong "" 1
    ∷ wrong "code=0" 1
    ∷ wrong "code=0\n" 2
    ∷ wrong "code=0\nkind=number\nvalue=1" 3
    ∷ wrong "code=0\nkind=number\nvalue=1\n\n" 4
    ∷ record { input = units "code=@\nkind=text\nvalue=" ++ replicate 2043 97 ++ units "\n"; asks = malformed 3 }
    ∷ []

-- the input asks for what its case says
abbrev pub Right : Case → Type 0
Right c = request_of c.input ≡ c.asks

pub cases-right : All Right cases
unfolding cases worked
cases-right = (refl, (refl, (refl, (refl, (refl, (refl, (refl, (refl, (refl, (refl, (refl, (refl, (refl, (refl, (refl, (refl, (refl, (refl, (refl, (refl, (refl, (refl, (refl, (refl, (refl, (refl, (refl, (refl, (refl, (refl, tt))))))))))))))))))))))))))))))

-- "a well-formed value too large is 9": the limits that larger numbers are read as are out of range, and so is the first of each
unfoldable pub large : List Ask
large =
    number (pos 1000000000000000) 0 ∷ number (negsuc 999999999999999) 0 ∷ number (pos 0) 16
    ∷ instant 2958466 0 ∷ instant 1000000000 0 ∷ instant 0 86400000 ∷ instant 0 1000000000 ∷ []

pub limits-out : All (λ (a : Ask). in_range a [] ≡ false) large
unfolding large
limits-out = (refl, (refl, (refl, (refl, (refl, (refl, (refl, tt)))))))

pub text_out : in_range a_text (replicate 1025 97) ≡ false
text_out = refl
