-- What holds of each form of a token, a letter, an item, a place, an elapsed run, a half-day mark, a kind or a comparison holds of all of
-- them: so that a law that is computed at each form takes a line, not a line for each form.
-- Assumes nothing.
use Prim.Native.Nat.{ℕ}
use mathlib.Core.List.{List}
use Rattle.formats.specs.Tokens as token
use Rattle.formats.specs.Tokens.{Token, Letter, letter_y, letter_m, letter_d, letter_h, letter_s, Written, Place, zero_place, hash_place, space_place, Elapsed, hours, minutes, seconds, HalfDay, short, long, ExponentMark, e_plus, e_minus, Comparison, equal, less, greater, at_most, at_least, unequal}
use Rattle.formats.specs.Items.{Item, literal, blank, fill, place, point, percent, general, at, year, month, day, hour, minute, second, part, elapsed, half, exponent, solidus, fixed, Kind, text_kind, general_kind, date_kind, scientific_kind, fraction_kind, number_kind, literal_kind}

pub by_token {ℓ} : (P : Token → Type ℓ) → ((us : List ℕ) → P (token.literal us)) → ((u : ℕ) → P (token.bare u)) → ((u : ℕ) → P (token.blank u)) → ((u : ℕ) → P (token.fill u))
    → ((p : Place) → P (token.place p)) → P token.point → P token.comma → P token.percent → P token.at → P token.semicolon → P token.general
    → ((h : HalfDay) → P (token.half h)) → ((l : Letter) (n : ℕ) → P (token.run l n)) → ((e : Elapsed) (n : ℕ) → P (token.elapsed e n))
    → ((n : ℕ) → P (token.colour n)) → ((w : Written) → P (token.condition w)) → ((m : ExponentMark) → P (token.exponent m))
    → ((p : Place) → P (token.over p)) → ((p : Place) (n : ℕ) → P (token.over_fixed p n))
    → (t : Token) → P t
by_token P li ba bl fi pl po co pe a se ge ha ru el cl cn ex ov of (token.literal us) = li us
by_token P li ba bl fi pl po co pe a se ge ha ru el cl cn ex ov of (token.bare u) = ba u
by_token P li ba bl fi pl po co pe a se ge ha ru el cl cn ex ov of (token.blank u) = bl u
by_token P li ba bl fi pl po co pe a se ge ha ru el cl cn ex ov of (token.fill u) = fi u
by_token P li ba bl fi pl po co pe a se ge ha ru el cl cn ex ov of (token.place p) = pl p
by_token P li ba bl fi pl po co pe a se ge ha ru el cl cn ex ov of token.point = po
by_token P li ba bl fi pl po co pe a se ge ha ru el cl cn ex ov of token.comma = co
by_token P li ba bl fi pl po co pe a se ge ha ru el cl cn ex ov of token.percent = pe
by_token P li ba bl fi pl po co pe a se ge ha ru el cl cn ex ov of token.at = a
by_token P li ba bl fi pl po co pe a se ge ha ru el cl cn ex ov of token.semicolon = se
by_token P li ba bl fi pl po co pe a se ge ha ru el cl cn ex ov of token.general = ge
by_token P li ba bl fi pl po co pe a se ge ha ru el cl cn ex ov of (token.half h) = ha h
by_token P li ba bl fi pl po co pe a se ge ha ru el cl cn ex ov of (token.run l n) = ru l n
by_token P li ba bl fi pl po co pe a se ge ha ru el cl cn ex ov of (token.elapsed e n) = el e n
by_token P li ba bl fi pl po co pe a se ge ha ru el cl cn ex ov of (token.colour n) = cl n
by_token P li ba bl fi pl po co pe a se ge ha ru el cl cn ex ov of (token.condition w) = cn w
by_token P li ba bl fi pl po co pe a se ge ha ru el cl cn ex ov of (token.exponent m) = ex m
by_token P li ba bl fi pl po co pe a se ge ha ru el cl cn ex ov of (token.over p) = ov p
by_token P li ba bl fi pl po co pe a se ge ha ru el cl cn ex ov of (token.over_fixed p n) = of p n

pub by-letter {ℓ} : (P : Letter → Type ℓ) → P letter_y → P letter_m → P letter_d → P letter_h → P letter_s → (l : Letter) → P l
by-letter P y m d h s letter_y = y
by-letter P y m d h s letter_m = m
by-letter P y m d h s letter_d = d
by-letter P y m d h s letter_h = h
by-letter P y m d h s letter_s = s

pub by-item {ℓ} : (P : Item → Type ℓ) → ((u : ℕ) → P (literal u)) → ((u : ℕ) → P (blank u)) → ((u : ℕ) → P (fill u)) → ((p : Place) → P (place p))
    → P point → P percent → P general → P at
    → ((n : ℕ) → P (year n)) → ((n : ℕ) → P (month n)) → ((n : ℕ) → P (day n)) → ((n : ℕ) → P (hour n))
    → ((n : ℕ) → P (minute n)) → ((n : ℕ) → P (second n)) → ((n : ℕ) → P (part n)) → ((e : Elapsed) (n : ℕ) → P (elapsed e n)) → ((h : HalfDay) → P (half h))
    → ((m : ExponentMark) → P (exponent m)) → P solidus → ((n : ℕ) → P (fixed n))
    → (i : Item) → P i
by-item P l b f pl po pe ge a y mo d ho mi se pa el ha ex so fx (literal u) = l u
by-item P l b f pl po pe ge a y mo d ho mi se pa el ha ex so fx (blank u) = b u
by-item P l b f pl po pe ge a y mo d ho mi se pa el ha ex so fx (fill u) = f u
by-item P l b f pl po pe ge a y mo d ho mi se pa el ha ex so fx (place p) = pl p
by-item P l b f pl po pe ge a y mo d ho mi se pa el ha ex so fx point = po
by-item P l b f pl po pe ge a y mo d ho mi se pa el ha ex so fx percent = pe
by-item P l b f pl po pe ge a y mo d ho mi se pa el ha ex so fx general = ge
by-item P l b f pl po pe ge a y mo d ho mi se pa el ha ex so fx at = a
by-item P l b f pl po pe ge a y mo d ho mi se pa el ha ex so fx (year n) = y n
by-item P l b f pl po pe ge a y mo d ho mi se pa el ha ex so fx (month n) = mo n
by-item P l b f pl po pe ge a y mo d ho mi se pa el ha ex so fx (day n) = d n
by-item P l b f pl po pe ge a y mo d ho mi se pa el ha ex so fx (hour n) = ho n
by-item P l b f pl po pe ge a y mo d ho mi se pa el ha ex so fx (minute n) = mi n
by-item P l b f pl po pe ge a y mo d ho mi se pa el ha ex so fx (second n) = se n
by-item P l b f pl po pe ge a y mo d ho mi se pa el ha ex so fx (part n) = pa n
by-item P l b f pl po pe ge a y mo d ho mi se pa el ha ex so fx (elapsed e n) = el e n
by-item P l b f pl po pe ge a y mo d ho mi se pa el ha ex so fx (half h) = ha h
by-item P l b f pl po pe ge a y mo d ho mi se pa el ha ex so fx (exponent m) = ex m
by-item P l b f pl po pe ge a y mo d ho mi se pa el ha ex so fx solidus = so
by-item P l b f pl po pe ge a y mo d ho mi se pa el ha ex so fx (fixed n) = fx n

pub by_place {ℓ} : (P : Place → Type ℓ) → P zero_place → P hash_place → P space_place → (x : Place) → P x
by_place P a b c zero_place = a
by_place P a b c hash_place = b
by_place P a b c space_place = c

pub by-elapsed {ℓ} : (P : Elapsed → Type ℓ) → P hours → P minutes → P seconds → (x : Elapsed) → P x
by-elapsed P a b c hours = a
by-elapsed P a b c minutes = b
by-elapsed P a b c seconds = c

pub by-half {ℓ} : (P : HalfDay → Type ℓ) → P short → P long → (x : HalfDay) → P x
by-half P a b short = a
by-half P a b long = b

pub by-exponent {ℓ} : (P : ExponentMark → Type ℓ) → P e_plus → P e_minus → (x : ExponentMark) → P x
by-exponent P a b e_plus = a
by-exponent P a b e_minus = b

pub by_kind {ℓ} : (P : Kind → Type ℓ) → P text_kind → P general_kind → P date_kind → P number_kind → P literal_kind → P scientific_kind → P fraction_kind → (x : Kind) → P x
by_kind P a b c d e f g text_kind = a
by_kind P a b c d e f g general_kind = b
by_kind P a b c d e f g date_kind = c
by_kind P a b c d e f g number_kind = d
by_kind P a b c d e f g literal_kind = e
by_kind P a b c d e f g scientific_kind = f
by_kind P a b c d e f g fraction_kind = g

pub by-comparison {ℓ} : (P : Comparison → Type ℓ) → P equal → P less → P greater → P at_most → P at_least → P unequal → (x : Comparison) → P x
by-comparison P a b c d e f equal = a
by-comparison P a b c d e f less = b
by-comparison P a b c d e f greater = c
by-comparison P a b c d e f at_most = d
by-comparison P a b c d e f at_least = e
by-comparison P a b c d e f unequal = f
