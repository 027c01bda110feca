-- "given exactly when" (R10 to R12): what each of the answers 1 to 6 says of a code, with its place.
-- Assumes nothing.
use Rattle.std.specs.Prelude.{ℕ, ◌≤◌, ◌<◌, ◌≡◌, Bool, true, false, ◌⊎◌, List, [], ◌∷◌, length, get_or}
use Rattle.answers.specs.declared.Refusal.{Refusal}
use Rattle.answers.specs.Number.{number_of}
use Rattle.formats.specs.Tokens.{broken, lex}
use Rattle.formats.specs.Starts.{StepIs, TokenStart, ReadsAt, SemicolonAt}
use Rattle.formats.specs.Accept.{placed_of, semicolons, parts_in, sections_in, Verdict, fine, refused, length_verdict, token_verdict, count_verdict, kind_verdict, where_verdict, limit_verdict}

-- the tests of a code, each at the place of its answer's number
abbrev pub tests : List ℕ → List Verdict
tests code =
    fine ∷ length_verdict code ∷ token_verdict (lex code) ∷ count_verdict (semicolons (placed_of (lex code)))
    ∷ kind_verdict (parts_in code) ∷ where_verdict (sections_in code) ∷ limit_verdict (parts_in code) ∷ []

-- "Preparing tests 1 to 7 in that order": no test before number n refuses the code
abbrev pub FineBelow : List ℕ → ℕ → Type 0
FineBelow code n = (i : ℕ) → i < n → get_or (tests code) i fine ≡ fine

-- the test of that answer refuses the code at that place, and no earlier test refuses it
pub record RefusedBy (code : List ℕ) (a : Refusal) (k : ℕ) : Type 0 where
  pub refuses : get_or (tests code) (number_of a) fine ≡ refused a k
  pub before : FineBelow code (number_of a)

-- 1: "code length is 0 or above 254", place 0
pub record WrongLength (code : List ℕ) (k : ℕ) : Type 0 where
  pub place : k ≡ 0
  pub wrong : (length code ≡ 0) ⊎ (254 < length code)

-- 2: "a unit starts no token, or its token is broken", "first such unit": reading from the left comes to place k, there it is so,
-- and every token that starts earlier is read
pub record FirstBroken (code : List ℕ) (k : ℕ) : Type 0 where
  pub least : 1 ≤ length code
  pub most : length code ≤ 254
  pub starts : TokenStart code k
  pub breaks-there : StepIs code k broken
  pub inside : k < length code
  pub earlier : (j : ℕ) → TokenStart code j → j < k → ReadsAt code j
  pub last : (j : ℕ) → TokenStart code j → j ≤ k

-- where a number stands in a list
pub record StandsIn (m : ℕ) (xs : List ℕ) : Type 0 where
  pub index : ℕ
  pub within : index < length xs
  pub same : get_or xs index 0 ≡ m

-- these are the places of the code's semicolons, in their order, each once
pub record SemicolonPlaces (code : List ℕ) (places : List ℕ) : Type 0 where
  pub ascend : (i j : ℕ) → i < j → j < length places → get_or places i 0 < get_or places j 0
  pub each : (i : ℕ) → i < length places → SemicolonAt code (get_or places i 0)
  pub all : (j : ℕ) → SemicolonAt code j → StandsIn j places

-- 3: "more than four sections": the fourth of the code's semicolons stands at place k
pub record FourthSemicolon (code : List ℕ) (k : ℕ) : Type 0 where
  pub before : FineBelow code 3
  pub places : List ℕ
  pub semicolons : SemicolonPlaces code places
  pub many : 3 < length places
  pub fourth : get_or places 3 0 ≡ k
  pub here : SemicolonAt code k

-- 4, 5 and 6, each of them n: "first such section": section k is the first of xs that fails the test f
pub record FirstSection {A : Type 0} (code : List ℕ) (n : ℕ) (f : ℕ → A → Bool) (xs : List A) (k : ℕ) : Type 0 where
  pub before : FineBelow code n
  pub within : k < length xs
  pub fails : (d : A) → f k (get_or xs k d) ≡ false
  pub earlier : (d : A) (j : ℕ) → j < k → f j (get_or xs j d) ≡ true
