-- What follows from the definitions.
use Rattle.std.specs.Prelude.{◌↔◌, true, [], ◌∷◌, ◌++◌, ◌≡◌, ℕ, List, Option}
use Rattle.lt_token.specs.declared.piece.Part.TheVariants as part
use Rattle.lt_token.specs.Bytes.{quote, apostrophe}
use Rattle.lt_token.specs.Parts.{is_closed_after}
use Rattle.lt_token.specs.Literals.{IsString, IsOneCharacter}
use Rattle.lt_token.specs.Tokens.{Token, Refusal, Lexes, ArePlaced}
use Rattle.lt_token.specs.Answer.{Answer, IsAnswer}

abbrev pub AtMostOneReading : Type 0
AtMostOneReading =
    (text : List ℕ) (tokens others : List Token) (refusal other : Option Refusal)
    → Lexes text tokens refusal → Lexes text others other → (tokens ≡ others) × (refusal ≡ other)

abbrev pub AtMostOneAnswer : Type 0
AtMostOneAnswer = (text : List ℕ) (a b : Answer) → IsAnswer text a → IsAnswer text b → a ≡ b

abbrev pub TokensAreSlices : Type 0
TokensAreSlices = (text : List ℕ) (tokens : List Token) (refusal : Option Refusal) → Lexes text tokens refusal → ArePlaced text 0 tokens

-- A string that is closed is what C11 writes between quotes, and the last quote; so is a character constant.
abbrev pub LiteralsAreThose : Type 0
LiteralsAreThose =
    ((bs : List ℕ) → (is_closed_after part.Text bs ≡ true) ↔ ((cs : List ℕ) × (bs ≡ cs ++ quote ∷ []) × IsString cs))
    × ((bs : List ℕ) → (is_closed_after part.Character bs ≡ true) ↔ ((cs : List ℕ) × (bs ≡ cs ++ apostrophe ∷ []) × IsOneCharacter cs))
