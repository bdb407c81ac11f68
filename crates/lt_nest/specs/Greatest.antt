-- The greatest nest of a text.
use Rattle.std.specs.Prelude.{◌≡◌, ℕ, max, List, [], ◌∷◌, Option, Some, None}
use Rattle.lt_token.specs.Tokens.{Token, Lexes}
use Rattle.lt_token.specs.Nest.{nests}

-- How deep a text nests.
abbrev pub greatest : List ℕ → ℕ
greatest [] = 0
greatest (n ∷ ns) = max n (greatest ns)

-- The whole text is tokens, however deep they nest, and this is the greatest of their nests.
pub record NestsTo (text : List ℕ) (nest : ℕ) : Type 0 where
  pub tokens : List Token
  pub lexes : Lexes text tokens None
  pub is : greatest (nests tokens) ≡ nest

-- The text nests so deep, or isn't tokens.
abbrev pub IsGreatestNest : List ℕ → Option ℕ → Type 0
IsGreatestNest text None = (nest : ℕ) → NestsTo text nest → ⊥
IsGreatestNest text (Some nest) = NestsTo text nest
