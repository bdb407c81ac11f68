-- What a text has: its tokens, or the first reason why it has none.
use Rattle.std.specs.Prelude.{ℕ, List, Some, None}
use Rattle.lt_token.specs.Tokens.{Token, Refusal, Lexes}
use Rattle.lt_token.specs.Nest.{IsShallow, IsFirstDeep}

pub data Answer : Type 0 where
  lexed : (tokens : List Token) → Answer
  refused : (refusal : Refusal) → Answer
  too_nested : (at : ℕ) → Answer

-- Nesting is judged where the whole text is tokens.
abbrev pub IsAnswer : List ℕ → Answer → Type 0
IsAnswer text (lexed tokens) = Lexes text tokens None × IsShallow tokens
IsAnswer text (refused refusal) = (before : List Token) × Lexes text before (Some refusal)
IsAnswer text (too_nested at) = (tokens : List Token) × Lexes text tokens None × IsFirstDeep tokens at
