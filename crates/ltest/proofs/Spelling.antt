-- Why the tokens of a text spell no unit.
use Rattle.std.proofs.Common.{◌≡◌, inl, inr, ℕ, List, length, ◌∙◌}
use Rattle.lt_lex.specs.Lexed.{tokens_of}
use Rattle.lt_lex.specs.declared.tokens.Tokens.{Tokens}
use Rattle.lt_expr.specs.Parsed.{IsPlace}
use Rattle.lt_expr.specs.declared.stop.ParseStop.TheVariants as parse
use Rattle.lt_decl.specs.Parsed.{StopsParsing}
use Rattle.lt_answers.specs.Programs.{IsPlaceIn, SpellsNone, derives_none}
use Rattle.lt_answers.specs.declared.status.Refusal.TheVariants.{Syntax}
use Rattle.ltest.specs.Stages.{AreTokensOf}

-- a place among the tokens is one in the text
place_in : (text : List ℕ) (tokens : Tokens) (at : ℕ) → tokens.length ≡ length text → IsPlace tokens at → IsPlaceIn text (tokens_of tokens) at
place_in text tokens at long (inl there) = inl there
place_in text tokens at long (inr ends) = inr (ends ∙ long)

-- a text whose tokens derive no unit spells none
pub underived : (text : List ℕ) (tokens : Tokens) (at : ℕ) → AreTokensOf text tokens → StopsParsing tokens (parse.Syntax at) → SpellsNone text (Syntax at)
underived text tokens at are stops = derives_none are.0 (place_in text tokens at are.1 stops.0) stops.1
