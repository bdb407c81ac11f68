-- What the call that parses a text's tokens gives.
use Rattle.std.specs.Prelude.{◌≡◌, ◌⊎◌, ℕ, List, map, Contains, MatchResult, Result}
use Rattle.lt_tree.specs.Tree as c
use Rattle.lt_tree.specs.Units.{Derives}
use Rattle.lt_tree.specs.UnitView.{unit_of}
use Rattle.lt_tree.specs.Symbols.{Symbol, place}
use Rattle.lt_lex.specs.declared.tokens.Tokens.{Tokens}
use Rattle.lt_lex.specs.Lexed.{tokens_of}
use Rattle.lt_expr.specs.declared.stop.ParseStop.{ParseStop}
use Rattle.lt_expr.specs.declared.stop.ParseStop.TheVariants.{Syntax, NoMemory}
use Rattle.lt_expr.specs.Parsed.{IsPlace, symbols_in}
use Rattle.lt_decl.specs.declared.parse.Parsed.{Parsed}

-- The tokens derive no unit; nothing is said of want of memory.
abbrev pub StopsParsing : Tokens → ParseStop → Type 0
StopsParsing tokens (Syntax at) = IsPlace tokens at × ((unit : c.Unit) (spots : List ℕ) → Derives (tokens_of tokens) unit spots → ⊥)
StopsParsing tokens NoMemory = Unit {0}

-- the unit that the tokens are, or why there is none
abbrev pub IsUnitOf : Tokens → Result Parsed ParseStop → Type 0
IsUnitOf tokens given = MatchResult given (λ p. Derives (tokens_of tokens) (unit_of p.unit) p.spots.items) (StopsParsing tokens)

-- The same of all tokens with these symbols whose text has this length.
abbrev pub IsUnitOfSymbols : List Symbol → ℕ → Result Parsed ParseStop → Type 0
IsUnitOfSymbols symbols length given = (tokens : Tokens) → symbols ≡ symbols_in tokens → length ≡ tokens.length → IsUnitOf tokens given

-- where one of these symbols begins, or where the text ends
abbrev pub IsPlaceAmong : List Symbol → ℕ → ℕ → Type 0
IsPlaceAmong symbols length at = Contains (map place symbols) at ⊎ (at ≡ length)
