-- What a public call gives for the tokens of a text.
use Rattle.std.specs.Prelude.{◌≡◌, ◌≤◌, ◌⊎◌, ℕ, List, [], map, length, drop, Contains}
use Rattle.lt_token.specs.Tokens.{Token}
use Rattle.lt_tree.specs.Tree as c
use Rattle.lt_tree.specs.Symbols.{Symbol, symbols}
use Rattle.lt_tree.specs.Scope.{Scope}
use Rattle.lt_tree.specs.Grammar.{IsWhole}
use Rattle.lt_lex.specs.declared.tokens.Tokens.{Tokens}
use Rattle.lt_lex.specs.Lexed.{tokens_of}
use Rattle.lt_expr.specs.declared.stop.ParseStop.{ParseStop}
use Rattle.lt_expr.specs.declared.stop.ParseStop.TheVariants.{Syntax, NoMemory}

abbrev pub symbols_in : Tokens → List Symbol
symbols_in tokens = symbols (tokens_of tokens)

-- The symbols from one place to another are this expression, it can't go on there, and its nodes begin at these bytes.
abbrev pub IsBetween : Scope → List Symbol → ℕ → c.Expression → ℕ → List ℕ → Type 0
IsBetween scope ts from e next spots = (next ≤ length ts) × IsWhole scope (drop from ts) e (drop next ts) spots []

-- where a token begins, or where the text ends
abbrev pub IsPlace : Tokens → ℕ → Type 0
IsPlace tokens at = Contains (map (λ t. t.at) (tokens_of tokens)) at ⊎ (at ≡ tokens.length)

-- No expression stands there; nothing is said of want of memory.
abbrev pub StopsParsing : Scope → Tokens → ℕ → ParseStop → Type 0
StopsParsing scope tokens from (Syntax at) =
    IsPlace tokens at × ((rest : List Symbol) (e : c.Expression) (spots : List ℕ) → IsWhole scope (drop from (symbols_in tokens)) e rest spots [] → ⊥)
StopsParsing scope tokens from NoMemory = Unit {0}
