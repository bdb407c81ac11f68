-- Lexemes and tokens without where they lie in memory.
use Rattle.std.specs.Prelude.{ℕ, List, [], ◌∷◌, Option, Some, None}
use Rattle.lt_token.specs.declared.lexeme.Sort.{Sort}
use Rattle.lt_token.specs.Lexemes as pure
use Rattle.lt_token.specs.Tokens.{Token as Pure}
use Rattle.lt_lex.specs.declared.cut.Lexeme.{Lexeme}
use Rattle.lt_lex.specs.declared.token.Token.{Token}

abbrev pub lexeme_of : Lexeme → pure.Lexeme
lexeme_of l = record { sort = l.sort; text = l.text.now; at = l.at }

-- the lexemes of one piece
abbrev pub lexemes_of : Option Sort → List ℕ → ℕ → List pure.Lexeme
lexemes_of None text at = []
lexemes_of (Some s) text at = record { sort = s; text = text; at = at } ∷ []

abbrev pub token_of : Token → Pure
token_of t = record { kind = t.kind; text = t.text.now; at = t.at }
