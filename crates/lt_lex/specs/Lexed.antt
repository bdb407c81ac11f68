-- What the lexer gives: the one answer of its text, unless memory runs out.
use Rattle.std.specs.Prelude.{List, map, Option, Some, None, Result, Ok, Err}
use Rattle.lt_token.specs.Tokens.{no_token, unsupported_word}
use Rattle.lt_token.specs.Tokens as pure
use Rattle.lt_token.specs.Answer.{Answer, lexed, refused, too_nested}
use Rattle.lt_lex.specs.declared.tokens.Tokens.{Tokens}
use Rattle.lt_lex.specs.declared.stop.LexStop.{LexStop}
use Rattle.lt_lex.specs.declared.stop.LexStop.TheVariants as stop
use Rattle.lt_lex.specs.Views.{token_of}

abbrev pub tokens_of : Tokens → List pure.Token
tokens_of tokens = map token_of tokens.list.items

-- none where memory ran out
abbrev pub answer_of : Result Tokens LexStop → Option Answer
answer_of (Ok tokens) = Some (lexed (tokens_of tokens))
answer_of (Err (stop.Lex at)) = Some (refused (no_token at))
answer_of (Err (stop.Unsupported word at)) = Some (refused (unsupported_word word at))
answer_of (Err (stop.TooNested at)) = Some (too_nested at)
answer_of (Err stop.NoMemory) = None
