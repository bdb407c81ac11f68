-- The answer that is given is the only one of its text.
use Rattle.std.proofs.Common.{◌≡◌, ℕ, true, false, List, length, Option, Some, None, Result, Ok, Err, refl, ap, [], ◌∷◌, suc}
use Rattle.std.specs.Option.{IfSome}
use Rattle.std.specs.Result.{IfOk}
use Rattle.lt_token.specs.Tokens.{Token, Reads, ArePlaced, AreApart}
use Rattle.lt_token.specs.Lexemes.{Lexeme, Cuts}
use Rattle.lt_token.specs.Nest.{nests, nests_from, turned}
use Rattle.lt_token.specs.Answer.{Answer, IsAnswer}
use Rattle.lt_token.proofs.OneAnswer.{one_answer}
use Rattle.lt_token.proofs.Placed.{are_placed, apart}
use Rattle.lt_lex.specs.declared.tokens.Tokens.{Tokens}
use Rattle.lt_lex.specs.declared.stop.LexStop.{LexStop}
use Rattle.lt_lex.specs.Lexed.{tokens_of, answer_of}

only_one : (text : List ℕ) (o : Option Answer) → IfSome o (IsAnswer text) → (a : Answer) → IsAnswer text a → IfSome o (λ b. a ≡ b)
only_one text None given a is = tt
only_one text (Some b) given a is = one_answer text a b is given

pub only : (text : List ℕ) (r : Result Tokens LexStop) → IfSome (answer_of r) (IsAnswer text) → (a : Answer) → IsAnswer text a → IfSome (answer_of r) (λ b. a ≡ b)
only text r given = only_one text (answer_of r) given

pub slices : (text : List ℕ) (r : Result Tokens LexStop) → IfSome (answer_of r) (IsAnswer text) → IfOk r (λ tokens. ArePlaced text 0 (tokens_of tokens))
slices text (Ok tokens) given = are_placed text (tokens_of tokens) None given.0
slices text (Err e) given = tt

pub stand_apart : (text : List ℕ) (tokens : List Token) (lexemes : List Lexeme) → Cuts true 0 text lexemes → Reads false lexemes tokens None → AreApart 0 tokens (length text)
stand_apart text tokens lexemes cuts reads = apart text 0 tokens (are_placed text tokens None (record { lexemes = lexemes; cuts = cuts; reads = reads }))

many_from : (levels : List ℕ) (ts : List Token) → length (nests_from levels ts) ≡ length ts
many_from levels [] = refl
many_from levels (t ∷ ts) = ap suc (many_from (turned t ts levels) ts)

-- each token has a nest
pub many : (ts : List Token) → length (nests ts) ≡ length ts
unfolding nests
many ts = many_from (0 ∷ []) ts
