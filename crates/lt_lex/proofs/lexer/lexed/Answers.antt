use Rattle.std.proofs.Common.{map}
use Rattle.lt_lex.specs.Views.{lexeme_of, token_of}
use Rattle.lt_lex.proofs.Answering.{stand_apart}
use Rattle.lt_lex.proofs.lexer.lexed.Goals as goal

pub invariant_of-result-clause-apart : goal.invariant_of-result-clause-apart
invariant_of-result-clause-apart c =
    stand_apart c.args.text.now (map token_of c.in_ok-list.list.items) (map lexeme_of c.in_ok-lexemes.lexemes.items) c.in_ok-lexemes.ensures (rw c.deref.ensures.value at c.in_ok-list.ensures)
