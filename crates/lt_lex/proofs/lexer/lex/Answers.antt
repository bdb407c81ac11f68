use Rattle.lt_lex.proofs.Answering.{only, slices}
use Rattle.lt_lex.proofs.lexer.lex.Goals as goal

pub returns-clause-only : goal.returns-clause-only
returns-clause-only c = only c.args.text.now c.lexed.result c.lexed.ensures.given

pub returns-clause-slices : goal.returns-clause-slices
returns-clause-slices c = slices c.args.text.now c.lexed.result c.lexed.ensures.given
