use Rattle.std.proofs.Common.{sym, ◌∙◌}
use Rattle.lt_input_blocks.proofs.TokenLaws.{plain_keyword}
use Rattle.lt_input_blocks.proofs.tokens.is_plain_keyword.Goals as goal

pub returns-then-is_keyword : goal.returns-then-is_keyword
returns-then-is_keyword c = plain_keyword c.args.token.now c.is_respelled.result c.is_respelled.ensures (sym c.is_keyword.ensures ∙ c.if-is_keyword.true)
