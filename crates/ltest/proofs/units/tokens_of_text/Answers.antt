use Rattle.lt_answers.specs.Programs.{no_token_there, word_not_supported, nests_too_deeply}
use Rattle.ltest.proofs.units.tokens_of_text.Goals as goal

pub returns-in-Err-Lex : goal.returns-in-Err-Lex
returns-in-Err-Lex c = no_token_there (rw c.in-Err-Lex.field-0-is at c.in-Err-Lex.ensures.given)

pub returns-in-Err-Unsupported : goal.returns-in-Err-Unsupported
returns-in-Err-Unsupported c = word_not_supported (rw c.in-Err-Unsupported.field-0-is at c.in-Err-Unsupported.ensures.given)

pub returns-in-Err-TooNested : goal.returns-in-Err-TooNested
returns-in-Err-TooNested c = nests_too_deeply (rw c.in-Err-TooNested.field-0-is at c.in-Err-TooNested.ensures.given)
