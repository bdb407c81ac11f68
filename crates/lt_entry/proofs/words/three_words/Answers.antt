use Rattle.std.proofs.Common.{arith}
use Rattle.lt_entry.proofs.LinesRead.{three_are}
use Rattle.lt_entry.proofs.words.three_words.Goals as goal

pub returns-then-words-eq3 : goal.returns-then-words-eq3
returns-then-words-eq3 c = three_are c.args.words.now _ _ _ (omega arith)
