use Rattle.std.proofs.Common.{arith}
use Rattle.lt_entry.proofs.LinesRead.{two_are}
use Rattle.lt_entry.proofs.words.two_words.Goals as goal

pub returns-then-words-eq2 : goal.returns-then-words-eq2
returns-then-words-eq2 c = two_are c.args.words.now _ _ (omega arith)
