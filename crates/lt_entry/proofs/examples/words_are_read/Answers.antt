use Rattle.lt_entry.proofs.Judged as judged
use Rattle.lt_entry.proofs.examples.words_are_read.Goals as goal

pub returns-clause-types : goal.returns-clause-types
returns-clause-types c = judged.types
