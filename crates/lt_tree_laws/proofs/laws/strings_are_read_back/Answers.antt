use Rattle.lt_tree_laws.proofs.QuotedStrings.{read_back}
use Rattle.lt_tree_laws.proofs.laws.strings_are_read_back.Goals as goal

pub returns : goal.returns
returns c = read_back
