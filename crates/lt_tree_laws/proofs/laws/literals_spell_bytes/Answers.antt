use Rattle.lt_tree_laws.proofs.SpelledBytes.{are_bytes}
use Rattle.lt_tree_laws.proofs.laws.literals_spell_bytes.Goals as goal

pub returns : goal.returns
returns c = are_bytes
