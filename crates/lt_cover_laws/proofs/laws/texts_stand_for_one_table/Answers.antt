use Rattle.lt_cover_laws.proofs.OneText.{texts_are_one}
use Rattle.lt_cover_laws.proofs.laws.texts_stand_for_one_table.Goals as goal

pub returns : goal.returns
returns c = texts_are_one
