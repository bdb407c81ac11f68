use Rattle.lt_cover.proofs.Texts.{text_unique}
use Rattle.lt_cover.proofs.laws.a_text_stands_for_one_table.Goals as goal

pub returns : goal.returns
returns c = text_unique
