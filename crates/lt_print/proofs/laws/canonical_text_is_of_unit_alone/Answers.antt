use Rattle.lt_print.proofs.Alone.{of_unit_alone}
use Rattle.lt_print.proofs.laws.canonical_text_is_of_unit_alone.Goals as goal

pub returns : goal.returns
returns c = of_unit_alone
