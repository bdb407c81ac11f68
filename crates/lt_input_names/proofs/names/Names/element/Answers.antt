use Rattle.lt_entry.specs.Views.{numeral_view}
use Rattle.lt_input_names.specs.Views.{program_at, type_at}
use Rattle.lt_input_names.proofs.StepLaws.{no_element}
use Rattle.lt_input_names.proofs.names.Names.element.Goals as goal

pub returns-in-None : goal.returns-in-None
returns-in-None c = λ offset. no_element (program_at c.args.self.now) (numeral_view c.args.index) offset (type_at c.args.self.now c.args.ty) c.in-None.ensures
