use Rattle.lt_entry.specs.Views.{numeral_view}
use Rattle.lt_input_names.specs.Views.{program_at, type_at}
use Rattle.lt_input_names.proofs.TargetLaws.{no_past}
use Rattle.lt_input_names.proofs.names.Names.end_of_array.Goals as goal

pub returns-in-None : goal.returns-in-None
returns-in-None c = λ name. no_past (program_at c.args.self.now) (type_at c.args.self.now c.args.pointed) name (numeral_view c.args.index) (type_at c.args.self.now c.args.ty) c.in-None.ensures
