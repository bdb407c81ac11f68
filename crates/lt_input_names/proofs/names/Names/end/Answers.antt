use Rattle.lt_input_names.specs.Roots.{root_at}
use Rattle.lt_input_names.specs.Views.{program_at, types_at, type_at}
use Rattle.lt_input_names.proofs.TargetLaws.{no_end}
use Rattle.lt_input_names.proofs.names.Names.end.Goals as goal

pub returns-in-None : goal.returns-in-None
returns-in-None c = λ name. no_end (program_at c.args.self.now) (type_at c.args.self.now c.args.pointed) (root_at (types_at c.args.self.now) name c.args.root) c.args.steps.now c.in-None.ensures
