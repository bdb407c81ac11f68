use Rattle.lt_tree.specs.Typing.Types.{struct_of}
use Rattle.lt_input_names.specs.Views.{program_at, type_at}
use Rattle.lt_input_names.proofs.StepLaws.{no_struct}
use Rattle.lt_input_names.proofs.names.Names.member.Goals as goal

pub returns-in-None : goal.returns-in-None
returns-in-None c = λ offset. no_struct (program_at c.args.self.now) c.args.name.now offset (struct_of (type_at c.args.self.now c.args.ty)) c.in-None.ensures
