use Rattle.lt_declare.proofs.StructsClosed.{completed}
use Rattle.lt_declare.proofs.structs.complete.Goals as goal

pub returns : goal.returns
returns c = completed c.args.walker.now c.complete_struct.new.self c.args.number c.args.members c.in_ok-complete_struct.ensures.completed (λ types. c.if-is_struct_complete.ensures types)
