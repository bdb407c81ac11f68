use Rattle.lt_tree.specs.Typing.NodeEnds.{end_of_declarator}
use Rattle.lt_declare.specs.DeclaredViews.{built_of}
use Rattle.lt_type.proofs.Sequences.{gives_then}
use Rattle.lt_type.proofs.walk.declarators.end_declarator.Goals as goal

pub returns : goal.returns
returns c = gives_then (λ types faults. end_of_declarator c.args.node c.args.name.now (built_of types c.args.b) faults) c.in_ok-faults.ensures c.end_of_declarator.ensures
