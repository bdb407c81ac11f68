use Rattle.std.specs.Prelude.{option_map}
use Rattle.lt_tree.specs.UnitView as source
use Rattle.lt_tree.specs.Typing.EntityView.{life_of}
use Rattle.lt_tree.specs.Typing.DeclarationTyping as typing
use Rattle.lt_type.proofs.Sequences.{gives_then}
use Rattle.lt_unit.proofs.declaration.declare.Goals as goal

pub returns-in_ok-number-in-Object : goal.returns-in_ok-number-in-Object
returns-in_ok-number-in-Object c =
    rw c.in-Object.is (gives_then (λ types n. typing.started_object (life_of c.in-Object.life) n (option_map source.initialiser_of c.args.i.now)) c.in_ok-number-in-Object.ensures c.started_object.ensures)
