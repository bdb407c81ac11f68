use Rattle.lt_tree.specs.Typing.TypeRows.{type_in}
use Rattle.lt_tree.specs.Typing.EntityView.{life_of}
use Rattle.lt_type.proofs.Sequences.{gives_itself}
use Rattle.lt_unit.proofs.Changed.{shared_object, no_shared_object}
use Rattle.lt_unit.proofs.Lasting.{gives_here}
use Rattle.lt_unit.proofs.declared.object_for.Goals as goal

pub returns-in-Some : goal.returns-in-Some
returns-in-Some c =
    gives_here (λ types more. shared_object (life_of c.args.life) c.args.node c.args.name.now (type_in types c.args.t) _ _ _ _ _ (c.linked-found.ensures types) c.shared.ensures c.in-Some.is) gives_itself

pub returns-in-None : goal.returns-in-None
returns-in-None c =
    gives_here (λ types more. no_shared_object (life_of c.args.life) c.args.node c.args.name.now (type_in types c.args.t) _ _ _ _ (c.linked-found.ensures types) c.shared.ensures c.in-None.is) c.new_object.ensures
