use Rattle.std.proofs.Common.{is_some, sym, ap, ◌∙◌}
use Rattle.lt_tree.specs.Typing.EntityView.{entity_of}
use Rattle.lt_tree.specs.Typing.Entities.{declared_here}
use Rattle.lt_env.specs.Going.{known_of}
use Rattle.lt_declare.proofs.Steps.{some_mapped}
use Rattle.lt_tree.specs.Typing.Entities.{declared_here}
use Rattle.lt_tree.specs.Typing.Declarators as declarators
use Rattle.lt_declare.proofs.judged.is_declared_here.Goals as goal

pub returns-in-Some : goal.returns-in-Some
returns-in-Some c = λ types.
    let known = known_of types c.args.walker.now in
    c.is_some.ensures ∙ some_mapped (entity_of types) _ _ (c.find_here.ensures types) ∙ ap (λ w. is_some (declared_here w known)) c.as_slice.ensures
    ∙ ap (λ n. declarators.is_declared_here known n) (sym c.in-Some.is)
