use Rattle.std.proofs.Common.{◌++◌, is_some, ap, ◌∙◌}
use Rattle.lt_tree.specs.Typing.EntityView.{entity_of}
use Rattle.lt_tree.specs.Typing.Entities.{declared_here}
use Rattle.lt_tree.specs.Typing.Rules.{broken_if, declared_twice, bad_case, unless}
use Rattle.lt_env.specs.Going.{known_of}
use Rattle.lt_declare.proofs.Steps.{some_mapped}
use Rattle.lt_declare.proofs.enums.enumerator_faults.Goals as goal

pub returns : goal.returns
returns c = λ types.
    let is_there = c.is_some.ensures ∙ some_mapped (entity_of types) _ _ (c.find_here-found.ensures types) in
    let first = c.in_ok-broken_if.ensures ∙ ap (λ f. f ++ broken_if declared_twice c.is_some.result) c.new-faults.ensures ∙ ap (broken_if declared_twice) is_there in
    c.in_ok-unless.ensures ∙ ap (λ f. f ++ unless c.is_good_value.result bad_case) first ∙ ap (λ b. broken_if declared_twice (is_some (declared_here c.args.name.now (known_of types c.args.walker.now))) ++ unless b bad_case) (c.is_good_value.ensures types)
