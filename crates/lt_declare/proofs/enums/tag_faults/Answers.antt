use Rattle.std.proofs.Common.{◌++◌, ap, ◌∙◌}
use Rattle.lt_tree.specs.Typing.EntityView.{tagged_of}
use Rattle.lt_tree.specs.Typing.Rules.{broken_if, declared_twice}
use Rattle.lt_declare.proofs.Steps.{some_mapped}
use Rattle.lt_declare.proofs.enums.tag_faults.Goals as goal

pub returns : goal.returns
returns c = λ types.
    let is_there = c.is_some.ensures ∙ some_mapped tagged_of _ _ (c.find_tag_here-found.ensures types) in
    c.in_ok-broken_if.ensures ∙ ap (λ f. f ++ broken_if declared_twice c.is_some.result) c.new-faults.ensures ∙ ap (broken_if declared_twice) is_there
