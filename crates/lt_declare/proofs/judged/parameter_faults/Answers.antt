use Rattle.std.proofs.Common.{ap, ◌∙◌}
use Rattle.lt_env.specs.Going.{known_of}
use Rattle.lt_env.proofs.Judgements.{judged}
use Rattle.lt_tree.specs.Typing.TypeRows.{type_in}
use Rattle.lt_tree.specs.Typing.EntityView.{structs_of}
use Rattle.lt_tree.specs.Typing.Declarators as declarators
use Rattle.lt_table.specs.TypesValue.{structs_at}
use Rattle.lt_declare.specs.Declaring.{parameter_breaks}
use Rattle.lt_declare.proofs.judged.parameter_faults.Goals as goal

pub returns : goal.returns
returns c =
    let w = c.args.walker.now in
    let first = c.in_ok-ty.ensures in
    let is_definition = c.args.is_definition in
    judged first.widens
    (λ types h. c.in_ok-faults.ensures types h
    ∙ ap (λ l. parameter_breaks (structs_of types l) is_definition c.is_declared_here-is_declared.result (type_in types c.in_ok-ty.ty)) first.widens.structs
    ∙ ap (λ b. parameter_breaks (structs_at types w.types) is_definition b (type_in types c.in_ok-ty.ty)) (c.is_declared_here-is_declared.ensures types)
    ∙ ap (λ t. parameter_breaks (structs_at types w.types) is_definition (declarators.is_declared_here (known_of types w) c.args.name.now) t) (first.made types h))
