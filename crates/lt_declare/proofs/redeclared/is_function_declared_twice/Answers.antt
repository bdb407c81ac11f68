use Rattle.std.proofs.Common.{not, ◌||◌, ap, ◌∙◌}
use Rattle.lt_tree.specs.Typing.TypeRows.{type_in}
use Rattle.lt_tree.specs.Typing.Entities.{declared_here}
use Rattle.lt_tree.specs.Typing.Operands.{holds}
use Rattle.lt_tree.specs.Typing.Declaring as declaring
use Rattle.lt_env.specs.Going.{known_of}
use Rattle.lt_declare.specs.Declaring.{is_function_that}
use Rattle.lt_declare.proofs.DeclarationParts.{same_function_found}
use Rattle.lt_declare.proofs.redeclared.is_function_declared_twice.Goals as goal

pub returns : goal.returns
returns c = λ longer h.
    let known = known_of longer c.args.walker.now in
    let name = c.args.name.now in
    let t = type_in longer c.args.t in
    ap (λ b. b || c.is_object_elsewhere-is_object.result)
    (c.is_other_function-is_other.ensures longer
    ∙ ap (holds (λ e. not (is_function_that c.in_ok-agrees.agrees e))) (c.find_here.ensures longer)
    ∙ ap (λ a. holds (λ e. not (is_function_that a e)) (declared_here name known)) (c.in_ok-agrees.ensures longer h)
    ∙ same_function_found known name t (declared_here name known))
    ∙ ap (λ b. holds (λ e. not (declaring.is_same_function known name t e)) (declared_here name known) || b) (c.is_object_elsewhere-is_object.ensures longer)
