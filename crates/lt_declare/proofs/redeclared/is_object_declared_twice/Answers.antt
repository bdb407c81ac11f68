use Rattle.std.proofs.Common.{is_some, if◌then◌else◌, ap, ◌∙◌}
use Rattle.lt_tree.specs.Typing.EntityView.{entity_of}
use Rattle.lt_tree.specs.Typing.Entities.{declared_here}
use Rattle.lt_env.specs.Going.{known_of}
use Rattle.lt_declare.proofs.Steps.{some_mapped}
use Rattle.std.proofs.Common.{◌&&◌, ◌||◌, not, slice_get, if◌then◌else◌}
use Rattle.lt_tree.specs.Typing.TypeRows.{type_in}
use Rattle.lt_tree.specs.Typing.Entities.{declared_here}
use Rattle.lt_tree.specs.Typing.Operands.{holds}
use Rattle.lt_tree.specs.Typing.Declaring as declaring
use Rattle.lt_declare.specs.Declaring.{agrees_with}
use Rattle.lt_declare.proofs.DeclarationParts.{again_same}
use Rattle.lt_declare.proofs.redeclared.is_object_declared_twice.Goals as goal

pub returns-then-is_linked : goal.returns-then-is_linked
returns-then-is_linked c = λ longer h.
    let known = known_of longer c.args.walker.now in
    let name = c.args.name.now in
    let t = type_in longer c.args.t in
    again_same c.args.has_initialiser
    (c.in_ok-agrees.ensures longer h ∙ ap (λ n. agrees_with known n t) (c.linked-linked.ensures longer))
    (c.is_unlinked.ensures longer ∙ ap (holds (λ e. not (declaring.is_linked_object known e))) (c.find_here-found.ensures longer))
    (c.is_function_elsewhere-is_function.ensures longer)
    (c.is_started.ensures longer ∙ ap (holds (λ n. holds (λ object. is_some object.start) (slice_get known.objects n))) (c.linked-linked.ensures longer))
    ∙ ap (λ b. if b then
    not (declaring.agrees_with_object known name t) || holds (λ e. not (declaring.is_linked_object known e)) (declared_here name known) || declaring.is_function_elsewhere known name || (c.args.has_initialiser && declaring.is_initialised known name)
    else is_some (declared_here name known)) c.if-is_linked.ensures

pub returns-else-is_linked : goal.returns-else-is_linked
returns-else-is_linked c = λ longer h.
    let known = known_of longer c.args.walker.now in
    let name = c.args.name.now in
    let t = type_in longer c.args.t in
    c.is_some.ensures ∙ some_mapped (entity_of longer) _ _ (c.find_here-found.ensures longer)
    ∙ ap (λ b. if b then
    not (declaring.agrees_with_object known name t) || holds (λ e. not (declaring.is_linked_object known e)) (declared_here name known) || declaring.is_function_elsewhere known name || (c.args.has_initialiser && declaring.is_initialised known name)
    else is_some (declared_here name known)) c.if-is_linked.ensures
