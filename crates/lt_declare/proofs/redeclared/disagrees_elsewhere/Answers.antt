use Rattle.std.proofs.Common.{ap, ◌∙◌}
use Rattle.lt_tree.specs.Typing.EntityView.{entity_of}
use Rattle.lt_env.specs.Going.{known_of}
use Rattle.lt_declare.proofs.Steps.{some_mapped}
use Rattle.std.proofs.Common.{◌&&◌, not}
use Rattle.lt_tree.specs.Typing.Types.{same}
use Rattle.lt_tree.specs.Typing.TypeRows.{type_in}
use Rattle.lt_tree.specs.Typing.Entities.{declared_among}
use Rattle.lt_tree.specs.Typing.Operands.{holds}
use Rattle.lt_declare.proofs.redeclared.disagrees_elsewhere.Goals as goal

pub returns-then-not-is_here : goal.returns-then-not-is_here
returns-then-not-is_here c = λ longer h.
    let known = known_of longer c.args.walker.now in
    let name = c.args.name.now in
    let t = type_in longer c.args.t in
    c.in_ok-is_other.ensures longer h ∙ ap (holds (λ u. not (same t u))) (c.ty.ensures longer)
    ∙ ap (λ b. not b && holds (λ u. not (same t u)) (declared_among name known.declared)) (c.if-not-is_here.ensures ∙ some_mapped (entity_of longer) _ _ (c.find_here.ensures longer))

pub returns-else-not-is_here : goal.returns-else-not-is_here
returns-else-not-is_here c = λ longer h.
    let known = known_of longer c.args.walker.now in
    let name = c.args.name.now in
    let t = type_in longer c.args.t in
    ap not c.if-not-is_here.false
    ∙ ap (λ b. not b && holds (λ u. not (same t u)) (declared_among name known.declared)) (c.if-not-is_here.ensures ∙ some_mapped (entity_of longer) _ _ (c.find_here.ensures longer))
