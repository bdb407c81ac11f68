use Rattle.std.proofs.Common.{[], ◌∙◌, ap, map}
use Rattle.lt_tree.specs.Typing.EntityView.{object_of}
use Rattle.lt_tree.specs.Typing.Entities.{linked_from}
use Rattle.lt_env.proofs.LinkedObjects.{whatever_types}
use Rattle.lt_env.proofs.symbols.objects.Objects.linked.Goals as goal

pub returns-in_err-number : goal.returns-in_err-number
returns-in_err-number c = λ types.
    c.from_residual.ensures
    ∙ c.in_err-number.ensures.value
    ∙ c.self.invariant.at c.args.name.now
    ∙ whatever_types 0 c.args.name.now [] types c.self.inside.list.items
    ∙ ap (λ list. linked_from 0 c.args.name.now (map (object_of types) list)) c.self.view_is

pub returns : goal.returns
returns c = λ types.
    c.in_ok-number.ensures.value
    ∙ c.self.invariant.at c.args.name.now
    ∙ whatever_types 0 c.args.name.now [] types c.self.inside.list.items
    ∙ ap (λ list. linked_from 0 c.args.name.now (map (object_of types) list)) c.self.view_is
