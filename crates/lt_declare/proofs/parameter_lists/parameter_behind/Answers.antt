use Rattle.std.proofs.Common.{is_some, ap, ◌∙◌}
use Rattle.lt_env.proofs.Judgements.{judged, widens_on}
use Rattle.lt_tree.specs.Typing.Types.{adjusted, unqualified}
use Rattle.lt_tree.specs.Typing.TypeRows.{type_in}
use Rattle.lt_declare.specs.Declaring.{behind}
use Rattle.lt_declare.specs.DeclaredViews.{parameters_in}
use Rattle.lt_env.proofs.Goings.{longer_still}
use Rattle.lt_declare.proofs.parameter_lists.parameter_behind.Goals as goal

pub returns : goal.returns
returns c =
    let first = c.in_ok-ty.ensures in
    let second = c.in_ok-ty-2.ensures in
    let it = c.args.it in
    judged (widens_on first.widens second.widens)
    (λ types h.
    let made = parameters_in types c.args.made in
    c.in_ok-parameters.ensures types
    ∙ ap (λ t. behind made t c.is_some.result c.deref.result.now it.faults) (second.made types h ∙ ap unqualified (first.made types (longer_still _ _ _ second.widens.grows h)))
    ∙ ap (λ b. behind made (unqualified (adjusted (type_in types it.ty))) b c.deref.result.now it.faults) c.is_some.ensures
    ∙ ap (λ l. behind made (unqualified (adjusted (type_in types it.ty))) (is_some it.name) l it.faults) c.deref.ensures.value)
