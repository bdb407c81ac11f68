use Rattle.std.proofs.Common.{ap, ◌∙◌}
use Rattle.lt_env.proofs.Judgements.{judged, widens_on}
use Rattle.lt_tree.specs.View.{qualifiers_of}
use Rattle.lt_tree.specs.Typing.Types.{qualified}
use Rattle.lt_tree.specs.Typing.Declarators as declarators
use Rattle.lt_env.proofs.Goings.{longer_still}
use Rattle.lt_declare.proofs.declarators.pointer_to.Goals as goal

pub returns : goal.returns
returns c =
    let first = c.in_ok-ty.ensures in
    let second = c.in_ok-ty-2.ensures in
    let q = qualifiers_of c.args.quals in
    judged (widens_on first.widens second.widens)
    (λ types h. ap (λ t. declarators.built t c.args.inner.faults) (second.made types h ∙ ap (qualified q) (first.made types (longer_still _ _ _ second.widens.grows h))))
