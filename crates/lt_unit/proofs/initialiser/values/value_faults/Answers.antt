use Rattle.std.proofs.Common.{sym, ap, ◌∙◌}
use Rattle.lt_tree.specs.Typing.Types.{unqualified}
use Rattle.lt_tree.specs.Typing.TypeRows.{type_in}
use Rattle.lt_tree.specs.Typing.ConstancyView.{constancy_of}
use Rattle.lt_tree.specs.Typing.Expressions.{constancy_to}
use Rattle.lt_tree.specs.Typing.Operations.{fits}
use Rattle.lt_env.specs.Views.{typed_of}
use Rattle.lt_env.proofs.Judgements.{stays_on}
use Rattle.lt_unit.proofs.FillingWalks.{value_rules}
use Rattle.lt_unit.proofs.initialiser.values.value_faults.Goals as goal

pub returns-clause-made : goal.returns-clause-made
returns-clause-made c = λ longer h known k.
    let bare = stays_on c.constancy_to.ensures.widens c.in_ok-bare.ensures.made longer h in
    let fit = stays_on c.constancy_to.ensures.widens c.in_ok-fits.ensures longer h in
    value_rules known c.args.is_static (type_in longer c.args.t) (typed_of longer c.args.x.now) _ _ _ _ (constancy_of c.in_ok-content.content)
    c.in_ok-broken_if.ensures c.in_ok-faults.ensures
    (fit ∙ ap (λ u. fits u (typed_of longer c.args.x.now)) bare)
    c.varies-varies.ensures
    (c.in_ok-content.ensures.made longer h
    ∙ ap (λ u. constancy_to c.unqualified.new.self.model u (constancy_of c.args.x.now.constancy)) bare
    ∙ ap (λ m. constancy_to m (unqualified (type_in longer c.args.t)) (constancy_of c.args.x.now.constancy)) (c.unqualified.ensures.widens.model ∙ sym k.model))
