use Rattle.std.proofs.Common.{sym, ap, ◌∙◌}
use Rattle.lt_tree.specs.Typing.Types.{same}
use Rattle.lt_tree.specs.Typing.TypeRows.{type_in}
use Rattle.lt_tree.specs.Typing.ConstancyView.{constancy_of}
use Rattle.lt_table.proofs.TableSame.{same_exact}
use Rattle.lt_table.proofs.TableFound.{then_ok}
use Rattle.lt_env.proofs.Judgements.{stays_on, stays_in}
use Rattle.lt_env.proofs.Conversions.{to_qualified}
use Rattle.lt_env.proofs.values.constancy_to.Goals as goal

pub returns-in-Some-true-clause-made : goal.returns-in-Some-true-clause-made
returns-in-Some-true-clause-made c = then_ok c.constancy_to_bare.result
    (λ d made longer more.
    let bare = stays_on c.constancy_to_bare.ensures.widens (stays_in c.table.ensures c.in-Some.ensures.value) longer more in
    let is = stays_on c.constancy_to_bare.ensures.widens (stays_in c.table-2.ensures c.in-Some-true.ensures.value) longer more in
    made longer more (sym bare ∙ sym (same_exact (type_in longer c.args.t) (type_in longer c.in-Some.bare) (sym is ∙ c.in-Some-true.field-0-test))))
    c.constancy_to_bare.ensures.made

pub returns-in-Some-false-clause-made : goal.returns-in-Some-false-clause-made
returns-in-Some-false-clause-made c = λ longer more.
    let bare = stays_in c.table.ensures c.in-Some.ensures.value longer more in
    let is = stays_in c.table-2.ensures c.in-Some-false.ensures.value longer more in
    to_qualified c.args.types.now.model (type_in longer c.args.t) (constancy_of c.args.c) (ap (same (type_in longer c.args.t)) (sym bare) ∙ sym is ∙ c.in-Some-false.field-0-test)
