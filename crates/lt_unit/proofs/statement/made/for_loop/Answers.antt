use Rattle.std.proofs.Common.{option_map, ap, ◌∙◌}
use Rattle.lt_tree.specs.Typing.TypedTree as e
use Rattle.lt_tree.specs.Typing.StatementView as view
use Rattle.lt_tree.specs.Typing.StatementTyping.{optional_value}
use Rattle.lt_env.specs.Views.{typed_in}
use Rattle.lt_unit.specs.UnitViews.{statement_in}
use Rattle.lt_env.proofs.Judgements.{stays_on}
use Rattle.lt_unit.proofs.statement.made.for_loop.Goals as goal

pub returns-clause-made : goal.returns-clause-made
returns-clause-made c = λ longer more.
    ap (view.statement_of longer) c.in_ok-all.ensures
    ∙ c.for_loop.ensures longer
    ∙ ap (λ v. e.For (view.for_start_of longer c.args.start) v (view.maybe_of longer c.in_ok-y.y) (statement_in longer c.args.body)) (stays_on c.optional_value-2.ensures.widens c.in_ok-x.ensures.made longer more)
    ∙ ap (λ v. e.For (view.for_start_of longer c.args.start) (optional_value (option_map (typed_in longer) c.args.test)) v (statement_in longer c.args.body)) (c.in_ok-y.ensures.made longer more)
