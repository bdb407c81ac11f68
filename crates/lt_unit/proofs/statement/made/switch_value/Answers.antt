use Rattle.std.proofs.Common.{sym, ap, ◌∙◌}
use Rattle.lt_model.specs.Conversions.{promoted}
use Rattle.lt_tree.specs.Typing.Types.{Num, scalar_of}
use Rattle.lt_tree.specs.Typing.Expressions.{own_type, value_in, converted_to}
use Rattle.lt_tree.specs.Typing.StatementTyping as typing
use Rattle.lt_env.specs.Views.{typed_in, typed_of}
use Rattle.lt_env.proofs.Judgements.{stays_on}
use Rattle.lt_unit.proofs.SwitchOperands.{switch_none, switch_some, value_so}
use Rattle.lt_unit.proofs.statement.made.switch_value.Goals as goal

pub returns-in-None-clause-made : goal.returns-in-None-clause-made
returns-in-None-clause-made c =
    value_so c.value_in.result c.value_in.new.types.rows (λ longer. value_in (typed_in longer c.args.x)) (λ longer. typing.switch_value c.args.types.now.model (typed_in longer c.args.x))
    (λ longer more. sym (switch_none c.args.types.now.model (typed_in longer c.args.x)
    (ap (λ x. scalar_of (own_type (typed_of longer x))) (sym c.deref.ensures) ∙ sym (stays_on c.value_in.ensures.widens c.in_ok-scalar.ensures longer more) ∙ c.in-None.is)))
    c.value_in.ensures.made

pub returns-in-Some-clause-made : goal.returns-in-Some-clause-made
returns-in-Some-clause-made c =
    value_so c.promoted_value.result c.promoted_value.new.types.rows (λ longer. converted_to (Num (promoted c.args.types.now.model c.in-Some.s)) (value_in (typed_in longer c.args.x))) (λ longer. typing.switch_value c.args.types.now.model (typed_in longer c.args.x))
    (λ longer more. sym (switch_some c.args.types.now.model (typed_in longer c.args.x) c.in-Some.s
    (ap (λ x. scalar_of (own_type (typed_of longer x))) (sym c.deref.ensures) ∙ sym (stays_on c.promoted_value.ensures.widens c.in_ok-scalar.ensures longer more) ∙ c.in-Some.is)))
    c.promoted_value.ensures.made
