use Rattle.std.proofs.Common.{Some, None, ap, sym, ◌∙◌}
use Rattle.lt_tree.specs.Typing.TypedTree as e
use Rattle.lt_tree.specs.Typing.ValueView.{value_of}
use Rattle.lt_tree.specs.Typing.StatementView.{maybe_of}
use Rattle.lt_emit.proofs.Spent.{within, fitting}
use Rattle.lt_lower.proofs.Flows.{flow_arm}
use Rattle.lt_lower.proofs.flow.simple.returns.Goals as goal

pub returns-in-None-clause-code : goal.returns-in-None-clause-code
returns-in-None-clause-code c =
    flow_arm (λ types. e.Return (maybe_of types c.args.value.now)) (λ types. e.Return None) c.args.x
    (λ types. ap (λ o. e.Return (maybe_of types o)) c.in-None.is)
    (within c.tick.ensures.code (λ from here it p known. p) (λ here. grind fitting))

pub returns-in-Some-clause-code : goal.returns-in-Some-clause-code
returns-in-Some-clause-code c =
    flow_arm (λ types. e.Return (maybe_of types c.args.value.now)) (λ types. e.Return (Some (value_of types c.deref.result.now))) c.args.x
    (λ types. ap (λ o. e.Return (maybe_of types o)) c.in-Some.is ∙ ap (λ v. e.Return (Some (value_of types v))) (sym c.deref.ensures))
    c.gives_back.ensures.code
