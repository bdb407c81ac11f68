use Rattle.std.proofs.Common.{[], ap, ◌∙◌}
use Rattle.lt_tree.specs.Typing.TypedTree as e
use Rattle.lt_tree.specs.Typing.Expressions.{value_in}
use Rattle.lt_tree.specs.Typing.StatementTyping.{TypedStart}
use Rattle.lt_env.specs.Views.{typed_in}
use Rattle.lt_type.proofs.Sequences.{gives_made}
use Rattle.lt_unit.proofs.declaration.first_end.Goals as goal

pub returns : goal.returns
returns c =
    gives_made (λ types known. record { start = e.First (value_in (typed_in types c.args.it)); faults = [] }) c.value_in.ensures.widens
    (λ types more. ap (λ v. record { start = e.First v; faults = c.new.result }) (c.in_ok-value.ensures.made types more) ∙ ap (λ l. record { start = e.First (value_in (typed_in types c.args.it)); faults = l }) c.new.ensures)
