use Rattle.std.proofs.Common.{◌≡◌, length, sym, ap, ◌∙◌, arith}
use Rattle.lt_tree.specs.Typing.TypeRows.{type_in, all_in}
use Rattle.lt_tree.specs.Typing.ValueView.{values_in}
use Rattle.lt_tree.specs.Typing.Operations.{passed}
use Rattle.lt_table.proofs.TableFound.{then_ok}
use Rattle.lt_env.specs.Views.{typed_in, judged_in, all_typed}
use Rattle.lt_judge.proofs.PassedArguments.{called_is, as_many}
use Rattle.lt_judge.proofs.calls.called.Goals as goal

pub returns-clause-made : goal.returns-clause-made
returns-clause-made c = then_ok c.judgement.result
    (λ j is longer more known model defined.
    let f = c.args.f.now in
    let number : c.len-number.result ≡ length c.args.xs.items = omega (arith, c.args.xs.ok.0) in
    called_is known c.args.name (type_in longer f.result) (all_in longer f.parameters.items) f.dots (all_typed longer c.args.xs.items) (judged_in longer j)
    c.in_ok-faults.faults (typed_in longer c.in_ok-typed.typed) c.in_ok-arguments.arguments.fit c.len-number.result (values_in longer c.in_ok-arguments.arguments.values.items)
    (is longer)
    (rw c.as_slice-2.ensures at (c.in_ok-faults.ensures longer more known defined))
    (number ∙ sym (as_many longer c.args.xs.items))
    (rw c.as_slice.ensures.value at (c.in_ok-arguments.ensures.fit longer more))
    (c.in_ok-typed.ensures longer more)
    ((rw c.as_slice.ensures.value at (c.in_ok-arguments.ensures.values longer more)) ∙ ap (λ m. passed m (all_typed longer c.args.xs.items) (all_in longer f.parameters.items)) (sym model)))
    c.judgement.ensures
