use Rattle.std.proofs.Common.{◌≡◌, sym, subst, rules}
use Rattle.lt_model.specs.declared.input.Input.{Input}
use Rattle.lt_entry.specs.Inputs.{IsInOrder, built}
use Rattle.lt_input_values.proofs.Ordered.{built_in_order}
use Rattle.lt_input_values.proofs.input.build.Goals as goal

pub returns-clause-ordered : goal.returns-clause-ordered
returns-clause-ordered c =
    let input : Input = record { blocks = c.new.result; cells = c.new-2.result; stubs = c.new-3.result } in
    let is : input ≡ built c.args.test.now c.args.spec.now = search rules in
    subst (IsInOrder c.args.spec.now) (sym is) (built_in_order c.args.test.now c.args.spec.now)
