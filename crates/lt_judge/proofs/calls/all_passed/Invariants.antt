use Rattle.std.proofs.Common.{◌≡◌, length}
use Rattle.lt_tree.specs.Typing.TypeRows.{all_in}
use Rattle.lt_tree.specs.Typing.ValueView.{values_in}
use Rattle.lt_tree.specs.Typing.Operations as operations
use Rattle.lt_table.specs.TableRows.{Stays}
use Rattle.lt_table.specs.TypesValue.{Widens}
use Rattle.lt_env.specs.Views.{all_typed}
use Rattle.lt_judge.proofs.calls.all_passed.Given as goal

abbrev pub invariant-loop-x : goal.invariant-loop-x
invariant-loop-x l = record {
  widens : Widens l.fn.types l.types;
  number : length l.values.items ≡ length l.yielded;
  values : Stays l.types.rows (λ longer. values_in longer l.values.items ≡ operations.passed l.fn.types.model (all_typed longer l.yielded) (all_in longer l.parameters));
  fit : Stays l.types.rows (λ longer. l.fit ≡ operations.all_fit (all_typed longer l.yielded) (all_in longer l.parameters));
}
