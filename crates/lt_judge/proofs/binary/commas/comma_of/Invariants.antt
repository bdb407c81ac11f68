use Rattle.std.proofs.Common.{◌≡◌, List}
use Rattle.lt_tree.specs.Typing.Types.{CType}
use Rattle.lt_tree.specs.Typing.TypeRows.{type_in}
use Rattle.lt_tree.specs.Typing.ValueView.{values_in}
use Rattle.lt_tree.specs.Typing.BinaryOperations.{values_of, last_of}
use Rattle.lt_table.specs.TableRows.{Stays}
use Rattle.lt_table.specs.TypesValue.{Widens}
use Rattle.lt_env.specs.Views.{all_typed}
use Rattle.lt_judge.proofs.binary.commas.comma_of.Given as goal

abbrev pub invariant-loop-x : goal.invariant-loop-x
invariant-loop-x l = record {
  widens : Widens l.fn.types l.types;
  last : (longer : List CType) → type_in longer l.last ≡ last_of (type_in longer l.fn.none) (all_typed longer l.yielded);
  values : Stays l.types.rows (λ longer. values_in longer l.values.items ≡ values_of (all_typed longer l.yielded));
}
