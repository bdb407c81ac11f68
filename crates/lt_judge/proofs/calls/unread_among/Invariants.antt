use Rattle.std.proofs.Common.{◌≡◌, take}
use Rattle.lt_tree.specs.Typing.TypeRows.{all_in}
use Rattle.lt_tree.specs.Typing.Expressions.{has_floating, has_pointer_to_function}
use Rattle.lt_tree.specs.Typing.Operations.{has_type}
use Rattle.lt_table.specs.TableRows.{Stays}
use Rattle.lt_judge.proofs.calls.unread_among.Given as goal

abbrev pub invariant-loop-t : goal.invariant-loop-t
invariant-loop-t l = record {
  floating : Stays l.types.rows (λ longer. l.floating ≡ has_type has_floating (all_in longer (take l.t-index l.ts)));
  function : Stays l.types.rows (λ longer. l.function ≡ has_type has_pointer_to_function (all_in longer (take l.t-index l.ts)));
}
