use Rattle.std.proofs.Common.{◌≡◌}
use Rattle.std.proofs.Common.{drop}
use Rattle.lt_tree.specs.Typing.TypeRows.{all_in}
use Rattle.lt_tree.specs.Typing.Declaring.{are_passable}
use Rattle.lt_table.specs.TableRows.{Stays}
use Rattle.lt_declare.proofs.declaration.are_passable.Given as goal

abbrev pub invariant-loop-t : goal.invariant-loop-t
invariant-loop-t l = Stays l.types.rows (λ types. are_passable (all_in types l.fn.list) ≡ are_passable (all_in types (drop l.t-index l.fn.list)))
