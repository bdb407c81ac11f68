use Rattle.std.proofs.Common.{◌≡◌}
use Rattle.lt_tree.specs.Typing.TypeRows.{type_in}
use Rattle.lt_table.specs.TableRows.{Stays}
use Rattle.lt_unit.specs.LeftParts.{plain}
use Rattle.lt_unit.proofs.initialiser.opening.unqualified.Given as goal

abbrev pub invariant-loop-turn : goal.invariant-loop-turn
invariant-loop-turn l = Stays l.types.rows (λ longer. plain (type_in longer l.ty) ≡ plain (type_in longer l.fn.t))
