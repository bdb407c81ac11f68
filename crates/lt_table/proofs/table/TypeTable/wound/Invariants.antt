use Rattle.std.proofs.Common.{◌≡◌, length}
use Rattle.lt_tree.specs.Typing.TypeRows.{type_in}
use Rattle.lt_table.specs.TableRows.{Grows, Stays, arrays}
use Rattle.lt_table.proofs.table.TypeTable.wound.Given as goal

abbrev pub invariant-loop-length : goal.invariant-loop-length
invariant-loop-length l =
    Grows l.fn.self l.self × Stays l.self (λ types. arrays l.lengths.items (type_in types l.made) ≡ arrays l.fn.lengths.items (type_in types l.fn.t))

abbrev pub decreases-loop-length : goal.decreases-loop-length
decreases-loop-length l = length l.lengths.items
