use Rattle.std.proofs.Common.{◌≡◌}
use Rattle.lt_tree.specs.Typing.TypeRows.{type_in}
use Rattle.lt_table.specs.TableRows.{Stays, arrays}
use Rattle.lt_table.proofs.table.TypeTable.unwound.Given as goal

abbrev pub invariant-more : goal.invariant-more
invariant-more l = Stays l.self (λ types. type_in types l.fn.t ≡ arrays l.lengths.items (type_in types l.inner))

abbrev pub decreases-more : goal.decreases-more
decreases-more l = l.inner.place
