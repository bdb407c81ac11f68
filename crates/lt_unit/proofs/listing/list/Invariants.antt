use Rattle.std.proofs.Common.{reverse}
use Rattle.lt_tree.specs.Typing.TypeRows.{type_in}
use Rattle.lt_tree.specs.Typing.Programs.{made_of, with_new}
use Rattle.lt_unit.specs.Listing.{types_at, listed_in}
use Rattle.lt_unit.specs.Tasks.{AreDue}
use Rattle.lt_unit.proofs.listing.list.Given as goal

abbrev pub invariant-tasks : goal.invariant-tasks
invariant-tasks l = AreDue l.types l.listed (reverse l.tasks.items) (with_new (listed_in (types_at l.types) l.initial.listed) (made_of (type_in (types_at l.types) l.fn.t)))
