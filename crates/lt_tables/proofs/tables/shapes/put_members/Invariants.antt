use Rattle.std.proofs.Common.{◌≡◌, ◌≤◌, ◌-◌, ◌++◌, suc, List, length, drop}
use Rattle.lt_tree.specs.Typing.Types.{CType}
use Rattle.lt_tree.specs.Typing.Programs.{Program}
use Rattle.lt_tables.specs.Layouts.{pairs_of}
use Rattle.lt_tables.specs.Stretches.{members_cells, cells_left}
use Rattle.lt_tables.proofs.tables.shapes.put_members.Given as goal

abbrev pub invariant-members : goal.invariant-members
invariant-members l = record {
  place : l.place ≤ length l.members;
  left : (program : Program) (types : List CType)
      → cells_left program types l.left.items ≡ members_cells program (suc (l.depth - 1)) (pairs_of types (drop l.place l.members)) l.offset ++ cells_left program types l.initial.left.items;
}

abbrev pub decreases-members : goal.decreases-members
decreases-members l = l.place
