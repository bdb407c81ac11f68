use Rattle.std.proofs.Common.{◌≡◌, ◌++◌, map, drop}
use Rattle.lt_tree.specs.Typing.EntityView.{object_of}
use Rattle.lt_meaning.specs.Runs.{initials}
use Rattle.lt_tables.specs.Views.{types_at, program_at}
use Rattle.lt_tables.proofs.tables.Tables.statics.Given as goal

abbrev pub invariant-loop-object : goal.invariant-loop-object
invariant-loop-object l =
    l.all.items ++ initials (program_at l.self) (map (object_of (types_at l.self)) (drop l.object-index l.object-items)) ≡ initials (program_at l.self) (program_at l.self).objects
