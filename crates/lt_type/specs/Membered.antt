-- Members so far, as contracts see them.
use Rattle.std.specs.Prelude.{List}
use Rattle.lt_tree.specs.Typing.Types.{CType}
use Rattle.lt_tree.specs.Typing.Declarators as d
use Rattle.lt_type.specs.declared.walk.members.Membered.{Membered}
use Rattle.lt_declare.specs.DeclaredViews.{members_in}

abbrev pub membered_of : List CType → Membered → d.Membered
membered_of types it = record { members = members_in types it.members; faults = it.faults }
