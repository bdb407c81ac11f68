use Rattle.std.proofs.Common.{take}
use Rattle.lt_table.specs.TableBare.{BareOf}
use Rattle.lt_table.proofs.table.bare.all_bare.Given as goal

abbrev pub invariant-loop-t : goal.invariant-loop-t
invariant-loop-t l = BareOf l.ids (take l.t-index l.types) l.all.items
