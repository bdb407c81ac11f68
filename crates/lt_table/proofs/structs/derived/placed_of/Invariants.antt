use Rattle.std.proofs.Common.{◌≡◌, ◌++◌}
use Rattle.lt_table.specs.StructTables.{pairs_of}
use Rattle.lt_table.proofs.structs.derived.placed_of.Given as goal

abbrev pub invariant-loop-member : goal.invariant-loop-member
invariant-loop-member l = l.placed.items ++ pairs_of l.member-iterator.a.rest.now l.member-iterator.b.rest.now ≡ pairs_of l.members l.offsets
