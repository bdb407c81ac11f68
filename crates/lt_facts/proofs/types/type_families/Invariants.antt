use Rattle.std.proofs.Common.{◌≡◌, [], drop}
use Rattle.lt_facts.specs.Families.{families_behind}
use Rattle.lt_facts.proofs.types.type_families.Given as goal

abbrev pub invariant-loop-row : goal.invariant-loop-row
invariant-loop-row l = families_behind l.program.model l.families.items (drop l.row-index l.row-items) ≡ families_behind l.program.model [] l.program.table.items
