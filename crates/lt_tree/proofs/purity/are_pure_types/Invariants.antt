use Rattle.std.proofs.Common.{◌≡◌, drop}
use Rattle.lt_tree.specs.Records.{types_in}
use Rattle.lt_tree.specs.Purity.{are_pure_types}
use Rattle.lt_tree.proofs.purity.are_pure_types.Given as goal

abbrev pub invariant-types : goal.invariant-types
invariant-types l = are_pure_types (types_in (drop l.ty-index l.types)) ≡ are_pure_types (types_in l.types)
