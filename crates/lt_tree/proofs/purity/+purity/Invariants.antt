use Rattle.std.proofs.Common.{◌≡◌, drop}
use Rattle.lt_tree.specs.Records.{expressions_in, parts_in, parameter_list_in}
use Rattle.lt_tree.specs.Purity.{are_pure, are_pure_parts, is_pure_parameter_list}
use Rattle.lt_tree.proofs.purity.+purity.Given as goal

abbrev pub invariant-are_pure-parts : goal.invariant-are_pure-parts
invariant-are_pure-parts l = are_pure (expressions_in (drop l.part-index l.parts)) ≡ are_pure (expressions_in l.parts)

abbrev pub invariant-are_pure_parts-parts : goal.invariant-are_pure_parts-parts
invariant-are_pure_parts-parts l = are_pure_parts (parts_in (drop l.part-index l.parts)) ≡ are_pure_parts (parts_in l.parts)

abbrev pub invariant-is_pure_list-list : goal.invariant-is_pure_list-list
invariant-is_pure_list-list l = is_pure_parameter_list (parameter_list_in (drop l.parameter-index l.list)) ≡ is_pure_parameter_list (parameter_list_in l.list)
