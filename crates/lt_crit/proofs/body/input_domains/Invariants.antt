use Rattle.std.proofs.Common.{◌≡◌, ◌++◌, map, drop}
use Rattle.std.specs.List.{flat_map}
use Rattle.lt_tree.specs.View.{expression_of}
use Rattle.lt_facts.specs.Parameters.{known_in, known_domains}
use Rattle.lt_crit.proofs.body.input_domains.Given as goal

abbrev pub invariant-parameters : goal.invariant-parameters
invariant-parameters l =
    map expression_of l.list.items ++ flat_map known_domains (map known_in (drop l.parameter-index l.parameter-items)) ≡ flat_map known_domains (map known_in l.parameter-items)
