use Rattle.std.proofs.Common.{◌≡◌, drop}
use Rattle.lt_tree.specs.Records.{parameter_list_in}
use Rattle.lt_objectives.specs.Tags.{tags_in_list}
use Rattle.lt_copies.specs.Blocks.{declares_all}
use Rattle.lt_copies.proofs.blocks.Blocks.declare_list.Given as goal

abbrev pub invariant-parameters : goal.invariant-parameters
invariant-parameters l = l.self ≡ declares_all (tags_in_list (parameter_list_in (drop l.at l.list))) l.initial.self
