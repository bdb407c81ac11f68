use Rattle.std.proofs.Common.{◌≡◌, ◌≤◌, drop, length, map}
use Rattle.std.specs.Prelude.{option_map}
use Rattle.lt_tree.specs.Typing.EntityView.{rule_of}
use Rattle.lt_tree.specs.Typing.Rules.{least}
use Rattle.lt_env.proofs.faults.Faults.least.Given as goal

abbrev pub invariant-rules : goal.invariant-rules
invariant-rules l = record {
  left : l.left ≤ length l.self-inside.rules.items;
  known : option_map rule_of l.least ≡ least (map rule_of (drop l.left l.self-inside.rules.items));
}

abbrev pub decreases-rules : goal.decreases-rules
decreases-rules l = l.left
