use Rattle.std.proofs.Common.{◌≡◌, ◌++◌}
use Rattle.lt_tree.specs.Typing.Rules.{no_type, unless}
use Rattle.lt_declare.specs.Declaring.{all_faults}
use Rattle.lt_declare.proofs.specifiers.specifier_faults.Given as goal

abbrev pub invariant-loop-naming : goal.invariant-loop-naming
invariant-loop-naming l = l.faults ++ all_faults l.naming-iterator.rest.items ≡ unless l.is_good no_type ++ all_faults l.fn.namings.items
