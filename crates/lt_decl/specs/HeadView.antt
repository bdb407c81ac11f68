-- What stands in the parentheses of a `for`, of the code.
use Rattle.std.specs.Prelude.{option_map}
use Rattle.lt_tree.specs.View.{expression_of}
use Rattle.lt_tree.specs.UnitView.{start_of}
use Rattle.lt_decl.specs.declared.control.ForHead.{ForHead}
use Rattle.lt_decl.specs.Singles.{Head}

abbrev pub head_of : ForHead → Head
head_of h = record { start = start_of h.start; test = option_map expression_of h.test; step = option_map expression_of h.step }
