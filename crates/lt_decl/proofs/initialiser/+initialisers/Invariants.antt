use Rattle.std.proofs.Common.{◌≡◌, ◌≤◌}
use Rattle.lt_tree.specs.UnitView.{initialisers_in}
use Rattle.lt_expr.specs.Fronts.{after}
use Rattle.lt_expr.specs.Parsing.{rest_of, scope_of, GoesOn}
use Rattle.lt_decl.specs.Reading as reading
use Rattle.lt_decl.proofs.Fronts.{initialisers_before}
use Rattle.lt_decl.proofs.initialiser.+initialisers.Given as goal

abbrev pub decreases-initialiser : goal.decreases-initialiser
decreases-initialiser l = l.depth

abbrev pub decreases-initialisers : goal.decreases-initialisers
decreases-initialisers l = l.depth

abbrev pub decreases-initialisers-more : goal.decreases-initialisers-more
decreases-initialisers-more l = l.depth

abbrev pub invariant-initialisers-more : goal.invariant-initialisers-more
invariant-initialisers-more l = record {
  read : after (initialisers_before (initialisers_in l.parts.items)) (reading.initialisers l.depth (scope_of l.parser) (rest_of l.parser)) ≡ reading.initialisers l.fn.depth (scope_of l.fn.parser) (rest_of l.fn.parser);
  within : l.depth ≤ l.fn.depth;
  on : GoesOn l.fn.parser l.parser;
}
