use Rattle.std.proofs.Common.{◌≡◌, ◌++◌, map}
use Rattle.lt_tree.specs.UnitView.{label_of}
use Rattle.lt_tree.specs.Scope.{after_labels}
use Rattle.lt_expr.specs.Fronts.{after}
use Rattle.lt_expr.specs.Parsing.{rest_of, scope_of}
use Rattle.lt_decl.specs.Reading as reading
use Rattle.lt_expr.proofs.Scopes.{Within}
use Rattle.lt_decl.proofs.control.labels.Given as goal

abbrev pub decreases-more : goal.decreases-more
decreases-more l = l.depth

abbrev pub invariant-more : goal.invariant-more
invariant-more l = record {
  read : after (λ rest. map label_of l.labels.items ++ rest) (reading.labels l.depth (scope_of l.parser) (rest_of l.parser)) ≡ reading.labels l.fn.depth (scope_of l.fn.parser) (rest_of l.fn.parser);
  scope : scope_of l.parser ≡ after_labels (map label_of l.labels.items) (scope_of l.fn.parser);
  within : Within l.fn.parser l.parser;
}
