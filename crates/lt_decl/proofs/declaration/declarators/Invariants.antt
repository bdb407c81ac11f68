use Rattle.std.proofs.Common.{◌≡◌, ◌++◌, map}
use Rattle.lt_tree.specs.Records.{declarator_of}
use Rattle.lt_tree.specs.UnitView.{init_declarator_of}
use Rattle.lt_tree.specs.Scope.{after_declarators}
use Rattle.lt_expr.specs.Fronts.{after}
use Rattle.lt_expr.specs.Parsing.{rest_of, scope_of}
use Rattle.lt_decl.specs.Reading as reading
use Rattle.lt_expr.proofs.Scopes.{Within}
use Rattle.lt_decl.proofs.declaration.declarators.Given as goal

abbrev pub decreases-more : goal.decreases-more
decreases-more l = l.depth

abbrev pub invariant-more : goal.invariant-more
invariant-more l = record {
  read : after (λ rest. map init_declarator_of l.list.items ++ rest) (reading.declarators l.depth (scope_of l.parser) l.is_type (declarator_of l.declarator) (rest_of l.parser))
      ≡ reading.declarators l.fn.depth (scope_of l.fn.parser) l.is_type (declarator_of l.fn.first) (rest_of l.fn.parser);
  scope : scope_of l.parser ≡ after_declarators l.is_type (map init_declarator_of l.list.items) (scope_of l.fn.parser);
  within : Within l.fn.parser l.parser;
}
