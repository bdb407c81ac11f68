use Rattle.std.proofs.Common.{◌≡◌, drop}
use Rattle.lt_tree.specs.Records.{parameter_list_in}
use Rattle.lt_tree.specs.Scope.{after_list}
use Rattle.lt_expr.specs.Parsing.{rest_of, scope_of}
use Rattle.lt_expr.proofs.Scopes.{Within}
use Rattle.lt_decl.proofs.names.declare_list.Given as goal

abbrev pub invariant-parameters : goal.invariant-parameters
invariant-parameters l = record {
  left : after_list (parameter_list_in (drop l.parameter-index l.list)) (scope_of l.parser) ≡ after_list (parameter_list_in l.list) (scope_of l.initial.parser);
  rest : rest_of l.parser ≡ rest_of l.initial.parser;
  within : Within l.initial.parser l.parser;
}
