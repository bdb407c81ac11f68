use Rattle.std.proofs.Common.{◌≡◌, drop}
use Rattle.lt_tree.specs.UnitView.{initialisers_in}
use Rattle.lt_tree.specs.Scope.{hiding, enumerators_in_initialisers}
use Rattle.lt_expr.specs.Parsing.{rest_of, scope_of}
use Rattle.lt_expr.proofs.Scopes.{Within}
use Rattle.lt_decl.proofs.names.+hide.Given as goal

abbrev pub invariant-hide_all-parts : goal.invariant-hide_all-parts
invariant-hide_all-parts l = record {
  left : hiding (enumerators_in_initialisers (initialisers_in (drop l.part-index l.list))) (scope_of l.parser) ≡ hiding (enumerators_in_initialisers (initialisers_in l.list)) (scope_of l.initial.parser);
  rest : rest_of l.parser ≡ rest_of l.initial.parser;
  within : Within l.initial.parser l.parser;
}
