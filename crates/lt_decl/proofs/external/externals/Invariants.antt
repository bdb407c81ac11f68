use Rattle.std.proofs.Common.{◌≡◌, ◌++◌, map}
use Rattle.lt_tree.specs.UnitView.{external_of}
use Rattle.lt_expr.specs.Fronts.{after}
use Rattle.lt_expr.specs.Parsing.{rest_of, scope_of}
use Rattle.lt_decl.specs.Reading as reading
use Rattle.lt_decl.proofs.external.externals.Given as goal

abbrev pub decreases-more : goal.decreases-more
decreases-more l = l.depth

abbrev pub invariant-more : goal.invariant-more
invariant-more l =
    after (λ rest. map external_of l.externals.items ++ rest) (reading.externals l.depth (scope_of l.parser) (rest_of l.parser)) ≡ reading.externals l.fn.depth (scope_of l.fn.parser) (rest_of l.fn.parser)
