use Rattle.std.proofs.Common.{◌∙◌}
use Rattle.lt_expr.proofs.Scopes.{within_hides}
use Rattle.lt_decl.proofs.NameRows.{parameters_left}
use Rattle.lt_decl.proofs.names.declare_list.Goals as goal

pub parameters-preserved : goal.parameters-preserved
parameters-preserved c =
    let one = c.in_ok-declare_parameter.ensures in
    record {
      left = parameters_left c.args.list.now c.parameters.parameter-index c.parameter-item.result _ _ _ c.parameters-test.true c.parameter-item.is one.scope c.parameters.invariant.left;
      rest = one.rest ∙ c.parameters.invariant.rest;
      within = within_hides _ _ _ _ c.parameters.invariant.within one;
    }
