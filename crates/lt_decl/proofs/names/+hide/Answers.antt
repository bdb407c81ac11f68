use Rattle.std.proofs.Common.{◌∙◌}
use Rattle.lt_expr.proofs.Scopes.{within_hides}
use Rattle.lt_decl.proofs.NameRows.{initialisers_left, hides_same, braces_hidden}
use Rattle.lt_decl.proofs.names.+hide.Goals as goal

pub hide_all-parts-preserved : goal.hide_all-parts-preserved
hide_all-parts-preserved t c =
    let one = c.in_ok-hide_given.ensures in
    record {
      left = initialisers_left c.args.list.now c.parts.part-index c.part-item.result _ _ _ c.parts-test.true c.part-item.is one.scope c.parts.invariant.left;
      rest = one.rest ∙ c.parts.invariant.rest;
      within = within_hides _ _ _ _ c.parts.invariant.within one;
    }

pub hide_given-returns-in-List : goal.hide_given-returns-in-List
hide_given-returns-in-List t c = hides_same _ _ _ _ _ (braces_hidden c.args.initialiser.now c.in-List.parts _ _ c.in-List.is c.as_slice.ensures.value) c.hide_all.ensures
