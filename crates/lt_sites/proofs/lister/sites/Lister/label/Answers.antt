use Rattle.std.proofs.Common.{refl, sym}
use Rattle.lt_tree.specs.UnitView.{label_of}
use Rattle.lt_tree.specs.Nodes.{a_label}
use Rattle.lt_sites.specs.Listed.{entries}
use Rattle.lt_sites.proofs.Grown.{ok_then, left, listed_none, no_fewer}
use Rattle.lt_sites.proofs.UnitRows.{case_node, default_node}
use Rattle.lt_sites.proofs.lister.sites.Lister.label.Goals as goal

pub leave-requires : goal.leave-requires
leave-requires c = no_fewer _ (entries c.args.self.now) _ _ c.in_ok-expression-in-Case.ensures c.len-start.ensures

pub returns-in_ok-expression-in-Case : goal.returns-in_ok-expression-in-Case
returns-in_ok-expression-in-Case c =
    let l = c.args.label.now in
    ok_then _ _ c.leave.ensures
    (left (a_label (label_of l)) _ (entries c.args.self.now) _ _ 0 (case_node l c.in-Case.value c.in-Case.is) c.in_ok-expression-in-Case.ensures c.len-start.ensures refl)

pub returns-in-Default : goal.returns-in-Default
returns-in-Default c =
    let l = c.args.label.now in
    ok_then _ _ c.leave-in-Default.ensures
    (left (a_label (label_of l)) _ (entries c.args.self.now) _ _ 0 (default_node l c.in-Default.is) (sym (listed_none (entries c.args.self.now))) c.len-start.ensures refl)
