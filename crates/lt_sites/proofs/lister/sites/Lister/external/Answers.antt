use Rattle.std.proofs.Common.{refl}
use Rattle.lt_tree.specs.UnitView.{external_of}
use Rattle.lt_tree.specs.Nodes.{an_external}
use Rattle.lt_sites.specs.Listed.{entries}
use Rattle.lt_sites.proofs.Grown.{ok_then, left, no_fewer}
use Rattle.lt_sites.proofs.UnitRows.{function_node, declaration_node}
use Rattle.lt_sites.proofs.lister.sites.Lister.external.Goals as goal

pub leave-requires : goal.leave-requires
leave-requires c = no_fewer _ (entries c.args.self.now) _ _ c.in_ok-function-in-Function.ensures c.len-start.ensures

pub leave-requires-in-Declaration : goal.leave-requires-in-Declaration
leave-requires-in-Declaration c = no_fewer _ (entries c.args.self.now) _ _ c.in_ok-declaration-in-Declaration.ensures c.len-start.ensures

pub returns-in_ok-function-in-Function : goal.returns-in_ok-function-in-Function
returns-in_ok-function-in-Function c =
    let x = c.args.x.now in
    ok_then _ _ c.leave.ensures
    (left (an_external (external_of x)) _ (entries c.args.self.now) _ _ 0 (function_node x c.in-Function.function c.in-Function.is) c.in_ok-function-in-Function.ensures c.len-start.ensures refl)

pub returns-in_ok-declaration-in-Declaration : goal.returns-in_ok-declaration-in-Declaration
returns-in_ok-declaration-in-Declaration c =
    let x = c.args.x.now in
    ok_then _ _ c.leave-in-Declaration.ensures
    (left (an_external (external_of x)) _ (entries c.args.self.now) _ _ 0 (declaration_node x c.in-Declaration.declaration c.in-Declaration.is) c.in_ok-declaration-in-Declaration.ensures c.len-start.ensures refl)
