use Rattle.std.proofs.Common.{◌++◌, ap, refl, map, arith, length}
use Rattle.lt_tree.specs.Typing.EntityView as view
use Rattle.lt_tree.specs.Typing.EntityView.{entity_of}
use Rattle.lt_env.specs.ScopeFrames.{names_of}
use Rattle.lt_env.proofs.ScopeFrames.{one_listed, all_listed}
use Rattle.lt_env.proofs.symbols.names.bounds.Goals as goal

pub names-init : goal.names-init
names-init c = λ types. ap (λ l. map (view.bound_of types) l ++ names_of (entity_of types) c.args.names) c.new-list.ensures.items

pub names-smaller : goal.names-smaller
names-smaller c = let longer = ap length c.in-Some.ensures.latest in omega arith

pub names-preserved : goal.names-preserved
names-preserved c = λ types.
    one_listed (view.bound_of types) _ _ _ c.names.list.items c.push.new.self.items c.names.names c.pop.new.self c.args.names c.in_ok-push.ensures.items c.in-Some.ensures.latest refl (c.names.invariant types)

pub returns : goal.returns
returns c = λ types. all_listed (view.bound_of types) _ c.names.list.items c.names.names c.args.names c.in_default.ensures.none (c.names.invariant types)
