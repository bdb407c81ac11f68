use Rattle.std.proofs.Common.{◌++◌, ap, refl, map, arith, length}
use Rattle.lt_tree.specs.Typing.EntityView as view
use Rattle.lt_tree.specs.Typing.EntityView.{tagged_of}
use Rattle.lt_env.specs.ScopeFrames.{tags_of}
use Rattle.lt_env.proofs.ScopeFrames.{one_listed, all_listed}
use Rattle.lt_env.proofs.symbols.names.tags.Goals as goal

pub tags-init : goal.tags-init
tags-init c = ap (λ l. map view.tag_of l ++ tags_of tagged_of c.args.tags) c.new-list.ensures.items

pub tags-smaller : goal.tags-smaller
tags-smaller c = let longer = ap length c.in-Some.ensures.latest in omega arith

pub tags-preserved : goal.tags-preserved
tags-preserved c =
    one_listed view.tag_of _ _ _ c.tags.list.items c.push.new.self.items c.tags.tags c.pop.new.self c.args.tags c.in_ok-push.ensures.items c.in-Some.ensures.latest refl c.tags.invariant

pub returns : goal.returns
returns c = all_listed view.tag_of _ c.tags.list.items c.tags.tags c.args.tags c.in_default.ensures.none c.tags.invariant
