use Rattle.std.proofs.Common.{sym, ap, ◌∙◌}
use Rattle.std.proofs.lemmas.List.{map-id}
use Rattle.std.proofs.lemmas.Iterator.Adapters.{YieldsList-from_vec}
use Rattle.std.proofs.lemmas.Iterator.Consumers.{YieldsList-end}
use Rattle.lt_tree.specs.Typing.TypedTree as e
use Rattle.lt_tree.specs.Typing.StatementTyping.{locals_before}
use Rattle.lt_unit.specs.UnitViews.{locals_of}
use Rattle.lt_unit.proofs.ItemTurns.{created_more, all_created}
use Rattle.lt_unit.proofs.items.all_created.Goals as goal

pub loop-local-preserved : goal.loop-local-preserved
loop-local-preserved c =
    λ types. created_more types c.loop-local.all.items c.push.new.self.items c.created.result c.loop-local.yielded c.in-Some.local c.in_ok-push.ensures.items (c.created.ensures types) (c.loop-local.invariant types)

pub returns : goal.returns
returns c = λ types.
    let end = YieldsList-end (YieldsList-from_vec c.args.locals.items (cc) (cc)) c.loop-local.yielded _ c.loop-local.yielded_by _ c.next.new.self c.in-None.is c.next.ensures.steps in
    all_created types c.loop-local.all.items c.loop-local.yielded (c.loop-local.invariant types) ∙ ap (λ locals. locals_before (locals_of types locals) e.no_items) (sym (map-id c.loop-local.yielded) ∙ end.0)
