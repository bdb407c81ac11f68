use Rattle.std.proofs.Common.{◌∷◌, [], ap, sym, subst, ◌∙◌, reverse}
use Rattle.std.proofs.lemmas.List.{reverse-append}
use Rattle.lt_tree.specs.Typing.TypeRows.{type_in}
use Rattle.lt_tree.specs.Typing.Programs.{made_of, with_new}
use Rattle.lt_unit.specs.declared.listing.Task.TheVariants as task
use Rattle.lt_unit.specs.Listing.{types_at, listed_in}
use Rattle.lt_unit.specs.Tasks.{AreDue}
use Rattle.lt_unit.proofs.Tasks.{due_first}
use Rattle.lt_unit.proofs.listing.list.Goals as goal

pub tasks-init : goal.tasks-init
tasks-init c =
    subst (λ tasks. AreDue c.args.types.now c.args.listed.now tasks (with_new (listed_in (types_at c.args.types.now) c.args.listed.now) (made_of (type_in (types_at c.args.types.now) c.args.t))))
    (sym (ap reverse c.in_ok-push.ensures.items ∙ reverse-append c.new-tasks.result.items (task.List c.args.t ∷ []) ∙ ap (λ l. task.List c.args.t ∷ reverse l) c.new-tasks.ensures.items))
    (due_first c.args.types.now c.args.listed.now c.args.t c.requires.listing)

pub tasks-preserved : goal.tasks-preserved
tasks-preserved c =
    let all = with_new (listed_in (types_at c.args.types.now) c.args.listed.now) (made_of (type_in (types_at c.args.types.now) c.args.t)) in
    c.in_ok-step.ensures all
    (subst (λ tasks. AreDue c.args.types.now c.tasks.listed tasks all)
    (ap reverse c.in-Some.ensures.items ∙ reverse-append c.pop.new.self.items (c.in-Some.task ∷ []))
    c.tasks.invariant)
