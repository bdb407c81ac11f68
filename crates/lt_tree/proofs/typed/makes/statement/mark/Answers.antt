use Rattle.std.proofs.Common.{ap, ◌∙◌}
use Rattle.lt_tree.specs.declared.typed.tree.Place.TheViews as views
use Rattle.lt_tree.specs.Typing.TypedTree as e
use Rattle.lt_tree.specs.Typing.ValueView.{value_of, mark_of}
use Rattle.lt_tree.proofs.TypedRows.{bindings_are}
use Rattle.lt_tree.proofs.typed.makes.statement.mark.Goals as goal

pub returns : goal.returns
returns c = λ types.
    ap (mark_of types) (views.rolls-struct-Mark (record { predicate = c.args.predicate; id = c.args.id; bound = c.args.bound }))
    ∙ ap (e.mark (value_of types c.args.predicate.value) c.args.id) (bindings_are types c.args.bound)
