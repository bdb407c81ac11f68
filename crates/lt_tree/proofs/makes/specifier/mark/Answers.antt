use Rattle.std.proofs.Common.{ap, ◌∙◌}
use Rattle.lt_tree.specs.declared.declarator.DeclaratorPart.TheViews as views
use Rattle.lt_tree.specs.View.{mark_of, expression_of}
use Rattle.lt_tree.specs.Tree as t
use Rattle.lt_tree.proofs.Rows.{bindings_are}
use Rattle.lt_tree.proofs.makes.specifier.mark.Goals as goal

pub returns : goal.returns
returns c =
    ap mark_of (views.rolls-struct-Mark (record { predicate = c.args.predicate; id = c.args.id; tag = c.args.tag; bound = c.args.bound }))
    ∙ ap (t.mark (expression_of c.args.predicate) c.args.id c.args.tag) (bindings_are c.args.bound)
