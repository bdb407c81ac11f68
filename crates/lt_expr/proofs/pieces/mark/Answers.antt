use Rattle.std.proofs.Common.{◌≡◌, rules, ap, ◌∙◌}
use Rattle.lt_tree.specs.Tree as t
use Rattle.lt_tree.specs.declared.mark.Mark.{the_lemmas, roll-Mark}
use Rattle.lt_tree.specs.declared.declarator.DeclaratorPart.TheBlock as block
use Rattle.lt_tree.specs.View.{expression_of, mark_of, bindings_of}
use Rattle.lt_expr.proofs.Rows.{bindings_are}
use Rattle.lt_expr.proofs.pieces.mark.Goals as goal

pub returns : goal.returns
returns c =
    let e : mark_of (roll-Mark (record { predicate = c.args.predicate; id = c.args.id; tag = c.args.tag; bound = c.args.bound })) ≡ t.mark (expression_of c.args.predicate) c.args.id c.args.tag (bindings_of (block.hidden-the_row-Binding-7 c.args.bound)) = search (rules, the_lemmas) in
    e ∙ ap (t.mark (expression_of c.args.predicate) c.args.id c.args.tag) (bindings_are c.args.bound)
