use Rattle.std.proofs.Common.{ap, ◌∙◌}
use Rattle.lt_tree.specs.View.{mark_of}
use Rattle.lt_tree.specs.Typing.TypedTree as e
use Rattle.lt_tree.specs.Typing.StatementView as view
use Rattle.lt_tree.specs.Typing.ValueView as value
use Rattle.lt_tree.specs.Typing.Steps.{◌>>=◌, gives}
use Rattle.lt_tree.specs.Typing.ExpressionTyping.{mark}
use Rattle.lt_env.proofs.Goings.{as_long}
use Rattle.lt_type.proofs.Sequences.{gives_entered, gives_then, gives_stops, stopped}
use Rattle.lt_type.proofs.Turns.{lacks_memory}
use Rattle.lt_unit.proofs.Lasting.{gives_it}
use Rattle.lt_unit.proofs.items.labelled.Goals as goal

pub returns-in_err-made : goal.returns-in_err-made
returns-in_err-made c =
    gives_entered (λ types node. mark (mark_of c.args.m.now) >>= (λ m. gives (e.a_label m e.no_items)))
    c.in_ok-_node.ensures.entered c.in_ok-_node.ensures.node (
    gives_stops _ c.in_err-made.ensures (stopped c.from_residual-in_err-made.ensures))

pub returns-in_err-all : goal.returns-in_err-all
returns-in_err-all c =
    gives_entered (λ types node. mark (mark_of c.args.m.now) >>= (λ m. gives (e.a_label m e.no_items)))
    c.in_ok-_node.ensures.entered c.in_ok-_node.ensures.node (
    gives_then _ c.in_ok-made.ensures (lacks_memory (as_long _) (stopped c.from_residual-in_err-all.ensures)))

pub returns : goal.returns
returns c =
    gives_entered (λ types node. mark (mark_of c.args.m.now) >>= (λ m. gives (e.a_label m e.no_items)))
    c.in_ok-_node.ensures.entered c.in_ok-_node.ensures.node (
    gives_then _ c.in_ok-made.ensures
    (gives_it (λ types. e.a_label (value.mark_of types c.in_ok-made.made.value) e.no_items) (λ types.
    ap (view.items_in types) c.in_ok-all.ensures ∙ c.labelled.ensures types e.no_items ∙ ap (λ m. e.a_label (value.mark_of types m) e.no_items) c.into_inner.ensures)))
