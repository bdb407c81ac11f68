use Rattle.std.proofs.Common.{◌∷◌, [], ap}
use Rattle.lt_tree.specs.View.{expression_of}
use Rattle.lt_tree.specs.Typing.Steps.{◌>>=◌, gives, without_marks}
use Rattle.lt_tree.specs.Typing.Expressions.{as_value}
use Rattle.lt_tree.specs.Typing.ExpressionTyping.{expression}
use Rattle.lt_tree.specs.Typing.StatementTyping as typing
use Rattle.lt_env.specs.Views.{typed_of}
use Rattle.lt_env.proofs.Goings.{as_long}
use Rattle.lt_type.proofs.Sequences.{gives_entered, gives_then, gives_stops, gives_so, stopped}
use Rattle.lt_type.proofs.Turns.{lacks_memory}
use Rattle.lt_unit.specs.UnitViews.{labelled_of}
use Rattle.lt_unit.proofs.Lasting.{gives_it}
use Rattle.lt_unit.proofs.CaseTurns.{label_made}
use Rattle.lt_unit.proofs.cases.case_label.Goals as goal

pub returns-in_err-x : goal.returns-in_err-x
returns-in_err-x c =
    gives_entered (λ types node. without_marks (expression (expression_of c.args.e.now) as_value) >>= (λ x. typing.end_of_case node c.args.ty c.args.seen.now x >>= (λ z. gives (labelled_of (typing.case_label z ∷ []) (typing.with_case c.args.seen.now z)))))
    c.in_ok-node.ensures.entered c.in_ok-node.ensures.node (
    gives_stops _ c.in_err-x.ensures (stopped c.from_residual-in_err-x.ensures))

pub returns-in_err-z : goal.returns-in_err-z
returns-in_err-z c =
    gives_entered (λ types node. without_marks (expression (expression_of c.args.e.now) as_value) >>= (λ x. typing.end_of_case node c.args.ty c.args.seen.now x >>= (λ z. gives (labelled_of (typing.case_label z ∷ []) (typing.with_case c.args.seen.now z)))))
    c.in_ok-node.ensures.entered c.in_ok-node.ensures.node (
    gives_then _ c.in_ok-x.ensures (gives_stops _ (gives_so (λ types k. ap (λ x. typing.end_of_case c.in_ok-node.node c.args.ty c.args.seen.now (typed_of types x) k) c.deref.ensures) c.in_err-z.ensures) (stopped c.from_residual-in_err-z.ensures)))

pub returns-in_err-made : goal.returns-in_err-made
returns-in_err-made c =
    gives_entered (λ types node. without_marks (expression (expression_of c.args.e.now) as_value) >>= (λ x. typing.end_of_case node c.args.ty c.args.seen.now x >>= (λ z. gives (labelled_of (typing.case_label z ∷ []) (typing.with_case c.args.seen.now z)))))
    c.in_ok-node.ensures.entered c.in_ok-node.ensures.node (
    gives_then _ c.in_ok-x.ensures (gives_then _ (gives_so (λ types k. ap (λ x. typing.end_of_case c.in_ok-node.node c.args.ty c.args.seen.now (typed_of types x) k) c.deref.ensures) c.in_ok-z.ensures) (lacks_memory (as_long _) (stopped c.from_residual-in_err-made.ensures))))

pub returns : goal.returns
returns c =
    gives_entered (λ types node. without_marks (expression (expression_of c.args.e.now) as_value) >>= (λ x. typing.end_of_case node c.args.ty c.args.seen.now x >>= (λ z. gives (labelled_of (typing.case_label z ∷ []) (typing.with_case c.args.seen.now z)))))
    c.in_ok-node.ensures.entered c.in_ok-node.ensures.node (
    gives_then _ c.in_ok-x.ensures (gives_then _ (gives_so (λ types k. ap (λ x. typing.end_of_case c.in_ok-node.node c.args.ty c.args.seen.now (typed_of types x) k) c.deref.ensures) c.in_ok-z.ensures)
    (gives_it (λ types. labelled_of (typing.case_label c.in_ok-z.z ∷ []) (typing.with_case c.args.seen.now c.in_ok-z.z)) (λ types. label_made _ _ _ _ c.in_ok-made.ensures.label c.in_ok-made.ensures.seen))))
