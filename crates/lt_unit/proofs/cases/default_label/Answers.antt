use Rattle.std.proofs.Common.{◌∷◌, [], true, not, ap, ◌∙◌}
use Rattle.lt_tree.specs.Typing.TypedTree as e
use Rattle.lt_tree.specs.Typing.Rules.{broken_if, unless, bad_case}
use Rattle.lt_tree.specs.Typing.Steps.{◌>>◌, gives, settle}
use Rattle.lt_env.proofs.Goings.{as_long}
use Rattle.lt_type.proofs.Sequences.{gives_entered, gives_then, gives_stops, stopped}
use Rattle.lt_type.proofs.Turns.{lacks_memory}
use Rattle.lt_unit.specs.UnitViews.{labelled_of}
use Rattle.lt_unit.proofs.CaseTurns.{unless_not}
use Rattle.lt_unit.proofs.Lasting.{settled, gives_it}
use Rattle.lt_unit.proofs.cases.default_label.Goals as goal

pub returns-in_err-faults : goal.returns-in_err-faults
returns-in_err-faults c = λ ty.
    lacks_memory (rw c.in_ok-node.ensures.entered (as_long _)) (stopped c.from_residual-in_err-faults.ensures)

pub returns-in_err-settle : goal.returns-in_err-settle
returns-in_err-settle c = λ ty.
    gives_entered (λ types node. settle node (broken_if bad_case c.args.seen.now.has_default) >> gives (labelled_of (e.Default ∷ []) (record c.args.seen.now { has_default = true })))
    c.in_ok-node.ensures.entered c.in_ok-node.ensures.node (
    gives_stops _ (settled c.in_ok-node.node (λ types. broken_if bad_case c.args.seen.now.has_default) (λ types h. c.in_ok-faults.ensures ∙ ap (λ there. unless (not there) bad_case) c.has_default-is_first.ensures ∙ unless_not bad_case c.args.seen.now.has_default) c.in_err-settle.ensures.gives) (stopped c.from_residual-in_err-settle.ensures))

pub returns : goal.returns
returns c = λ ty.
    gives_entered (λ types node. settle node (broken_if bad_case c.args.seen.now.has_default) >> gives (labelled_of (e.Default ∷ []) (record c.args.seen.now { has_default = true })))
    c.in_ok-node.ensures.entered c.in_ok-node.ensures.node (
    gives_then _ (settled c.in_ok-node.node (λ types. broken_if bad_case c.args.seen.now.has_default) (λ types h. c.in_ok-faults.ensures ∙ ap (λ there. unless (not there) bad_case) c.has_default-is_first.ensures ∙ unless_not bad_case c.args.seen.now.has_default) c.in_ok-settle.ensures.gives)
    (gives_it (λ types. (labelled_of (e.Default ∷ []) (record c.args.seen.now { has_default = true }))) (λ types. ap (labelled_of (e.Default ∷ [])) c.add_default.ensures)))
