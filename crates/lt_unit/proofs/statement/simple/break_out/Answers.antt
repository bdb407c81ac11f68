use Rattle.std.proofs.Common.{◌||◌, ap, ◌∙◌}
use Rattle.lt_tree.specs.Typing.TypedTree as e
use Rattle.lt_tree.specs.Typing.StatementView as view
use Rattle.lt_tree.specs.Typing.Rules.{unless, stray_jump}
use Rattle.lt_tree.specs.Typing.Steps.{◌>>◌, gives, settle}
use Rattle.lt_env.proofs.Goings.{as_long}
use Rattle.lt_type.proofs.Sequences.{gives_entered, gives_then, gives_stops, stopped}
use Rattle.lt_type.proofs.Turns.{lacks_memory}
use Rattle.lt_unit.proofs.Lasting.{settled, gives_it}
use Rattle.lt_unit.proofs.statement.simple.break_out.Goals as goal

pub returns-in_err-faults : goal.returns-in_err-faults
returns-in_err-faults c =
    lacks_memory (rw c.in_ok-node.ensures.entered (as_long _)) (stopped c.from_residual-in_err-faults.ensures)

pub returns-in_err-settle : goal.returns-in_err-settle
returns-in_err-settle c =
    gives_entered (λ types node. settle node (unless (c.args.around.in_loop || c.args.around.in_switch) stray_jump) >> gives e.Break)
    c.in_ok-node.ensures.entered c.in_ok-node.ensures.node (
    gives_stops _ (settled c.in_ok-node.node (λ types. unless (c.args.around.in_loop || c.args.around.in_switch) stray_jump) (λ types h. c.in_ok-faults.ensures ∙ ap (λ b. unless b stray_jump) c.can_break-can_break.ensures) c.in_err-settle.ensures.gives) (stopped c.from_residual-in_err-settle.ensures))

pub returns-in_err-all : goal.returns-in_err-all
returns-in_err-all c =
    gives_entered (λ types node. settle node (unless (c.args.around.in_loop || c.args.around.in_switch) stray_jump) >> gives e.Break)
    c.in_ok-node.ensures.entered c.in_ok-node.ensures.node (
    gives_then _ (settled c.in_ok-node.node (λ types. unless (c.args.around.in_loop || c.args.around.in_switch) stray_jump) (λ types h. c.in_ok-faults.ensures ∙ ap (λ b. unless b stray_jump) c.can_break-can_break.ensures) c.in_ok-settle.ensures.gives)
    (lacks_memory (as_long _) (stopped c.from_residual-in_err-all.ensures)))

pub returns : goal.returns
returns c =
    gives_entered (λ types node. settle node (unless (c.args.around.in_loop || c.args.around.in_switch) stray_jump) >> gives e.Break)
    c.in_ok-node.ensures.entered c.in_ok-node.ensures.node (
    gives_then _ (settled c.in_ok-node.node (λ types. unless (c.args.around.in_loop || c.args.around.in_switch) stray_jump) (λ types h. c.in_ok-faults.ensures ∙ ap (λ b. unless b stray_jump) c.can_break-can_break.ensures) c.in_ok-settle.ensures.gives)
    (gives_it (λ types. e.Break) (λ types. ap (view.statement_of types) c.in_ok-all.ensures ∙ c.break_out.ensures types)))
