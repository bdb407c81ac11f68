use Rattle.std.proofs.Common.{ap, ◌∙◌}
use Rattle.lt_tree.specs.Typing.Rules.{unless, bad_case}
use Rattle.lt_tree.specs.Typing.Steps.{goes_on, gives, settle}
use Rattle.lt_tree.specs.Typing.StatementTyping as typing
use Rattle.lt_env.specs.Going.{known_of}
use Rattle.lt_env.proofs.Goings.{as_long}
use Rattle.lt_type.proofs.Sequences.{gives_then, gives_stops, gives_itself, stopped}
use Rattle.lt_type.proofs.Turns.{lacks_memory}
use Rattle.lt_unit.proofs.Lasting.{gives_here}
use Rattle.lt_unit.proofs.cases.end_of_case.Goals as goal

pub returns-in_err-z : goal.returns-in_err-z
returns-in_err-z c =
    lacks_memory (as_long _) (stopped c.from_residual.ensures)

pub returns-in_err-faults : goal.returns-in_err-faults
returns-in_err-faults c =
    lacks_memory (as_long _) (stopped c.from_residual-in_err-faults.ensures)

pub returns-in_err-settle : goal.returns-in_err-settle
returns-in_err-settle c =
    gives_here (λ types h.
    ap (λ l. goes_on (settle c.args.node l (known_of types c.args.walker.now)) (λ u. gives c.in_ok-z.z)) (c.in_ok-faults.ensures ∙ ap (λ b. unless b bad_case) c.is_new_case-is_new.ensures)
    ∙ ap (λ z. goes_on (settle c.args.node (unless (typing.is_new_case c.args.seen.now z) bad_case) (known_of types c.args.walker.now)) (λ u. gives z)) (c.in_ok-z.ensures types h)) (gives_stops (λ types u. gives c.in_ok-z.z) c.in_err-settle.ensures.gives (stopped c.from_residual-in_err-settle.ensures))

pub returns : goal.returns
returns c =
    gives_here (λ types h.
    ap (λ l. goes_on (settle c.args.node l (known_of types c.args.walker.now)) (λ u. gives c.in_ok-z.z)) (c.in_ok-faults.ensures ∙ ap (λ b. unless b bad_case) c.is_new_case-is_new.ensures)
    ∙ ap (λ z. goes_on (settle c.args.node (unless (typing.is_new_case c.args.seen.now z) bad_case) (known_of types c.args.walker.now)) (λ u. gives z)) (c.in_ok-z.ensures types h)) (gives_then (λ types u. gives c.in_ok-z.z) c.in_ok-settle.ensures.gives gives_itself)
