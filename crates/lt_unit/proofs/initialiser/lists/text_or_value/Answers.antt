use Rattle.std.proofs.Common.{map, sym}
use Rattle.lt_tree.specs.View.{expression_of}
use Rattle.lt_tree.specs.Typing.StatementView.{start_part_of}
use Rattle.lt_env.specs.Going.{known_of}
use Rattle.lt_env.proofs.Goings.{as_long}
use Rattle.lt_type.proofs.Sequences.{stopped}
use Rattle.lt_type.proofs.Turns.{lacks_memory}
use Rattle.lt_unit.specs.LeftParts.{run_of, runs_of}
use Rattle.lt_unit.proofs.Lasting.{gives_here}
use Rattle.lt_unit.proofs.FillingSteps.{text_none, text_some}
use Rattle.lt_unit.proofs.FillingWalks.{knows_itself}
use Rattle.lt_unit.proofs.initialiser.lists.text_or_value.Goals as goal

pub returns-in_err-front : goal.returns-in_err-front
returns-in_err-front c = lacks_memory (as_long _) (stopped c.from_residual.ensures)

pub returns-in-None : goal.returns-in-None
returns-in-None c = gives_here (λ types h.
    let is = rw c.in-None.is at (c.in_ok-front.ensures types h (known_of types c.args.walker.now) (knows_itself types c.args.walker.now)) in
    sym (text_none c.args.node c.args.is_static (runs_of types c.args.filling.left.items) (runs_of types c.take_characters.new.left.items) (map (start_part_of types) c.args.filling.parts.items) c.args.filling.has_surplus (expression_of c.args.e.now) c.args.bytes.now (known_of types c.args.walker.now) is.0 is.1)) c.value.ensures

pub returns-in-Some : goal.returns-in-Some
returns-in-Some c = gives_here (λ types h.
    let is = rw c.in-Some.is at (c.in_ok-front.ensures types h (known_of types c.args.walker.now) (knows_itself types c.args.walker.now)) in
    sym (text_some c.args.node c.args.is_static (runs_of types c.args.filling.left.items) (runs_of types c.take_characters.new.left.items) (map (start_part_of types) c.args.filling.parts.items) c.args.filling.has_surplus (expression_of c.args.e.now) c.args.bytes.now (known_of types c.args.walker.now) (run_of types c.in-Some.part is.0) is.1 is.2)) c.fill_text.ensures
