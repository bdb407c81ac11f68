use Rattle.std.proofs.Common.{map, sym, ap, ◌∙◌}
use Rattle.lt_tree.specs.Typing.Types.{struct_of}
use Rattle.lt_tree.specs.Typing.StatementView.{start_part_of}
use Rattle.lt_tree.specs.Typing.Expressions.{own_type}
use Rattle.lt_tree.specs.Typing.Filling.{opened, is_struct_of}
use Rattle.lt_env.specs.Going.{known_of}
use Rattle.lt_env.specs.Views.{typed_of, typed_in}
use Rattle.lt_env.proofs.Goings.{as_long}
use Rattle.lt_type.proofs.Sequences.{gives_itself, stopped}
use Rattle.lt_type.proofs.Turns.{lacks_memory}
use Rattle.lt_unit.specs.LeftParts.{run_of, runs_of}
use Rattle.lt_unit.proofs.Lasting.{gives_here}
use Rattle.lt_unit.proofs.FillingSteps.{value_none, value_some}
use Rattle.lt_unit.proofs.FillingWalks.{knows_itself}
use Rattle.lt_unit.proofs.initialiser.lists.value_or_surplus.Goals as goal

pub returns-in_err-own : goal.returns-in_err-own
returns-in_err-own c = lacks_memory (as_long _) (stopped c.from_residual.ensures)

pub returns-in_err-take_part : goal.returns-in_err-take_part
returns-in_err-take_part c = lacks_memory (as_long _) (stopped c.from_residual-in_err-take_part.ensures)

pub returns-in-None : goal.returns-in-None
returns-in-None c = gives_here (λ types h.
    let is = rw c.in-None.is at (c.in_ok-take_part.ensures types h (known_of types c.args.walker.now) (knows_itself types c.args.walker.now)) in
    let own = c.in_ok-own.ensures types h ∙ ap (λ y. struct_of (own_type (typed_of types y))) c.deref.ensures in
    sym (value_none c.args.node c.args.is_static (runs_of types c.args.filling.left.items) (runs_of types c.take_part.new.left.items) (map (start_part_of types) c.args.filling.parts.items) c.args.filling.has_surplus (typed_in types c.args.x) (known_of types c.args.walker.now)
    (ap (λ n. opened (known_of types c.args.walker.now) (is_struct_of n) (runs_of types c.args.filling.left.items)) (sym own) ∙ is.0) is.1)) gives_itself

pub returns-in-Some : goal.returns-in-Some
returns-in-Some c = gives_here (λ types h.
    let is = rw c.in-Some.is at (c.in_ok-take_part.ensures types h (known_of types c.args.walker.now) (knows_itself types c.args.walker.now)) in
    let own = c.in_ok-own.ensures types h ∙ ap (λ y. struct_of (own_type (typed_of types y))) c.deref.ensures in
    sym (value_some c.args.node c.args.is_static (runs_of types c.args.filling.left.items) (runs_of types c.take_part.new.left.items) (map (start_part_of types) c.args.filling.parts.items) c.args.filling.has_surplus (typed_in types c.args.x) (known_of types c.args.walker.now)
    (run_of types c.in-Some.part is.0) (ap (λ n. opened (known_of types c.args.walker.now) (is_struct_of n) (runs_of types c.args.filling.left.items)) (sym own) ∙ is.1))) c.fill_value.ensures
