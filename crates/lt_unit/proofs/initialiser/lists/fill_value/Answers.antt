use Rattle.std.proofs.Common.{ap, ◌∙◌}
use Rattle.lt_tree.specs.Typing.TypeRows.{type_in}
use Rattle.lt_tree.specs.Typing.Steps.{Goes, ◌>>◌, settle}
use Rattle.lt_tree.specs.Typing.Filling.{value_faults, value_part}
use Rattle.lt_env.specs.Going.{known_of}
use Rattle.lt_env.specs.Views.{typed_of, typed_in}
use Rattle.lt_type.proofs.Sequences.{gives_then, gives_stops, gives_so, gives_made, stopped}
use Rattle.lt_type.proofs.Turns.{lacks_memory}
use Rattle.lt_unit.specs.Fillings.{filling_in, with_part}
use Rattle.lt_unit.proofs.FillingWalks.{knows_itself, judged_then, value_steps}
use Rattle.lt_unit.proofs.initialiser.lists.fill_value.Goals as goal

pub returns-in_err-faults : goal.returns-in_err-faults
returns-in_err-faults c = lacks_memory c.value_faults.ensures.widens.grows (stopped c.from_residual.ensures)

pub returns-in_err-settle : goal.returns-in_err-settle
returns-in_err-settle c =
    gives_so (λ types k. value_steps c.args.node c.args.is_static (filling_in types c.args.filling) c.args.part.offset (type_in types c.args.part.ty) (typed_in types c.args.x) k)
    (judged_then {s0 = c.args.walker.now} (λ types known. value_faults known c.args.is_static (type_in types c.args.part.ty) (typed_in types c.args.x))
    (λ types faults. settle c.args.node faults >> (λ known. Goes (with_part (value_part known c.args.is_static c.args.part.offset (type_in types c.args.part.ty) (typed_in types c.args.x)) (filling_in types c.args.filling)) known))
    c.value_faults.ensures.widens (λ types h. c.in_ok-faults.ensures.made types h (known_of types c.args.walker.now) (knows_itself types c.args.walker.now) ∙ ap (λ y. value_faults (known_of types c.args.walker.now) c.args.is_static (type_in types c.args.part.ty) (typed_of types y)) c.deref.ensures)
    (gives_stops _ c.in_err-settle.ensures.gives (stopped c.from_residual-in_err-settle.ensures)))

pub returns-in_err-made : goal.returns-in_err-made
returns-in_err-made c =
    gives_so (λ types k. value_steps c.args.node c.args.is_static (filling_in types c.args.filling) c.args.part.offset (type_in types c.args.part.ty) (typed_in types c.args.x) k)
    (judged_then {s0 = c.args.walker.now} (λ types known. value_faults known c.args.is_static (type_in types c.args.part.ty) (typed_in types c.args.x))
    (λ types faults. settle c.args.node faults >> (λ known. Goes (with_part (value_part known c.args.is_static c.args.part.offset (type_in types c.args.part.ty) (typed_in types c.args.x)) (filling_in types c.args.filling)) known))
    c.value_faults.ensures.widens (λ types h. c.in_ok-faults.ensures.made types h (known_of types c.args.walker.now) (knows_itself types c.args.walker.now) ∙ ap (λ y. value_faults (known_of types c.args.walker.now) c.args.is_static (type_in types c.args.part.ty) (typed_of types y)) c.deref.ensures)
    (gives_then _ c.in_ok-settle.ensures.gives (lacks_memory c.value_part.ensures.widens.grows (stopped c.from_residual-in_err-made.ensures))))

pub returns-in_err-with_part : goal.returns-in_err-with_part
returns-in_err-with_part c =
    gives_so (λ types k. value_steps c.args.node c.args.is_static (filling_in types c.args.filling) c.args.part.offset (type_in types c.args.part.ty) (typed_in types c.args.x) k)
    (judged_then {s0 = c.args.walker.now} (λ types known. value_faults known c.args.is_static (type_in types c.args.part.ty) (typed_in types c.args.x))
    (λ types faults. settle c.args.node faults >> (λ known. Goes (with_part (value_part known c.args.is_static c.args.part.offset (type_in types c.args.part.ty) (typed_in types c.args.x)) (filling_in types c.args.filling)) known))
    c.value_faults.ensures.widens (λ types h. c.in_ok-faults.ensures.made types h (known_of types c.args.walker.now) (knows_itself types c.args.walker.now) ∙ ap (λ y. value_faults (known_of types c.args.walker.now) c.args.is_static (type_in types c.args.part.ty) (typed_of types y)) c.deref.ensures)
    (gives_then _ c.in_ok-settle.ensures.gives (lacks_memory c.value_part.ensures.widens.grows (stopped c.from_residual-in_err-with_part.ensures))))

pub returns : goal.returns
returns c =
    gives_so (λ types k. value_steps c.args.node c.args.is_static (filling_in types c.args.filling) c.args.part.offset (type_in types c.args.part.ty) (typed_in types c.args.x) k)
    (judged_then {s0 = c.args.walker.now} (λ types known. value_faults known c.args.is_static (type_in types c.args.part.ty) (typed_in types c.args.x))
    (λ types faults. settle c.args.node faults >> (λ known. Goes (with_part (value_part known c.args.is_static c.args.part.offset (type_in types c.args.part.ty) (typed_in types c.args.x)) (filling_in types c.args.filling)) known))
    c.value_faults.ensures.widens (λ types h. c.in_ok-faults.ensures.made types h (known_of types c.args.walker.now) (knows_itself types c.args.walker.now) ∙ ap (λ y. value_faults (known_of types c.args.walker.now) c.args.is_static (type_in types c.args.part.ty) (typed_of types y)) c.deref.ensures)
    (gives_then _ c.in_ok-settle.ensures.gives
    (gives_made (λ types known. with_part (value_part known c.args.is_static c.args.part.offset (type_in types c.args.part.ty) (typed_in types c.args.x)) (filling_in types c.args.filling)) c.value_part.ensures.widens
    (λ types h.
    c.in_ok-with_part.ensures types
    ∙ ap (λ part. with_part part (filling_in types c.args.filling)) (c.in_ok-made.ensures.made types h (known_of types c.settle.new.self) (knows_itself types c.settle.new.self))))))
