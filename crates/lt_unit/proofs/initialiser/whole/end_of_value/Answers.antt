use Rattle.std.proofs.Common.{[], ◌∷◌, false, ap, ◌∙◌}
use Rattle.lt_tree.specs.Typing.TypeRows.{type_in}
use Rattle.lt_tree.specs.Typing.Steps.{Goes, ◌>>◌, settle}
use Rattle.lt_tree.specs.Typing.Filling.{value_part}
use Rattle.lt_tree.specs.Typing.InitialiserTyping.{started}
use Rattle.lt_env.specs.Going.{known_of}
use Rattle.lt_env.specs.Views.{typed_of, typed_in}
use Rattle.lt_type.proofs.Sequences.{gives_then, gives_stops, gives_so, gives_made, stopped}
use Rattle.lt_type.proofs.Turns.{lacks_memory}
use Rattle.lt_unit.specs.Fillings.{whole_faults}
use Rattle.lt_unit.proofs.FillingWalks.{knows_itself, judged_then, whole_value_steps}
use Rattle.lt_unit.proofs.initialiser.whole.end_of_value.Goals as goal

pub returns-in_err-faults : goal.returns-in_err-faults
returns-in_err-faults c = lacks_memory c.whole_faults.ensures.widens.grows (stopped c.from_residual.ensures)

pub returns-in_err-settle : goal.returns-in_err-settle
returns-in_err-settle c =
    gives_so (λ types k. whole_value_steps c.args.node c.args.is_static (type_in types c.args.t) (typed_in types c.args.x) k)
    (judged_then {s0 = c.args.walker.now} (λ types known. whole_faults known c.args.is_static (type_in types c.args.t) (typed_in types c.args.x))
    (λ types faults. settle c.args.node faults >> (λ known. Goes (started false (value_part known c.args.is_static 0 (type_in types c.args.t) (typed_in types c.args.x) ∷ []) (type_in types c.args.t)) known))
    c.whole_faults.ensures.widens (λ types h. c.in_ok-faults.ensures.made types h (known_of types c.args.walker.now) (knows_itself types c.args.walker.now) ∙ ap (λ y. whole_faults (known_of types c.args.walker.now) c.args.is_static (type_in types c.args.t) (typed_of types y)) c.deref.ensures)
    (gives_stops _ c.in_err-settle.ensures.gives (stopped c.from_residual-in_err-settle.ensures)))

pub returns-in_err-part : goal.returns-in_err-part
returns-in_err-part c =
    gives_so (λ types k. whole_value_steps c.args.node c.args.is_static (type_in types c.args.t) (typed_in types c.args.x) k)
    (judged_then {s0 = c.args.walker.now} (λ types known. whole_faults known c.args.is_static (type_in types c.args.t) (typed_in types c.args.x))
    (λ types faults. settle c.args.node faults >> (λ known. Goes (started false (value_part known c.args.is_static 0 (type_in types c.args.t) (typed_in types c.args.x) ∷ []) (type_in types c.args.t)) known))
    c.whole_faults.ensures.widens (λ types h. c.in_ok-faults.ensures.made types h (known_of types c.args.walker.now) (knows_itself types c.args.walker.now) ∙ ap (λ y. whole_faults (known_of types c.args.walker.now) c.args.is_static (type_in types c.args.t) (typed_of types y)) c.deref.ensures)
    (gives_then _ c.in_ok-settle.ensures.gives (lacks_memory c.value_part.ensures.widens.grows (stopped c.from_residual-in_err-part.ensures))))

pub returns-in_err-all : goal.returns-in_err-all
returns-in_err-all c =
    gives_so (λ types k. whole_value_steps c.args.node c.args.is_static (type_in types c.args.t) (typed_in types c.args.x) k)
    (judged_then {s0 = c.args.walker.now} (λ types known. whole_faults known c.args.is_static (type_in types c.args.t) (typed_in types c.args.x))
    (λ types faults. settle c.args.node faults >> (λ known. Goes (started false (value_part known c.args.is_static 0 (type_in types c.args.t) (typed_in types c.args.x) ∷ []) (type_in types c.args.t)) known))
    c.whole_faults.ensures.widens (λ types h. c.in_ok-faults.ensures.made types h (known_of types c.args.walker.now) (knows_itself types c.args.walker.now) ∙ ap (λ y. whole_faults (known_of types c.args.walker.now) c.args.is_static (type_in types c.args.t) (typed_of types y)) c.deref.ensures)
    (gives_then _ c.in_ok-settle.ensures.gives (lacks_memory c.value_part.ensures.widens.grows (stopped c.from_residual-in_err-all.ensures))))

pub returns : goal.returns
returns c =
    gives_so (λ types k. whole_value_steps c.args.node c.args.is_static (type_in types c.args.t) (typed_in types c.args.x) k)
    (judged_then {s0 = c.args.walker.now} (λ types known. whole_faults known c.args.is_static (type_in types c.args.t) (typed_in types c.args.x))
    (λ types faults. settle c.args.node faults >> (λ known. Goes (started false (value_part known c.args.is_static 0 (type_in types c.args.t) (typed_in types c.args.x) ∷ []) (type_in types c.args.t)) known))
    c.whole_faults.ensures.widens (λ types h. c.in_ok-faults.ensures.made types h (known_of types c.args.walker.now) (knows_itself types c.args.walker.now) ∙ ap (λ y. whole_faults (known_of types c.args.walker.now) c.args.is_static (type_in types c.args.t) (typed_of types y)) c.deref.ensures)
    (gives_then _ c.in_ok-settle.ensures.gives
    (gives_made (λ types known. started false (value_part known c.args.is_static 0 (type_in types c.args.t) (typed_in types c.args.x) ∷ []) (type_in types c.args.t)) c.value_part.ensures.widens
    (λ types h.
    c.in_ok-all.ensures types
    ∙ ap (λ part. started false (part ∷ []) (type_in types c.args.t)) (c.in_ok-part.ensures.made types h (known_of types c.settle.new.self) (knows_itself types c.settle.new.self))))))
