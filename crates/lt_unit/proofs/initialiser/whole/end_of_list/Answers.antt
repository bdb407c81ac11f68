use Rattle.std.proofs.Common.{◌++◌, true, refl, sym, ap, subst, ◌∙◌}
use Rattle.lt_tree.specs.UnitView.{initialisers_in}
use Rattle.lt_tree.specs.Typing.TypeRows.{type_in}
use Rattle.lt_tree.specs.Typing.Steps.{Goes, ◌>>◌, settle}
use Rattle.lt_tree.specs.Typing.Declaring.{length_faults}
use Rattle.lt_tree.specs.Typing.Filling.{list_faults}
use Rattle.lt_tree.specs.Typing.InitialiserTyping.{with_length, listed_length, started}
use Rattle.lt_env.specs.Going.{known_of}
use Rattle.lt_env.proofs.Goings.{as_long}
use Rattle.lt_type.proofs.Sequences.{gives_then, gives_stops, gives_so, gives_made, stopped}
use Rattle.lt_type.proofs.Turns.{lacks_memory}
use Rattle.lt_unit.specs.LeftParts.{Knows, runs_of}
use Rattle.lt_unit.specs.Fillings.{filling_in}
use Rattle.lt_env.proofs.Judgements.{stays_on, widens_none}
use Rattle.lt_unit.proofs.FillingWalks.{knows_itself, knows_on, knows_back, judged_then, list_end_steps}
use Rattle.lt_unit.proofs.initialiser.whole.end_of_list.Goals as goal

pub returns-in_err-length : goal.returns-in_err-length
returns-in_err-length c = lacks_memory (as_long _) (stopped c.from_residual.ensures)

pub returns-in_err-ty : goal.returns-in_err-ty
returns-in_err-ty c = lacks_memory c.with_length.ensures.widens.grows (stopped c.from_residual-in_err-ty.ensures)

pub returns-in_err-faults : goal.returns-in_err-faults
returns-in_err-faults c = lacks_memory c.with_length.ensures.widens.grows (stopped c.from_residual-in_err-faults.ensures)

pub returns-in_err-settle : goal.returns-in_err-settle
returns-in_err-settle c =
    gives_so (λ types k. list_end_steps c.args.node (type_in types c.args.t) (initialisers_in c.args.list.now) (filling_in types c.args.filled) k)
    (judged_then {s0 = c.args.walker.now} (λ types known. list_faults (type_in types c.args.t) (initialisers_in c.args.list.now) (filling_in types c.args.filled) ++ length_faults known (with_length (type_in types c.args.t) (listed_length known (type_in types c.args.t) (initialisers_in c.args.list.now) (filling_in types c.args.filled))))
    (λ types faults. settle c.args.node faults >> (λ known. Goes (started true (filling_in types c.args.filled).parts (with_length (type_in types c.args.t) (listed_length known (type_in types c.args.t) (initialisers_in c.args.list.now) (filling_in types c.args.filled)))) known))
    c.with_length.ensures.widens
    (λ types h.
    c.in_ok-faults.ensures types h (known_of types c.args.walker.now) (knows_on c.with_length.ensures.widens (knows_itself types c.args.walker.now)) (filling_in types c.args.filled) refl
    ∙ ap (λ t. list_faults (type_in types c.args.t) (initialisers_in c.args.list.now) (filling_in types c.args.filled) ++ length_faults (known_of types c.args.walker.now) t)
    (c.in_ok-ty.ensures.made types h
    ∙ ap (with_length (type_in types c.args.t)) (stays_on c.with_length.ensures.widens c.in_ok-length.ensures types h (known_of types c.args.walker.now) (knows_itself types c.args.walker.now) (filling_in types c.args.filled) (ap (runs_of types) (sym c.as_slice.ensures.value)))))
    (gives_stops _ c.in_err-settle.ensures.gives (stopped c.from_residual-in_err-settle.ensures)))

pub returns : goal.returns
returns c =
    gives_so (λ types k. list_end_steps c.args.node (type_in types c.args.t) (initialisers_in c.args.list.now) (filling_in types c.args.filled) k)
    (judged_then {s0 = c.args.walker.now} (λ types known. list_faults (type_in types c.args.t) (initialisers_in c.args.list.now) (filling_in types c.args.filled) ++ length_faults known (with_length (type_in types c.args.t) (listed_length known (type_in types c.args.t) (initialisers_in c.args.list.now) (filling_in types c.args.filled))))
    (λ types faults. settle c.args.node faults >> (λ known. Goes (started true (filling_in types c.args.filled).parts (with_length (type_in types c.args.t) (listed_length known (type_in types c.args.t) (initialisers_in c.args.list.now) (filling_in types c.args.filled)))) known))
    c.with_length.ensures.widens
    (λ types h.
    c.in_ok-faults.ensures types h (known_of types c.args.walker.now) (knows_on c.with_length.ensures.widens (knows_itself types c.args.walker.now)) (filling_in types c.args.filled) refl
    ∙ ap (λ t. list_faults (type_in types c.args.t) (initialisers_in c.args.list.now) (filling_in types c.args.filled) ++ length_faults (known_of types c.args.walker.now) t)
    (c.in_ok-ty.ensures.made types h
    ∙ ap (with_length (type_in types c.args.t)) (stays_on c.with_length.ensures.widens c.in_ok-length.ensures types h (known_of types c.args.walker.now) (knows_itself types c.args.walker.now) (filling_in types c.args.filled) (ap (runs_of types) (sym c.as_slice.ensures.value)))))
    (gives_then _ c.in_ok-settle.ensures.gives
    (gives_made (λ types known. started true (filling_in types c.args.filled).parts (with_length (type_in types c.args.t) (listed_length known (type_in types c.args.t) (initialisers_in c.args.list.now) (filling_in types c.args.filled)))) widens_none
    (λ types h.
    let more = rw c.in_ok-settle.ensures.same at h in
    c.started.ensures types
    ∙ ap (λ t. started true (filling_in types c.args.filled).parts t)
    (c.in_ok-ty.ensures.made types more
    ∙ ap (with_length (type_in types c.args.t)) (stays_on c.with_length.ensures.widens c.in_ok-length.ensures types more (known_of types c.settle.new.self) (knows_back c.with_length.ensures.widens (subst (λ w. Knows (known_of types c.settle.new.self) types w.types) c.in_ok-settle.ensures.same (knows_itself types c.settle.new.self))) (filling_in types c.args.filled) (ap (runs_of types) (sym c.as_slice.ensures.value))))))))
