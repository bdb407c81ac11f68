use Rattle.std.proofs.Common.{ℕ, Bool, map, ap, ◌∙◌}
use Rattle.lt_tree.specs.Tree.{Initialisers}
use Rattle.lt_tree.specs.UnitView.{initialisers_in}
use Rattle.lt_tree.specs.Typing.Types.{CType}
use Rattle.lt_tree.specs.Typing.TypeRows.{type_in}
use Rattle.lt_tree.specs.Typing.StatementView.{start_part_of}
use Rattle.lt_tree.specs.Typing.Steps.{Walk, ◌>>=◌, goes_on, here}
use Rattle.lt_tree.specs.Typing.Declaring.{length_faults}
use Rattle.lt_tree.specs.Typing.Filling.{filling_of}
use Rattle.lt_tree.specs.Typing.InitialiserTyping.{Started, initialisers, end_of_list}
use Rattle.lt_env.specs.Going.{known_of}
use Rattle.lt_env.proofs.Goings.{as_long}
use Rattle.lt_type.proofs.Sequences.{gives_entered, gives_then, gives_stops, stopped}
use Rattle.lt_type.proofs.Turns.{lacks_memory}
use Rattle.lt_unit.specs.Fillings.{behind_parts}
use Rattle.lt_unit.proofs.Lasting.{gives_here}
use Rattle.lt_unit.proofs.FillingWalks.{knows_itself}
use Rattle.lt_unit.proofs.initialiser.whole.in_braces.Goals as goal

abbrev braces_walk : ℕ → Bool → CType → Initialisers → Walk Started
braces_walk node is_static t list = here >>= (λ known. initialisers list is_static (filling_of known 0 t list) >>= (λ filled. end_of_list node t length_faults list filled))

pub returns-in_err-inside : goal.returns-in_err-inside
returns-in_err-inside c =
    gives_entered (λ types node. braces_walk node c.args.is_static (type_in types c.args.t) (initialisers_in c.args.list.now)) c.in_ok-node.ensures.entered c.in_ok-node.ensures.node
    (lacks_memory (as_long _) (stopped c.from_residual-in_err-inside.ensures))

pub returns-in_err-filled : goal.returns-in_err-filled
returns-in_err-filled c =
    gives_entered (λ types node. braces_walk node c.args.is_static (type_in types c.args.t) (initialisers_in c.args.list.now)) c.in_ok-node.ensures.entered c.in_ok-node.ensures.node
    (gives_here (λ types h. ap (λ f. goes_on (initialisers (initialisers_in c.args.list.now) c.args.is_static f (known_of types c.enter.new.self)) (λ filled. end_of_list c.in_ok-node.node (type_in types c.args.t) length_faults (initialisers_in c.args.list.now) filled))
    (c.in_ok-inside.ensures types h (known_of types c.enter.new.self) (knows_itself types c.enter.new.self) ∙ ap (λ l. behind_parts (map (start_part_of types) l) (filling_of (known_of types c.enter.new.self) 0 (type_in types c.args.t) (initialisers_in c.args.list.now))) c.new-none.ensures.items))
    (gives_stops (λ types filled. end_of_list c.in_ok-node.node (type_in types c.args.t) length_faults (initialisers_in c.args.list.now) filled) c.in_err-filled.ensures (stopped c.from_residual-in_err-filled.ensures)))

pub returns : goal.returns
returns c =
    gives_entered (λ types node. braces_walk node c.args.is_static (type_in types c.args.t) (initialisers_in c.args.list.now)) c.in_ok-node.ensures.entered c.in_ok-node.ensures.node
    (gives_here (λ types h. ap (λ f. goes_on (initialisers (initialisers_in c.args.list.now) c.args.is_static f (known_of types c.enter.new.self)) (λ filled. end_of_list c.in_ok-node.node (type_in types c.args.t) length_faults (initialisers_in c.args.list.now) filled))
    (c.in_ok-inside.ensures types h (known_of types c.enter.new.self) (knows_itself types c.enter.new.self) ∙ ap (λ l. behind_parts (map (start_part_of types) l) (filling_of (known_of types c.enter.new.self) 0 (type_in types c.args.t) (initialisers_in c.args.list.now))) c.new-none.ensures.items))
    (gives_then (λ types filled. end_of_list c.in_ok-node.node (type_in types c.args.t) length_faults (initialisers_in c.args.list.now) filled) c.in_ok-filled.ensures c.end_of_list.ensures))
