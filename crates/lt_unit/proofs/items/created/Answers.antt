use Rattle.lt_tree.specs.UnitView as source
use Rattle.lt_tree.specs.Typing.TypedTree as e
use Rattle.lt_tree.specs.Typing.Steps.{◌>>=◌, ◌>>◌, gives, settle}
use Rattle.lt_tree.specs.Typing.DeclarationTyping.{declaration}
use Rattle.lt_tree.specs.Typing.StatementTyping as typing
use Rattle.lt_env.proofs.Goings.{as_long}
use Rattle.lt_type.proofs.Sequences.{gives_entered, gives_then, gives_stops, gives_so, stopped}
use Rattle.lt_type.proofs.Turns.{lacks_memory}
use Rattle.lt_unit.specs.UnitViews.{locals_of}
use Rattle.lt_unit.proofs.Lasting.{gives_it}
use Rattle.lt_unit.proofs.ItemTurns.{created_walk}
use Rattle.lt_unit.proofs.items.created.Goals as goal

pub returns-in_err-it : goal.returns-in_err-it
returns-in_err-it c =
    gives_so (λ types k. created_walk (source.declaration_of c.args.d.now) k) (gives_entered (λ types node. declaration (source.declaration_of c.args.d.now) >>= (λ it. settle node it.faults >> gives (typing.locals_before it.locals e.no_items)))
    c.in_ok-node.ensures.entered c.in_ok-node.ensures.node (
    gives_stops _ c.in_err-it.ensures (stopped c.from_residual-in_err-it.ensures)))

pub returns-in_err-settle : goal.returns-in_err-settle
returns-in_err-settle c =
    gives_so (λ types k. created_walk (source.declaration_of c.args.d.now) k) (gives_entered (λ types node. declaration (source.declaration_of c.args.d.now) >>= (λ it. settle node it.faults >> gives (typing.locals_before it.locals e.no_items)))
    c.in_ok-node.ensures.entered c.in_ok-node.ensures.node (
    gives_then _ c.in_ok-it.ensures (gives_stops _ c.in_err-settle.ensures.gives (stopped c.from_residual-in_err-settle.ensures))))

pub returns-in_err-all : goal.returns-in_err-all
returns-in_err-all c =
    gives_so (λ types k. created_walk (source.declaration_of c.args.d.now) k) (gives_entered (λ types node. declaration (source.declaration_of c.args.d.now) >>= (λ it. settle node it.faults >> gives (typing.locals_before it.locals e.no_items)))
    c.in_ok-node.ensures.entered c.in_ok-node.ensures.node (
    gives_then _ c.in_ok-it.ensures (gives_then _ c.in_ok-settle.ensures.gives (lacks_memory (as_long _) (stopped c.from_residual-in_err-all.ensures)))))

pub returns : goal.returns
returns c =
    gives_so (λ types k. created_walk (source.declaration_of c.args.d.now) k) (gives_entered (λ types node. declaration (source.declaration_of c.args.d.now) >>= (λ it. settle node it.faults >> gives (typing.locals_before it.locals e.no_items)))
    c.in_ok-node.ensures.entered c.in_ok-node.ensures.node (
    gives_then _ c.in_ok-it.ensures (gives_then _ c.in_ok-settle.ensures.gives
    (gives_it (λ types. typing.locals_before (locals_of types c.in_ok-it.it.locals.items) e.no_items) c.in_ok-all.ensures))))
