use Rattle.lt_tree.specs.UnitView as source
use Rattle.lt_tree.specs.Typing.Steps.{◌>>=◌, settle}
use Rattle.lt_tree.specs.Typing.DeclarationTyping.{declaration}
use Rattle.lt_type.proofs.Sequences.{gives_entered, gives_then, gives_stops, stopped}
use Rattle.lt_unit.proofs.external.outer_declaration.Goals as goal

pub returns-in_err-it : goal.returns-in_err-it
returns-in_err-it c =
    gives_entered (λ types node. declaration (source.declaration_of c.args.d.now) >>= (λ it. settle node it.faults)) c.in_ok-node.ensures.entered c.in_ok-node.ensures.node (
    gives_stops _ c.in_err-it.ensures (stopped c.from_residual-in_err-it.ensures))

pub returns : goal.returns
returns c =
    gives_entered (λ types node. declaration (source.declaration_of c.args.d.now) >>= (λ it. settle node it.faults)) c.in_ok-node.ensures.entered c.in_ok-node.ensures.node (
    gives_then _ c.in_ok-it.ensures c.settle.ensures.gives)
