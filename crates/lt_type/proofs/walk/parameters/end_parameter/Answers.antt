use Rattle.lt_tree.specs.Typing.Steps.{◌>>=◌, gives}
use Rattle.lt_tree.specs.Typing.Declarators.{binds_parameter}
use Rattle.lt_declare.specs.DeclaredViews.{declares_of}
use Rattle.lt_type.proofs.Sequences.{gives_then, gives_stops, gives_itself, stopped}
use Rattle.lt_type.proofs.walk.parameters.end_parameter.Goals as goal

pub returns-in_err-objects : goal.returns-in_err-objects
returns-in_err-objects c =
    gives_then (λ types t. binds_parameter c.args.is_definition c.args.is_register c.args.declared.node c.args.declared.name t >>= (λ objects. gives (record { declared = declares_of types c.args.declared; objects = objects })))
    c.in_ok-t.ensures
    (gives_stops (λ types objects. gives (record { declared = declares_of types c.args.declared; objects = objects })) c.in_err-objects.ensures (stopped c.from_residual-in_err-objects.ensures))

pub returns : goal.returns
returns c =
    gives_then (λ types t. binds_parameter c.args.is_definition c.args.is_register c.args.declared.node c.args.declared.name t >>= (λ objects. gives (record { declared = declares_of types c.args.declared; objects = objects })))
    c.in_ok-t.ensures
    (gives_then (λ types objects. gives (record { declared = declares_of types c.args.declared; objects = objects })) c.in_ok-objects.ensures gives_itself)
