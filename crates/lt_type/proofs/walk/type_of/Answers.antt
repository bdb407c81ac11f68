use Rattle.std.proofs.Common.{ap, ◌∙◌}
use Rattle.lt_tree.specs.Typing.Steps.{Goes, gives}
use Rattle.lt_tree.specs.Typing.Expressions.{own_type}
use Rattle.lt_env.specs.Views.{typed_of}
use Rattle.lt_type.proofs.Sequences.{gives_itself, gives_so, gives_stops, gives_then, stopped}
use Rattle.lt_type.proofs.walk.type_of.Goals as goal

pub returns-in_err-x : goal.returns-in_err-x
returns-in_err-x c = gives_stops (λ types x. gives (own_type x)) c.in_err-x.ensures (stopped c.from_residual.ensures)

pub returns : goal.returns
returns c =
    gives_then (λ types x. gives (own_type x)) c.in_ok-x.ensures
    (gives_so (λ types k. ap (λ t. Goes t k) (c.own_type.ensures types ∙ ap (λ x. own_type (typed_of types x)) c.deref.ensures)) gives_itself)
