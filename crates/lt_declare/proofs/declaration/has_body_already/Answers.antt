use Rattle.std.proofs.Common.{Some, sym, ap, ◌∙◌}
use Rattle.lt_env.specs.Going.{known_of}
use Rattle.lt_tree.specs.Typing.Declaring as declaring
use Rattle.lt_declare.proofs.DeclarationParts.{body_same}
use Rattle.lt_declare.proofs.declaration.has_body_already.Goals as goal

pub returns-in-Some : goal.returns-in-Some
returns-in-Some c = λ types.
    let known = known_of types c.args.walker.now in
    c.has.ensures ∙ body_same types c.as_slice.result.now c.args.walker.now.functions ∙ ap (λ w. declaring.has_body_already known (Some w)) c.as_slice.ensures
    ∙ ap (declaring.has_body_already known) (sym c.in-Some.is)
