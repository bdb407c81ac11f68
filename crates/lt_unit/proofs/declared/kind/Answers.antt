use Rattle.std.proofs.Common.{refl}
use Rattle.lt_tree.specs.Typing.TypeRows.{type_in}
use Rattle.lt_tree.specs.Typing.Declaring as typing
use Rattle.lt_env.proofs.Goings.{as_long}
use Rattle.lt_type.proofs.Turns.{lacks_memory}
use Rattle.lt_env.proofs.Judgements.{judged, widens_none}
use Rattle.lt_unit.proofs.declared.kind.Goals as goal

pub returns-in-Some : goal.returns-in-Some
returns-in-Some c = judged {f = λ types known. typing.kind_of known c.args.class (type_in types c.args.t)} widens_none (λ types more. c.in-Some.ensures.kind types more)

pub returns-in-None : goal.returns-in-None
returns-in-None c = lacks_memory (as_long _) refl
