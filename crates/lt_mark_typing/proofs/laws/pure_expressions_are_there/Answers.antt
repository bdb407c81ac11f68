use Rattle.lt_mark_typing.proofs.Quiet.{pure_there}
use Rattle.lt_mark_typing.proofs.laws.pure_expressions_are_there.Goals as goal

pub returns : goal.returns
returns c = λ new used known test it x next facts more p h f q t. pure_there test known it x next facts more p h q t
