use Rattle.std.proofs.Common.{sym, ap}
use Rattle.lt_tree.specs.UnitView.{initialiser_of}
use Rattle.lt_tree.specs.Typing.InitialiserTyping as typing
use Rattle.lt_type.proofs.Sequences.{gives_so}
use Rattle.lt_unit.proofs.FillingSteps.{braces_seen}
use Rattle.lt_unit.proofs.initialiser.of_no_object.Goals as goal

pub returns-in-Expression : goal.returns-in-Expression
returns-in-Expression c = gives_so (λ types k. ap (λ i. typing.initialiser_of_none (initialiser_of i) k) (sym c.in-Expression.is)) c.value_of_no_object.ensures

pub returns-in-List : goal.returns-in-List
returns-in-List c = gives_so (λ types k. ap (λ i. typing.initialiser_of_none i k) (braces_seen c.args.i.now _ _ c.in-List.is c.as_slice.ensures.value)) c.list_of_no_object.ensures
