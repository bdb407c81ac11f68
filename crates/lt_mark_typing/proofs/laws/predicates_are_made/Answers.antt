use Rattle.lt_tree.specs.Typing.Types.{is_scalar}
use Rattle.lt_mark_typing.proofs.Predicates.{negated, connected, minus, operated, chosen, integer_there, name_there, constant_there}
use Rattle.lt_mark_typing.proofs.laws.predicates_are_made.Goals as goal

pub returns : goal.returns
returns c = λ new used known test it other. (
  negated it,
  (λ op. connected op it other),
  minus it,
  (λ op. operated op it other),
  chosen test it other,
  integer_there it,
  (λ name n is_register m h t. name_there is_scalar name n is_register m h t),
  (λ text found m. constant_there text found m),
)
