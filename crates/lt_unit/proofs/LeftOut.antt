-- Expressions that may be left out are gone over as what they are for.
use Rattle.std.proofs.Common.{◌≡◌, Option, Some, None, refl}
use Rattle.lt_tree.specs.Tree as c
use Rattle.lt_tree.specs.Typing.Entities.{Known}
use Rattle.lt_tree.specs.Typing.Expressions.{as_value, as_truth}
use Rattle.lt_tree.specs.Typing.StatementTyping.{optional_expression, optional_test}
use Rattle.lt_unit.specs.UnitViews.{optional_walk}

pub test_walk : (x : Option c.Expression) (k : Known) → optional_walk x as_truth k ≡ optional_test x k
test_walk None k = refl
test_walk (Some x) k = refl

pub value_walk : (x : Option c.Expression) (k : Known) → optional_walk x as_value k ≡ optional_expression x k
value_walk None k = refl
value_walk (Some x) k = refl
